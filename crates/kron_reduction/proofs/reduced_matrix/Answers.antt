-- `kron_reduction::reduced_matrix` meets its contract: the input is refused, or the present rows are copied.
use Rattle.prelude.proofs.Prelude.{◌≡◌, rules, length}
use Rattle.std.proofs.lemmas.Result.{err_from_is_err_and}
use Rattle.refusals.specs.Refusals.{limit}
use Rattle.refusals.proofs.Answering.{accepted}
use Rattle.kron_reduction.specs.Reading.{reading_refusal}
use Rattle.kron_reduction.proofs.Reading.{matrix-refused, matrix-holds, matrix-same, matrix-done}
use Rattle.kron_reduction.proofs.reduced_matrix.Goals.{In_ok-reading_refusal, Start}
use Rattle.kron_reduction.proofs.reduced_matrix.Goals as goal

pub returns-in_err-reading_refusal : goal.returns-in_err-reading_refusal
returns-in_err-reading_refusal c =
    let p = err_from_is_err_and c.from_residual.result c.from_residual.ensures.1 in
    rw (p.1, p.2) (matrix-refused _ _ _ _ c.in_err-reading_refusal.ensures)

-- an accepted call
module _ (c : In_ok-reading_refusal) where
  abbrev start : Start
  start = (goal.at.In_ok-reading_refusal c).Start

  full : length start.args.r.active_buses ≡ limit
  full = search rules

  none : reading_refusal 2 start.args.r start.args.y.now (length start.args.out.now) ≡ 0
  none = (accepted (tt {0}) (tt {0}) _ _ c.in_ok-reading_refusal.ensures).0

pub invariant_of-front : goal.invariant_of-front
invariant_of-front c =
    let k = (goal.at.invariant_of-front c).In_ok-reading_refusal in
    let h = matrix-holds _ _ c.args.out.now (none k) (full k) in
    record { fits = (h.room, h.fits) }

pub copy_to-requires : goal.copy_to-requires
copy_to-requires c = matrix-same _ _ _ (none (goal.at.copy_to-requires c).In_ok-reading_refusal)

pub returns : goal.returns
returns c =
    let k = (goal.at.returns c).In_ok-reading_refusal in
    matrix-done _ _ _ (none k) (full k) c.copy_to.new.out c.copy_to.ensures
