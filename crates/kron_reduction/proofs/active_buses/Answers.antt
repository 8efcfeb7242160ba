-- `kron_reduction::active_buses` meets its contract.
use Rattle.prelude.proofs.Prelude.{ℕ, sub-zero, ◌≡◌, ap, ◌∙◌, arith, rules, length, take}
use Rattle.std.proofs.lemmas.Result.{err_from_is_err_and}
use Rattle.refusals.specs.Refusals.{limit}
use Rattle.refusals.proofs.Answering.{accepted}
use Rattle.kron_reduction.specs.Reading.{active_refusal}
use Rattle.kron_reduction.proofs.Active.{Accepted, active-refused, active-accepted, active-done}
use Rattle.kron_reduction.proofs.active_buses.Goals.{In_ok-active_refusal, Start}
use Rattle.kron_reduction.proofs.active_buses.Goals as goal

pub returns-in_err-active_refusal : goal.returns-in_err-active_refusal
returns-in_err-active_refusal c =
    let p = err_from_is_err_and c.from_residual.result c.from_residual.ensures.1 in
    rw (p.1, p.2) (active-refused _ _ _ c.in_err-active_refusal.ensures)

-- an accepted call
module _ (c : In_ok-active_refusal) where
  abbrev start : Start
  start = (goal.at.In_ok-active_refusal c).Start

  none : active_refusal start.args.r (length start.args.out.now) ≡ 0
  none = (accepted (tt {0}) (tt {0}) _ _ c.in_ok-active_refusal.ensures).0

  full : length start.args.r.active_buses ≡ limit
  full = search rules

  had : Accepted start.args.r (length start.args.out.now)
  had = active-accepted start.args.r (length start.args.out.now) none

pub active_numbers-list-requires : goal.active_numbers-list-requires
active_numbers-list-requires c = let h = had (goal.at.active_numbers-list-requires c).In_ok-active_refusal in (h.room, h.good)

pub slice_bounds-copy_from_slice-end : goal.slice_bounds-copy_from_slice-end
slice_bounds-copy_from_slice-end c =
    let e : length c.active_numbers-list.result ≡ limit = search rules in
    let h = had (goal.at.slice_bounds-copy_from_slice-end c).In_ok-active_refusal in
    omega (arith, h.room, h.long, e)

pub returns : goal.returns
returns c =
    let k = (goal.at.returns c).In_ok-active_refusal in
    let count = length c.args.out.now in
    active-done _ _ (none k) (full k) _
    (c.copy_from_slice.ensures.after ∙ ap (λ (w : ℕ). take w c.active_numbers-list.result) (sub-zero count) ∙ ap (take count) c.active_numbers-list.ensures)
