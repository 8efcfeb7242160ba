-- `kron_reduction::KronReducer::reading_refusal` meets its contract: the shapes tell, then the numbers.
use Rattle.prelude.proofs.Prelude.{◌≡◌, refl, sym, ◌∙◌, rules, length}
use Rattle.std.proofs.lemmas.Result.{err_from_is_err_and}
use Rattle.refusals.specs.Refusals.{limit}
use Rattle.refusals.proofs.Answering.{accepted}
use Rattle.refusals.proofs.Numbers.{given-before, given-not, given-all}
use Rattle.kron_reduction.specs.Reading.{reading_refusal}
use Rattle.kron_reduction.proofs.Reading.{reading-holds}
use Rattle.kron_reduction.proofs.KronReducer.reading_refusal.Goals.{Start}
use Rattle.kron_reduction.proofs.KronReducer.reading_refusal.Goals as goal

full : (c : Start) → length c.args.self.now.active_buses ≡ limit
full c = search rules

pub returns-in_err-reading_shape_refusal : goal.returns-in_err-reading_shape_refusal
unfolding reading_refusal
returns-in_err-reading_shape_refusal c =
    let p = err_from_is_err_and c.from_residual.result c.from_residual.ensures.1 in
    rw (p.1, p.2) (given-before (tt {0}) (tt {0}) _ _ _ (c.in_err-reading_shape_refusal.ensures c.args.y.now refl))

pub invariant_of-front : goal.invariant_of-front
invariant_of-front c =
    let h = reading-holds c.args.per c.args.self.now c.args.y.now c.args.m (accepted (tt {0}) (tt {0}) _ _ (c.in_ok-reading_shape_refusal.ensures c.args.y.now refl)).0 (full (goal.at.invariant_of-front c).Start) in
    record { fits = (h.room, h.fits) }

pub returns-then-not-is_finite : goal.returns-then-not-is_finite
unfolding reading_refusal
returns-then-not-is_finite c =
    given-not (tt {0}) (tt {0}) _ _ _ (c.in_ok-reading_shape_refusal.ensures c.args.y.now refl) (sym c.is_finite.ensures ∙ c.if-not-is_finite.true)

pub returns : goal.returns
unfolding reading_refusal
returns c =
    given-all (tt {0}) (tt {0}) _ _ _ (c.in_ok-reading_shape_refusal.ensures c.args.y.now refl) (sym c.is_finite.ensures ∙ c.if-not-is_finite.false)
