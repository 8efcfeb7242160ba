-- `rei_equivalent::compute` meets its contract.
use Rattle.prelude.proofs.Prelude.{◌∙◌, sym, refl}
use Rattle.std.proofs.lemmas.Result.{err_from_is_err_and}
use Rattle.refusals.specs.declared.Refusal.TheVariants.{GivenNotFinite, ComputedNotFinite}
use Rattle.refusals.proofs.Answering.{accepted}
use Rattle.complex.specs.{one}
use Rattle.rei_equivalent.specs.Rei.{rei_shape_refusal, rei_size, rei_buses, spokes_of}
use Rattle.rei_equivalent.proofs.ReiAnswers.{shape-refused, given-refused, computed-refused, none-refused, after-refused, after-done, rei-accepted}
use Rattle.rei_equivalent.proofs.ReiNumbers.{rei-told}
use Rattle.rei_equivalent.proofs.compute.Goals as goal

pub returns-in_err-check : goal.returns-in_err-check
unfolding rei_shape_refusal rei_size
returns-in_err-check c =
    let p = err_from_is_err_and c.from_residual.result c.from_residual.ensures.1 in
    rw (p.1, p.2) (after-refused _ _ (shape-refused _ _ _ c.in_err-check.ensures))

pub returns-then-not-given_finite : goal.returns-then-not-given_finite
unfolding rei_shape_refusal rei_size
returns-then-not-given_finite c =
    after-refused _ GivenNotFinite (given-refused _ _ c.in_ok-check.ensures (sym c.given_finite.ensures ∙ c.if-not-given_finite.true))

pub invariant_of-y : goal.invariant_of-y
invariant_of-y c =
    let g = rei-accepted 0 _ _ _ _ _ _ _ _ (sym (accepted (tt {0}) (tt {0}) _ _ c.in_ok-check.ensures).0) refl in
    record { sizes = (g.6, g.0, g.1) }

pub returns-then-not-computed_finite : goal.returns-then-not-computed_finite
unfolding rei_shape_refusal rei_size
returns-then-not-computed_finite c =
    after-refused _ ComputedNotFinite (computed-refused _ _ c.in_ok-check.ensures (sym c.given_finite.ensures ∙ c.if-not-given_finite.false)
    (sym (rei-told _ _ _ _ _ _ _ c.sum-p.ensures c.sum-q.ensures c.computed_finite.ensures) ∙ c.if-not-computed_finite.true))

pub join_lists-requires : goal.join_lists-requires
join_lists-requires c = (rei-accepted 0 _ _ _ _ _ _ _ _ (sym (accepted (tt {0}) (tt {0}) _ _ c.in_ok-check.ensures).0) refl).2

pub spoke_all-requires : goal.spoke_all-requires
spoke_all-requires c = (rei-accepted 0 _ _ _ _ _ _ _ _ (sym (accepted (tt {0}) (tt {0}) _ _ c.in_ok-check.ensures).0) refl).3

pub tie_all-count-requires-clause-room : goal.tie_all-count-requires-clause-room
tie_all-count-requires-clause-room c =
    let g = rei-accepted 0 _ _ _ _ _ _ _ _ (sym (accepted (tt {0}) (tt {0}) _ _ c.in_ok-check.ensures).0) refl in
    (g.4, g.5)

pub returns : goal.returns
unfolding rei_shape_refusal rei_size rei_buses spokes_of one
returns c =
    after-done _ _ _ _ _ _ _ _
    (none-refused _ _ c.in_ok-check.ensures (sym c.given_finite.ensures ∙ c.if-not-given_finite.false)
    (sym (rei-told _ _ _ _ _ _ _ c.sum-p.ensures c.sum-q.ensures c.computed_finite.ensures) ∙ c.if-not-computed_finite.false))
    c.sum-p.ensures c.sum-q.ensures c.join_lists.ensures c.spoke_all.ensures c.tie_all-count.ensures
