-- `kron_reduction::making_refusal` meets its contract: the shapes tell, then the numbers.
use Rattle.prelude.proofs.Prelude.{refl, sym, ◌∙◌}
use Rattle.std.proofs.lemmas.Result.{err_from_is_err_and}
use Rattle.refusals.proofs.Numbers.{given-before, given-not, given-all}
use Rattle.kron_reduction.specs.Reducer.{making_refusal}
use Rattle.kron_reduction.proofs.making_refusal.Goals as goal

pub returns-in_err-making_shape_refusal : goal.returns-in_err-making_shape_refusal
unfolding making_refusal
returns-in_err-making_shape_refusal c =
    let p = err_from_is_err_and c.from_residual.result c.from_residual.ensures.1 in
    rw (p.1, p.2) (given-before tt tt _ c.args.y.now _ (c.in_err-making_shape_refusal.ensures _ refl))

pub returns-then-not-all_finite : goal.returns-then-not-all_finite
unfolding making_refusal
returns-then-not-all_finite c = given-not tt tt _ _ _ (c.in_ok-making_shape_refusal.ensures _ refl) (sym c.all_finite.ensures ∙ c.if-not-all_finite.true)

pub returns : goal.returns
unfolding making_refusal
returns c = given-all tt tt _ _ _ (c.in_ok-making_shape_refusal.ensures _ refl) (sym c.all_finite.ensures ∙ c.if-not-all_finite.false)
