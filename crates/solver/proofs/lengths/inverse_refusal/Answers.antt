-- `solver::lengths::inverse_refusal` meets its contract.
use Rattle.prelude.proofs.Prelude.{sym, ◌∙◌}
use Rattle.std.proofs.lemmas.Result.{err_from_is_err_and}
use Rattle.refusals.proofs.Numbers.{given-before, given-not}
use Rattle.solver.specs.Calls.{inverse_refusal}
use Rattle.solver.proofs.lengths.inverse_refusal.Goals as goal

pub returns-in_err-inverse_shape_refusal : goal.returns-in_err-inverse_shape_refusal
unfolding inverse_refusal
returns-in_err-inverse_shape_refusal c =
    let p = err_from_is_err_and c.from_residual.result c.from_residual.ensures.1 in
    rw (p.1, p.2) (given-before tt tt _ c.args.mat.now _ c.in_err-inverse_shape_refusal.ensures)

pub returns-then-not-all_finite : goal.returns-then-not-all_finite
unfolding inverse_refusal
returns-then-not-all_finite c =
    given-not tt tt _ c.args.mat.now tt c.in_ok-inverse_shape_refusal.ensures (sym c.all_finite.ensures ∙ c.if-not-all_finite.true)
