-- `solver::lengths::solve_refusal` meets its contract.
use Rattle.prelude.proofs.Prelude.{◌≡◌, false, ◌++◌, arith}
use Rattle.std.proofs.lemmas.Grind.{common_steps}
use Rattle.std.proofs.lemmas.Result.{err_from_is_err_and}
use Rattle.binary64.specs.Values.{all_finite}
use Rattle.complex.proofs.Finite.{all_both}
use Rattle.refusals.proofs.Numbers.{given-before, given-not}
use Rattle.solver.specs.Calls.{solve_refusal}
use Rattle.solver.proofs.lengths.solve_refusal.Goals as goal

pub returns-in_err-solve_shape_refusal : goal.returns-in_err-solve_shape_refusal
unfolding solve_refusal
returns-in_err-solve_shape_refusal c =
    let p = err_from_is_err_and c.from_residual.result c.from_residual.ensures.1 in
    rw (p.1, p.2) (given-before tt tt _ (c.args.a.now ++ c.args.b.now) _ c.in_err-solve_shape_refusal.ensures)

pub returns-then-not-all_finite : goal.returns-then-not-all_finite
unfolding solve_refusal
returns-then-not-all_finite c =
    let lost : all_finite (c.args.a.now ++ c.args.b.now) ≡ false = grind (arith, common_steps, all_both) in
    given-not tt tt _ (c.args.a.now ++ c.args.b.now) tt c.in_ok-solve_shape_refusal.ensures lost
