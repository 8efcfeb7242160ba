-- `solver::elimination::columns` meets its contract.
use Rattle.prelude.proofs.Prelude.{refl}
use Rattle.std.proofs.lemmas.Result.{err_from_is_err_and}
use Rattle.solver.proofs.ColumnSteps.{running-first, running-ended, running-next, running-end}
use Rattle.solver.proofs.elimination.columns.Goals as goal

pub loop-c-init : goal.loop-c-init
loop-c-init c = running-first _ _ _ _ _ c.requires.1 c.requires.2

pub returns-in_err-left : goal.returns-in_err-left
returns-in_err-left c =
    let p = err_from_is_err_and c.from_residual.result c.from_residual.ensures.1 in
    rw (p.1, p.2) (running-ended _ _ _ _ _ _ _ _ c.loop-c.invariant c.run.result c.run.new.work c.loop-c-test.true c.run.ensures c.run.auto.work _ refl c.in_err-left.was)

pub loop-c-preserved : goal.loop-c-preserved
loop-c-preserved c =
    running-next _ _ _ _ _ _ _ _ c.loop-c.invariant c.run.result c.run.new.work c.loop-c-test.true c.run.ensures c.run.auto.work
    c.requires.0 _ c.run.auto.row _ c.in_ok-left.was

pub returns : goal.returns
returns c = running-end _ _ _ _ _ _ _ _ c.loop-c.invariant c.loop-c-test.false
