use Rattle.solver.proofs.ColumnSteps.{Running}
use Rattle.solver.proofs.elimination.columns.Given as goal

abbrev pub invariant-loop-c : goal.invariant-loop-c
invariant-loop-c l = Running l.n l.w l.c l.allowed l.left l.initial.work l.work l.row
