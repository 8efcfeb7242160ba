use Rattle.solver.proofs.TurnedRows.{ScaledTo}
use Rattle.solver.proofs.rows.scale.Given as goal

abbrev pub invariant-loop-j : goal.invariant-loop-j
invariant-loop-j l = ScaledTo l.w l.by l.initial.row l.row l.to l.j
