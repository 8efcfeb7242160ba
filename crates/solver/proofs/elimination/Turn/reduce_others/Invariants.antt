use Rattle.prelude.proofs.Prelude.{◌≡◌, ◌+◌, ◌*◌}
use Rattle.solver.proofs.RowTurns.{Reducing}
use Rattle.solver.proofs.elimination.Turn.reduce_others.Given as goal

abbrev pub invariant-loop-i : goal.invariant-loop-i
invariant-loop-i l = Reducing l.self.n l.self.w l.self.c l.allowed l.left l.i l.initial.work l.work × (l.at ≡ l.i * l.self.w + l.self.c)
