use Rattle.prelude.proofs.Prelude.{◌≡◌, ◌*◌, ◌≤◌, length}
use Rattle.complex.specs.{entry_at}
use Rattle.solver.proofs.Passed.{RowsPassed}
use Rattle.solver.specs.Inner.Work.{right_sides}
use Rattle.solver.proofs.blocks.Columns.take.Given as goal

abbrev pub invariant-loop-i : goal.invariant-loop-i
invariant-loop-i l =
    (l.i ≤ l.self.n) × (length l.to ≡ 2 * (l.self.n * l.self.m)) × RowsPassed l.self.m l.to (right_sides l.self.at (entry_at l.self.w l.work)) (entry_at l.self.m l.initial.to) l.i
