use Rattle.prelude.proofs.Prelude.{◌≡◌, ◌*◌, ◌≤◌, length}
use Rattle.complex.specs.{entry_at}
use Rattle.solver.proofs.Passed.{RowsPassed}
use Rattle.solver.specs.Inner.Work.{placed}
use Rattle.solver.proofs.blocks.Columns.place.Given as goal

abbrev pub invariant-loop-i : goal.invariant-loop-i
invariant-loop-i l =
    (l.i ≤ l.self.n) × (length l.work ≡ 2 * (l.self.n * l.self.w)) × RowsPassed l.self.w l.work (placed l.self.at l.self.m (entry_at l.self.m l.from) (entry_at l.self.w l.initial.work)) (entry_at l.self.w l.initial.work) l.i
