use Rattle.prelude.proofs.Prelude.{◌≡◌, ◌*◌, ◌≤◌, length}
use Rattle.complex.specs.{entry_at}
use Rattle.solver.proofs.Passed.{RowsPassed}
use Rattle.solver.specs.Inner.Work.{with_identity}
use Rattle.solver.proofs.blocks.Columns.place_ones.Given as goal

abbrev pub invariant-loop-i : goal.invariant-loop-i
invariant-loop-i l =
    (l.i ≤ l.self.n) × (length l.work ≡ 2 * (l.self.n * l.self.w)) × RowsPassed l.self.w l.work (with_identity l.self.at (entry_at l.self.w l.initial.work)) (entry_at l.self.w l.initial.work) l.i
