use Rattle.prelude.proofs.Prelude.{◌≡◌, ◌-◌, ◌≤◌, ◌<◌}
use Rattle.complex.specs.{entry_at}
use Rattle.solver.specs.GaussJordan.{held_after, pivot_row}
use Rattle.solver.specs.Solving.{operations}
use Rattle.solver.proofs.elimination.Turn.pivot_row.Given as goal

abbrev pub invariant-loop-next : goal.invariant-loop-next
invariant-loop-next l =
    (l.held < l.self.n) × (l.next ≤ l.self.n) × (held_after operations (entry_at l.self.w l.work) l.self.c l.held l.next (l.self.n - l.next) ≡ pivot_row operations l.self.n (entry_at l.self.w l.work) l.self.c)

abbrev pub decreases-loop-next : goal.decreases-loop-next
decreases-loop-next l = l.self.n - l.next
