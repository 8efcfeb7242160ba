use Rattle.prelude.proofs.Prelude.{◌≡◌, ◌≤◌, length}
use Rattle.ward_equivalent.specs.Inner.Work.{product_to}
use Rattle.ward_equivalent.proofs.rows.row_times.Given as goal

abbrev pub invariant-loop-k : goal.invariant-loop-k
invariant-loop-k l = (l.k ≤ length l.outer) × (l.sum ≡ product_to l.matrix.n l.matrix.y.now l.outer l.solved.w l.solved.work.now l.bus l.solved.column l.k)
