use Rattle.prelude.proofs.Prelude.{◌≡◌, ℕ, ◌+◌, ◌*◌, ◌≤◌, ◌<◌, length}
use Rattle.complex.specs.{entry}
use Rattle.ward_equivalent.specs.Inner.Work.{product_to}
use Rattle.ward_equivalent.proofs.rows.add_products.Given as goal

abbrev pub invariant-loop-k : goal.invariant-loop-k
invariant-loop-k l = (l.k ≤ length l.outer) × (length l.to ≡ 2 * l.r) × ((q : ℕ) → q < l.r → entry l.to q ≡ product_to l.matrix.n l.matrix.y.now l.outer l.solved.w l.solved.work.now l.bus (l.solved.column + q) l.k)
