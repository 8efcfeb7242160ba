use Rattle.prelude.proofs.Prelude.{ℕ, ◌<◌}
use Rattle.complex.specs.{entry_at}
use Rattle.kron_reduction.specs.Inner.Removal.{Fine}
use Rattle.kron_reduction.proofs.careful.Front.rows_finite.Given as goal

abbrev pub invariant-loop-i : goal.invariant-loop-i
invariant-loop-i l = (p : ℕ) → p < l.i → (q : ℕ) → q < l.self.n → Fine l.k (entry_at l.self.n l.self.y.now) p q
