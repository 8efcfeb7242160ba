use Rattle.prelude.proofs.Prelude.{ℕ, ◌<◌}
use Rattle.complex.specs.{entry_at}
use Rattle.kron_reduction.specs.Inner.Removal.{Fine}
use Rattle.kron_reduction.proofs.careful.Front.row_finite.Given as goal

abbrev pub invariant-loop-j : goal.invariant-loop-j
invariant-loop-j l = (q : ℕ) → q < l.j → Fine l.k (entry_at l.self.n l.self.y.now) l.i q
