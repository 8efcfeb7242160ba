use Rattle.prelude.proofs.Prelude.{◌≡◌, ℕ, ◌*◌, ◌≤◌, length, get_or}
use Rattle.complex.specs.{entry, entry_at}
use Rattle.solver.proofs.Passed.{Put}
use Rattle.ward_equivalent.proofs.rows.pick.Given as goal

abbrev pub invariant-loop-j : goal.invariant-loop-j
invariant-loop-j l = (l.j ≤ length l.columns) × (length l.to ≡ 2 * length l.columns) × Put l.to (λ (k : ℕ). entry_at l.matrix.n l.matrix.y.now l.bus (get_or l.columns k 0)) (entry l.initial.to) l.j
