use Rattle.prelude.proofs.Prelude.{◌≡◌, ℕ, ◌*◌, ◌≤◌, length, get_or}
use Rattle.complex.specs.{Complex, csub, entry_at}
use Rattle.solver.proofs.Passed.{Mapped}
use Rattle.ward_equivalent.proofs.rows.take_from.Given as goal

abbrev pub invariant-loop-j : goal.invariant-loop-j
invariant-loop-j l = (l.j ≤ length l.kept) × (length l.row ≡ 2 * length l.kept) × Mapped (λ (k : ℕ) (x : Complex). csub (entry_at l.matrix.n l.matrix.y.now l.bus (get_or l.kept k 0)) x) l.initial.row l.row l.j
