use Rattle.prelude.proofs.Prelude.{◌≡◌, ℕ, ◌*◌, ◌≤◌, length}
use Rattle.complex.specs.{Complex, cadd, cmul, entry}
use Rattle.solver.proofs.Passed.{Mapped}
use Rattle.ward_equivalent.proofs.rows.add_scaled.Given as goal

abbrev pub invariant-loop-j : goal.invariant-loop-j
invariant-loop-j l = (l.j ≤ l.w) × (length l.row ≡ 2 * l.w) × Mapped (λ (k : ℕ) (x : Complex). cadd x (cmul l.factor (entry l.other k))) l.initial.row l.row l.j
