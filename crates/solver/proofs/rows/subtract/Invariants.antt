use Rattle.prelude.proofs.Prelude.{◌≡◌, ℕ, ◌*◌, ◌≤◌, length}
use Rattle.complex.specs.{Complex, cmul, csub, entry}
use Rattle.solver.proofs.Passed.{Mapped}
use Rattle.solver.proofs.rows.subtract.Given as goal

abbrev pub invariant-loop-j : goal.invariant-loop-j
invariant-loop-j l =
    (l.j ≤ l.w) × (length l.row ≡ 2 * l.w) × Mapped (λ (k : ℕ) (x : Complex). csub x (cmul l.factor (entry l.pivot k))) l.initial.row l.row l.j
