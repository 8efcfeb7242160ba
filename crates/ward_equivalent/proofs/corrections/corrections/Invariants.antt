use Rattle.prelude.proofs.Prelude.{◌≡◌, ℕ, ◌≤◌, ◌<◌, length, get_or, nan}
use Rattle.solver.proofs.Passed.{Stored}
use Rattle.ward_equivalent.specs.Extended.{voltage_correction, q_compensation}
use Rattle.ward_equivalent.specs.Inner.Listed.{correction_input, CorrectionFinite}
use Rattle.ward_equivalent.proofs.corrections.corrections.Given as goal

abbrev pub invariant-loop-t : goal.invariant-loop-t
invariant-loop-t l =
    (l.t ≤ length l.boundary) × (length l.correction ≡ length l.boundary) × (length l.compensation ≡ length l.boundary)
    × Stored l.correction (λ (k : ℕ). voltage_correction (correction_input l.ties.matrix.n l.ties.matrix.y.now l.ties.outer.now l.ties.voltages.now l.ties.base) (get_or l.boundary k 0)) (λ (k : ℕ). get_or l.initial.correction k nan) l.t
    × Stored l.compensation (λ (k : ℕ). q_compensation (correction_input l.ties.matrix.n l.ties.matrix.y.now l.ties.outer.now l.ties.voltages.now l.ties.base) (get_or l.boundary k 0)) (λ (k : ℕ). get_or l.initial.compensation k nan) l.t
    × ((k : ℕ) → k < l.t → CorrectionFinite (correction_input l.ties.matrix.n l.ties.matrix.y.now l.ties.outer.now l.ties.voltages.now l.ties.base) (get_or l.boundary k 0))
