use Rattle.prelude.proofs.Prelude.{◌≡◌, ℕ, ◌≤◌, length, get_or, nan}
use Rattle.solver.proofs.Passed.{Stored}
use Rattle.ward_equivalent.specs.Arithmetic.{injected_p, injected_q}
use Rattle.ward_equivalent.specs.Inner.Work.{product}
use Rattle.ward_equivalent.proofs.rows.injections.Given as goal

abbrev pub invariant-loop-t : goal.invariant-loop-t
invariant-loop-t l =
    (l.t ≤ length l.boundary) × (length l.active ≡ length l.boundary) × (length l.reactive ≡ length l.boundary)
    × Stored l.active (λ (k : ℕ). injected_p l.base (product l.matrix.n l.matrix.y.now l.outer l.solved.w l.solved.work.now (get_or l.boundary k 0) l.solved.column)) (λ (k : ℕ). get_or l.initial.active k nan) l.t
    × Stored l.reactive (λ (k : ℕ). injected_q l.base (product l.matrix.n l.matrix.y.now l.outer l.solved.w l.solved.work.now (get_or l.boundary k 0) l.solved.column)) (λ (k : ℕ). get_or l.initial.reactive k nan) l.t
