use Rattle.prelude.proofs.Prelude.{◌≡◌, ℕ, ◌*◌, ◌≤◌, length, get_or}
use Rattle.complex.specs.{entry_at}
use Rattle.solver.proofs.Passed.{RowsPassed}
use Rattle.ward_equivalent.specs.Inner.Work.{less_product}
use Rattle.ward_equivalent.proofs.rows.reduced.Given as goal

abbrev pub invariant-loop-p : goal.invariant-loop-p
invariant-loop-p l =
    (l.p ≤ length l.kept) × (length l.to ≡ 2 * (length l.kept * length l.kept)) × RowsPassed (length l.kept) l.to (λ (i : ℕ). less_product l.matrix.n l.matrix.y.now l.outer l.kept l.solved.w l.solved.work.now l.solved.column (get_or l.kept i 0)) (entry_at (length l.kept) l.initial.to) l.p
