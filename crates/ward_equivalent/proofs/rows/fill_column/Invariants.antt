use Rattle.prelude.proofs.Prelude.{◌≡◌, ℕ, ◌+◌, ◌*◌, ◌≤◌, length, get_or}
use Rattle.complex.specs.{entry_at}
use Rattle.solver.proofs.Passed.{RowsPassed}
use Rattle.ward_equivalent.specs.Inner.Work.{work_row}
use Rattle.ward_equivalent.proofs.rows.fill_column.Given as goal

abbrev pub invariant-loop-k : goal.invariant-loop-k
invariant-loop-k l =
    (l.k ≤ length l.outer) × (length l.front ≡ 2 * (length l.outer * (length l.outer + 1))) × RowsPassed (length l.outer + 1) l.front (λ (i : ℕ). work_row l.matrix.n l.matrix.y.now l.outer i (entry_at l.matrix.n l.matrix.y.now (get_or l.outer i 0) l.bus)) (entry_at (length l.outer + 1) l.initial.front) l.k
