use Rattle.prelude.proofs.Prelude.{◌≡◌, ◌*◌, ◌≤◌, length}
use Rattle.complex.specs.{entry_at}
use Rattle.solver.proofs.Passed.{RowsPassed}
use Rattle.ward_equivalent.specs.Inner.Work.{picked_row}
use Rattle.ward_equivalent.proofs.rows.submatrix.Given as goal

abbrev pub invariant-loop-p : goal.invariant-loop-p
invariant-loop-p l = (l.p ≤ length l.kept) × (length l.to ≡ 2 * (length l.kept * length l.kept)) × RowsPassed (length l.kept) l.to (picked_row l.matrix.n l.matrix.y.now l.kept) (entry_at (length l.kept) l.initial.to) l.p
