use Rattle.prelude.proofs.Prelude.{◌≡◌, ◌+◌, ◌*◌, ◌≤◌, length}
use Rattle.complex.specs.{entry_at}
use Rattle.solver.proofs.Passed.{RowsPassed}
use Rattle.ward_equivalent.specs.Inner.Work.{work_matrix}
use Rattle.ward_equivalent.proofs.rows.fill.Given as goal

abbrev pub invariant-loop-k : goal.invariant-loop-k
invariant-loop-k l =
    (l.k ≤ l.e) × (length l.work ≡ 2 * (l.e * (length l.buses + 1))) × RowsPassed (length l.buses + 1) l.work (work_matrix l.matrix.n l.matrix.y.now l.buses l.injections.base l.injections.p.now l.injections.q.now) (entry_at (length l.buses + 1) l.initial.work) l.k
