use Rattle.prelude.proofs.Prelude.{ℕ, ◌<◌}
use Rattle.ward_equivalent.specs.Inner.Work.{less_product}
use Rattle.ward_equivalent.specs.Inner.Sequence.{FinitePair}
use Rattle.ward_equivalent.proofs.sequence.row_finite.Given as goal

abbrev pub invariant-loop-q : goal.invariant-loop-q
invariant-loop-q l = (j : ℕ) → j < l.q → FinitePair (less_product l.parts.matrix.n l.parts.matrix.y.now l.parts.outer.now l.parts.kept.now l.columns.w l.columns.work.now l.columns.column l.bus j)
