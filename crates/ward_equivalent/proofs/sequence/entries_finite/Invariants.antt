use Rattle.prelude.proofs.Prelude.{ℕ, ◌<◌, length, get_or}
use Rattle.ward_equivalent.specs.Inner.Work.{less_product}
use Rattle.ward_equivalent.specs.Inner.Sequence.{FinitePair}
use Rattle.ward_equivalent.proofs.sequence.entries_finite.Given as goal

abbrev pub invariant-loop-bus : goal.invariant-loop-bus
invariant-loop-bus l =
    (i : ℕ) → i < l.bus-index → (q : ℕ) → q < length l.parts.kept.now → FinitePair (less_product l.parts.matrix.n l.parts.matrix.y.now l.parts.outer.now l.parts.kept.now l.columns.w l.columns.work.now l.columns.column (get_or l.parts.kept.now i 0) q)
