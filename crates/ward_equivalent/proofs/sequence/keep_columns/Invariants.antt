use Rattle.prelude.proofs.Prelude.{◌≡◌, ◌≤◌, length}
use Rattle.ward_equivalent.proofs.Kept.{KeptTo}
use Rattle.ward_equivalent.proofs.sequence.keep_columns.Given as goal

abbrev pub invariant-loop-q : goal.invariant-loop-q
invariant-loop-q l = (l.q ≤ length l.parts.kept.now) × (length l.work ≡ length l.initial.work) × (length l.solution ≡ length l.initial.solution) × KeptTo l.parts.matrix.n l.parts.matrix.y.now l.parts.outer.now l.parts.kept.now l.allowed l.left l.q l.work
