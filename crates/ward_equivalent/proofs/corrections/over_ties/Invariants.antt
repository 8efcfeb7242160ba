use Rattle.prelude.proofs.Prelude.{◌≤◌, length}
use Rattle.ward_equivalent.specs.Inner.Listed.{correction_input}
use Rattle.ward_equivalent.proofs.Ties.{TiesTo}
use Rattle.ward_equivalent.proofs.corrections.over_ties.Given as goal

abbrev pub invariant-loop-k : goal.invariant-loop-k
invariant-loop-k l =
    (l.k ≤ length l.ties.outer.now) × TiesTo (correction_input l.ties.matrix.n l.ties.matrix.y.now l.ties.outer.now l.ties.voltages.now l.ties.base) l.bus l.k l.weights l.weighted l.reactive
