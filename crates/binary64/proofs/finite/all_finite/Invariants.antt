use Rattle.binary64.specs.Values.{all_finite}
use Rattle.binary64.proofs.Flags.{Flagged}
use Rattle.binary64.proofs.finite.all_finite.Given as goal

abbrev pub invariant-loop-x : goal.invariant-loop-x
invariant-loop-x l = Flagged all_finite l.s l.all l.x-index
