use Rattle.prelude.proofs.Prelude.{◌≡◌, ◌+◌, ◌-◌}
use Rattle.text_numbers.specs.Words.{places}
use Rattle.text_numbers.proofs.print.places.Given as goal

abbrev pub invariant-loop-k : goal.invariant-loop-k
invariant-loop-k l = places 20 l.n + 1 ≡ l.k + places (21 - l.k) l.rest
