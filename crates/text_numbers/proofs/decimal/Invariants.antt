use Rattle.prelude.proofs.Prelude.{◌≡◌, ◌<◌, drop, ◌^◌}
use Rattle.text_numbers.specs.Words.{decimal_from, decimal_of}
use Rattle.text_numbers.proofs.decimal.Given as goal

abbrev pub invariant-loop-b : goal.invariant-loop-b
invariant-loop-b l = (l.v < 2 ^ 32) × (decimal_of l.word ≡ decimal_from l.v (drop l.b-index l.word))
