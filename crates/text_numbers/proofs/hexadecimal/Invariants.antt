use Rattle.prelude.proofs.Prelude.{◌≡◌, ◌*◌, ◌<◌, drop, ◌^◌}
use Rattle.text_numbers.specs.Words.{hex_from, hex_of}
use Rattle.text_numbers.proofs.hexadecimal.Given as goal

abbrev pub invariant-loop-b : goal.invariant-loop-b
invariant-loop-b l = (l.v < 2 ^ (4 * l.b-index)) × (hex_of l.word ≡ hex_from l.v (drop l.b-index l.word))
