use Rattle.prelude.proofs.Prelude.{◌≡◌, length}
use Rattle.text_numbers.specs.Words.{digits}
use Rattle.text_numbers.specs.Inner.Writing.{written}
use Rattle.text_numbers.proofs.print.spell.Given as goal

abbrev pub invariant-loop-i : goal.invariant-loop-i
invariant-loop-i l =
    (length l.out ≡ length l.initial.out) × (written l.out l.at (digits l.base l.i l.rest) ≡ written l.initial.out l.at (digits l.base l.k l.n))
