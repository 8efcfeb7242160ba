-- `text_numbers::print::put_hex` meets its contract.
use Rattle.prelude.proofs.Prelude.{sym, ap, ℕ, ◌+◌, arith}
use Rattle.text_numbers.specs.Words.{hex}
use Rattle.text_numbers.proofs.WordLaws.{length-hex}
use Rattle.text_numbers.proofs.print.put_hex.Goals as goal

pub spell-requires : goal.spell-requires
spell-requires c = (omega arith, omega arith, omega (arith, c.requires, length-hex c.args.n))

pub overflow_add-result : goal.overflow_add-result
overflow_add-result c = omega (arith, c.requires, length-hex c.args.n)

pub returns : goal.returns
unfolding hex
returns c =
    record { here = ap (λ (k : ℕ). c.args.at + k) (sym (length-hex c.args.n)); there = c.spell.ensures }
