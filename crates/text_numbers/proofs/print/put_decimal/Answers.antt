-- `text_numbers::print::put_decimal` meets its contract.
use Rattle.prelude.proofs.Prelude.{sym, ap, ◌∙◌, ℕ, ◌+◌, arith}
use Rattle.text_numbers.specs.Words.{digits, decimal}
use Rattle.text_numbers.specs.Inner.Writing.{written}
use Rattle.text_numbers.proofs.WordLaws.{length-decimal}
use Rattle.text_numbers.proofs.print.put_decimal.Goals as goal

pub spell-requires : goal.spell-requires
spell-requires c =
    (omega arith, omega arith, omega (arith, c.requires, length-decimal c.args.n, c.places-k.ensures.0))

pub overflow_add-result : goal.overflow_add-result
overflow_add-result c =
    omega (arith, c.requires, length-decimal c.args.n, c.places-k.ensures.0)

pub returns : goal.returns
unfolding decimal
returns c =
    let e = c.places-k.ensures.0 in
    record {
      here = ap (λ (k : ℕ). c.args.at + k) (e ∙ sym (length-decimal c.args.n));
      there = c.spell.ensures ∙ ap (λ (k : ℕ). written c.args.out.now c.args.at (digits 10 k c.args.n)) e;
    }
