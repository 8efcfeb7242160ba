-- `reduce_text::print::put_refused` meets its contract.
use Rattle.prelude.proofs.Prelude.{◌≡◌, ap, ◌∙◌, [], ◌∷◌, ℕ, arith, length}
use Rattle.refusals.specs.Refusals.{number}
use Rattle.text_numbers.specs.Words.{decimal}
use Rattle.reduce_text.specs.Printing.{refused_text}
use Rattle.text_numbers.proofs.Writing.{then₃}
use Rattle.reduce_text.proofs.PrintLaws.{length-number-line, length-refused}
use Rattle.reduce_text.proofs.print.put_refused.Goals.{After-from}
use Rattle.reduce_text.proofs.print.put_refused.Goals as goal

pub put-a-requires : goal.put-a-requires
put-a-requires c =
    omega (arith, c.requires, length-refused (number c.args.refusal) c.args.bus)

-- the number that is printed
printed : (c : After-from) → c.from.result ≡ number c.args.refusal
printed c = c.from.ensures ∙ c.number.ensures

long : (c : After-from) → length (decimal c.from.result) ≡ length (decimal (number c.args.refusal))
long c = ap (λ (k : ℕ). length (decimal k)) (printed c)

pub put_decimal-b-requires : goal.put_decimal-b-requires
put_decimal-b-requires c =
    let l = long (goal.at.put_decimal-b-requires c).After-from in
    omega (arith, c.requires, length-refused (number c.args.refusal) c.args.bus, c.put-a.ensures.here, c.put-a.auto.out)

pub put_line-requires : goal.put_line-requires
put_line-requires c =
    let l = long (goal.at.put_line-requires c).After-from in
    omega
    (arith, c.requires, length-refused (number c.args.refusal) c.args.bus, length-number-line (32 ∷ []) c.args.bus, c.put-a.ensures.here, c.put-a.auto.out, c.put_decimal-b.ensures.here, c.put_decimal-b.auto.out)

pub returns : goal.returns
unfolding refused_text
returns c =
    then₃ c.requires c.put-a.ensures (rw (printed (goal.at.returns c).After-from) at c.put_decimal-b.ensures) c.put_line.ensures
