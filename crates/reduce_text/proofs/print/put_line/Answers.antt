-- `reduce_text::print::put_line` meets its contract: the keyword, the number and the line feed, one behind the other.
use Rattle.prelude.proofs.Prelude.{arith}
use Rattle.reduce_text.specs.Printing.{number_line}
use Rattle.text_numbers.proofs.Writing.{then₃}
use Rattle.reduce_text.proofs.PrintLaws.{length-number-line}
use Rattle.reduce_text.proofs.print.put_line.Goals as goal

pub put-a-requires : goal.put-a-requires
put-a-requires c = omega (arith, c.requires, length-number-line c.args.key.now c.args.n)

pub put_decimal-b-requires : goal.put_decimal-b-requires
put_decimal-b-requires c =
    omega (arith, c.requires, length-number-line c.args.key.now c.args.n, c.put-a.ensures.here, c.put-a.auto.out)

pub put_byte-requires : goal.put_byte-requires
put_byte-requires c =
    omega
    (arith, c.requires, length-number-line c.args.key.now c.args.n, c.put-a.ensures.here, c.put-a.auto.out, c.put_decimal-b.ensures.here, c.put_decimal-b.auto.out)

pub returns : goal.returns
unfolding number_line
returns c =
    then₃ c.requires c.put-a.ensures c.put_decimal-b.ensures c.put_byte.ensures
