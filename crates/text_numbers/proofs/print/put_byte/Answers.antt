-- `text_numbers::print::put_byte` meets its contract.
use Rattle.prelude.proofs.Prelude.{arith}
use Rattle.text_numbers.proofs.Writing.{one_byte}
use Rattle.text_numbers.proofs.print.put_byte.Goals as goal

pub returns : goal.returns
returns c = one_byte c.args.out.now c.args.at c.args.b (omega arith)
