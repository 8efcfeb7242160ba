-- `binary64::words::to_word` meets its contract: only nan differs from itself, and its pattern is the one written for it.
use Rattle.prelude.proofs.Prelude.{sym}
use Rattle.binary64.proofs.Bits.{differs-nan, same-no-nan}
use Rattle.binary64.proofs.words.to_word.Goals as goal

pub returns-then-x : goal.returns-then-x
returns-then-x c = sym (differs-nan c.args.x c.if-x.true)

pub float_to_bits-result : goal.float_to_bits-result
float_to_bits-result c = same-no-nan c.args.x c.if-x.false
