-- `binary64::words::of_word` meets its contract: a pattern above the infinity's, the sign's bit taken off, is a NaN's, and reads as nan.
use Rattle.prelude.proofs.Prelude.{sym, of_bits, div}
use Rattle.binary64.proofs.Bits.{above-nan, below_no_nan}
use Rattle.binary64.proofs.words.of_word.Goals as goal

pub returns-then-w-gt9218868437227405312 : goal.returns-then-w-gt9218868437227405312
unfolding div of_bits
returns-then-w-gt9218868437227405312 c = sym (above-nan c.args.w c.if-w-gt9218868437227405312.true)

pub float_from_bits-result : goal.float_from_bits-result
float_from_bits-result c = rw (below_no_nan c.args.w c.if-w-gt9218868437227405312.false) tt
