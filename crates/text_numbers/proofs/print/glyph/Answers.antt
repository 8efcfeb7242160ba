-- `text_numbers::print::glyph` meets its contract.
use Rattle.prelude.proofs.Prelude.{arith, lt-ltb, le-ltb}
use Rattle.text_numbers.specs.Words.{glyph}
use Rattle.text_numbers.proofs.print.glyph.Goals as goal

pub returns-then-d-lt10 : goal.returns-then-d-lt10
unfolding glyph
returns-then-d-lt10 c = simp (lt-ltb _ _ c.if-d-lt10.true)

pub returns-else-d-lt10 : goal.returns-else-d-lt10
unfolding glyph
returns-else-d-lt10 c = simp (le-ltb _ _ c.if-d-lt10.false) (omega arith)
