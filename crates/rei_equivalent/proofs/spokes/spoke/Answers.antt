-- `rei_equivalent::spokes::spoke` meets its contract: the test on the magnitude picks the same case on both sides.
use Rattle.complex.specs.{small_magnitude, plus0}
use Rattle.rei_equivalent.specs.Rei.{spoke}
use Rattle.rei_equivalent.proofs.spokes.spoke.Goals as goal

pub returns-then-not-has_spoke : goal.returns-then-not-has_spoke
unfolding spoke small_magnitude plus0
returns-then-not-has_spoke c = rw (← c.has_spoke.ensures, c.if-not-has_spoke.true)

pub returns : goal.returns
unfolding spoke small_magnitude plus0
returns c = rw (← c.has_spoke.ensures, c.if-not-has_spoke.false)
