-- `rei_equivalent::inputs::sum` meets its contract: the rest added to the sum so far gives the whole.
use Rattle.prelude.proofs.Prelude.{refl, add-one, nan, drop_of_length-le, drop-cons}
use Rattle.complex.specs.{plus0}
use Rattle.rei_equivalent.specs.Rei.{total}
use Rattle.rei_equivalent.proofs.inputs.sum.Goals as goal

pub loop-x-init : goal.loop-x-init
unfolding total plus0
loop-x-init c = refl

pub loop-x-preserved : goal.loop-x-preserved
loop-x-preserved c = rw add-one (rw (drop-cons c.args.xs.now c.loop-x.x-index nan c.loop-x-test.true) at c.loop-x.invariant)

pub returns : goal.returns
returns c = rw (drop_of_length-le c.args.xs.now {i = c.loop-x.x-index} c.loop-x-test.false) at c.loop-x.invariant
