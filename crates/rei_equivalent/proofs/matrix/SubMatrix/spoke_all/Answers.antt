-- `rei_equivalent::matrix::SubMatrix::spoke_all` meets its contract: the spokes not yet written, written over what stands, are all of them.
use Rattle.prelude.proofs.Prelude.{refl, ◌∙◌, arith, lit≤, le_trans, binary64, of_int}
use lib.IntN.{pos}
use lib.Dec.{le→leb}
use lib.Ieee.{in_float}
use Rattle.complex.specs.{entry_at}
use Rattle.lists.specs.Buses.{up_to}
use Rattle.lists.proofs.Order.{length-up_to}
use Rattle.lists.proofs.Stores.{up_to-end, sets-whole}
use Rattle.rei_equivalent.specs.Rei.{spoke_parts}
use Rattle.rei_equivalent.proofs.TieLaws.{spoke-step, length-spoke_parts}
use Rattle.rei_equivalent.proofs.matrix.SubMatrix.spoke_all.Goals as goal

pub int_to_float-count : goal.int_to_float-count
unfolding in_float
int_to_float-count c = le→leb _ _ (le_trans c.args.self.sizes.1 (lit≤ tt))

pub loop-i-init : goal.loop-i-init
loop-i-init c = refl

pub put-requires : goal.put-requires
put-requires c = omega (arith, c.requires, c.loop-i.auto)

pub loop-i-preserved : goal.loop-i-preserved
loop-i-preserved c =
    let m = c.args.self in
    rw (c.put.ensures, c.spoke.ensures, c.entry.ensures) (spoke-step (of_int binary64 (pos m.n)) (entry_at m.n m.y.now) m.n c.loop-i.i c.loop-i.spokes c.loop-i-test.true ∙ c.loop-i.invariant)

pub returns : goal.returns
unfolding spoke_parts
returns c =
    let m = c.args.self in
    let e = length-spoke_parts (of_int binary64 (pos m.n)) (entry_at m.n m.y.now) (up_to m.n) in
    let u = length-up_to m.n in
    (rw (up_to-end m.n c.loop-i.i c.loop-i-test.false) at c.loop-i.invariant) ∙ sets-whole c.args.spokes.now _ (omega (arith, c.requires))
