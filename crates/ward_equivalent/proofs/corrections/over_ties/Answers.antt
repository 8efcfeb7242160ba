-- `ward_equivalent::corrections::over_ties` meets its contract. The invariant: each sum has the terms of the external buses before k.
use Rattle.prelude.proofs.Prelude.{arith, get_or}
use Rattle.complex.specs.{plus0, one}
use Rattle.ward_equivalent.proofs.Places.{listed_below, entry-index}
use Rattle.ward_equivalent.proofs.Ties.{ties-none, ties-more, ties-all}
use Rattle.ward_equivalent.proofs.corrections.over_ties.Goals as goal

pub loop-k-init : goal.loop-k-init
unfolding plus0
loop-k-init c =
    (omega arith, ties-none c.args.ties.matrix.n c.args.ties.matrix.y.now c.args.ties.outer.now c.args.ties.voltages.now c.args.ties.base c.args.bus)

pub at-g-requires : goal.at-g-requires
at-g-requires c =
    entry-index c.args.ties.matrix.n c.args.ties.matrix.y.now c.args.ties.external.full c.args.bus (get_or c.args.ties.outer.now c.loop-k.k 0) c.requires
    (listed_below c.args.ties.matrix.n c.args.ties.matrix.y.now c.args.ties.outer.now c.args.ties.external c.loop-k.k c.loop-k-test.true)

pub loop-k-preserved : goal.loop-k-preserved
unfolding one
loop-k-preserved c = (
  omega arith,
  ties-more c.args.ties.matrix.n c.args.ties.matrix.y.now c.args.ties.outer.now c.args.ties.voltages.now c.args.ties.base c.args.bus c.loop-k.k c.loop-k.weights c.loop-k.weighted c.loop-k.reactive c.magnitude-w.result c.at-g.result c.loop-k.invariant.1 c.at-g.ensures c.magnitude-w.ensures,
)

pub returns : goal.returns
returns c =
    ties-all c.args.ties.matrix.n c.args.ties.matrix.y.now c.args.ties.outer.now c.args.ties.voltages.now c.args.ties.base c.args.bus c.loop-k.k c.loop-k.weights c.loop-k.weighted c.loop-k.reactive c.loop-k.invariant.1 (omega arith)
