-- `ward_equivalent::sequence::entries_finite` meets its contract. The invariant: the rows before that of the bus are finite.
use Rattle.prelude.proofs.Prelude.{ap, not}
use Rattle.prelude.proofs.Prelude.{ℕ, ◌<◌, arith, length, get_or}
use Rattle.ward_equivalent.specs.Inner.Work.{less_product}
use Rattle.ward_equivalent.specs.Inner.Sequence.{FinitePair}
use Rattle.ward_equivalent.proofs.Places.{listed_below}
use Rattle.ward_equivalent.proofs.Tests.{tells-lost, tells-held, every_more, told-true}
use Rattle.ward_equivalent.proofs.sequence.entries_finite.Goals as goal

pub loop-bus-init : goal.loop-bus-init
loop-bus-init c = λ (i : ℕ) l. absurd (omega arith)

pub row_finite-requires : goal.row_finite-requires
row_finite-requires c =
    (listed_below c.args.parts.matrix.n c.args.parts.matrix.y.now c.args.parts.kept.now c.args.parts.retained c.loop-bus.bus-index c.loop-bus-test.true, c.requires.0, c.requires.1)

pub returns-then-not-row_finite : goal.returns-then-not-row_finite
returns-then-not-row_finite c = tells-lost _ λ all. c.row_finite.ensures.fails (c.if-not-row_finite.true) (all c.loop-bus.bus-index c.loop-bus-test.true)

pub loop-bus-preserved : goal.loop-bus-preserved
loop-bus-preserved c =
    every_more (λ (i : ℕ). (q : ℕ) → q < length c.args.parts.kept.now → FinitePair (less_product c.args.parts.matrix.n c.args.parts.matrix.y.now c.args.parts.outer.now c.args.parts.kept.now c.args.columns.w c.args.columns.work.now c.args.columns.column (get_or c.args.parts.kept.now i 0) q)) c.loop-bus.bus-index c.loop-bus.invariant
    (c.row_finite.ensures.holds (told-true c.row_finite.result (ap not c.if-not-row_finite.false)))

pub returns : goal.returns
returns c = tells-held _ λ (p : ℕ) h. c.loop-bus.invariant p (omega arith)
