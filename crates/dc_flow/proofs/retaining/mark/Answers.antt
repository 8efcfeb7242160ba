-- `dc_flow::retaining::mark` meets its contract.
use Rattle.prelude.proofs.Prelude.{arith}
use Rattle.dc_flow.proofs.RetainedLaws.{unmarked-yet, all-marked, mark-next, mark-none}
use Rattle.dc_flow.proofs.retaining.mark.Goals.{else-bus-marks, then-bus-marks}
use Rattle.dc_flow.proofs.retaining.mark.Goals as goal

pub loop-bus-init : goal.loop-bus-init
loop-bus-init c = unmarked-yet c.args.list.now c.args.marks.now c.requires

pub loop-bus-preserved : goal.loop-bus-preserved
loop-bus-preserved c =
    elim c.if-bus-marks.branch [
      | then-bus-marks w ↦ rw w.marks-is (mark-next c.args.list.now c.loop-bus.marks c.loop-bus.bus-index c.loop-bus-test.true c.loop-bus.invariant w.if-bus-marks.true)
      | else-bus-marks w ↦ rw w.marks-is (mark-none c.args.list.now c.loop-bus.marks c.loop-bus.bus-index c.loop-bus-test.true c.loop-bus.invariant (λ below. omega (arith, w.if-bus-marks.false)))
    ]

pub returns : goal.returns
returns c = all-marked c.args.list.now c.loop-bus.marks c.loop-bus.bus-index c.loop-bus-test.false c.loop-bus.invariant
