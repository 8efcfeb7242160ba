use Rattle.dc_flow.proofs.RetainedLaws.{Marking}
use Rattle.dc_flow.proofs.retaining.mark.Given as goal

abbrev pub invariant-loop-bus : goal.invariant-loop-bus
invariant-loop-bus l = Marking l.list l.bus-index l.marks
