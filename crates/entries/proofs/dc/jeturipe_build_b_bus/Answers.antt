-- `entries::dc::jeturipe_build_b_bus` meets its contract.
use Rattle.entries.proofs.dc.jeturipe_build_b_bus.Goals as goal

pub returns : goal.returns
returns c = (rw (← c.build_b_bus.ensures.answer) c.number_of.ensures, c.build_b_bus.ensures.output)
