-- `entries::dc::jeturipe_retained_buses` meets its contract.
use Rattle.entries.proofs.dc.jeturipe_retained_buses.Goals as goal

pub returns : goal.returns
returns c =
    (rw (← c.retained_buses-answer.ensures.answer) c.number_of.ensures, c.retained_buses-answer.ensures.output, rw (← c.retained_buses-answer.ensures.answer) c.give.ensures)
