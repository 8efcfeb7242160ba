-- `entries::dc::jeturipe_lodf_matrix` meets its contract.
use Rattle.entries.proofs.dc.jeturipe_lodf_matrix.Goals as goal

pub returns : goal.returns
returns c = (rw (← c.lodf_matrix.ensures.answer) c.number_of.ensures, c.lodf_matrix.ensures.output)
