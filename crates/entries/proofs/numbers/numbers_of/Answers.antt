-- `entries::numbers::numbers_of` meets its contract.
use Rattle.refusals.proofs.Answering.{held-refused, held-done}
use Rattle.entries.specs.Answers.{answer_after}
use Rattle.entries.proofs.NumbersLaws.{fits}
use Rattle.entries.proofs.numbers.numbers_of.Goals as goal

pub returns-in_err-fits-clause-output : goal.returns-in_err-fits-clause-output
unfolding answer_after
returns-in_err-fits-clause-output g c = held-refused (tt {0}) _ _ _ _ (rw c.SIZE.ensures at c.in_err-fits.ensures)

pub read-requires : goal.read-requires
read-requires g c = fits _ _ _ (rw c.SIZE.ensures at c.in_ok-fits.ensures)

pub returns-clause-output : goal.returns-clause-output
unfolding answer_after
returns-clause-output g c = held-done (tt {0}) _ _ _ tt _ (rw c.SIZE.ensures at c.in_ok-fits.ensures) c.read.ensures
