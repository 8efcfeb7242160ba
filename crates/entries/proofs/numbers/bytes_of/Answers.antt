-- `entries::numbers::bytes_of` meets its contract.
use Rattle.refusals.proofs.Answering.{held-refused, held-done}
use Rattle.entries.specs.Answers.{answer_after}
use Rattle.entries.proofs.NumbersLaws.{fits}
use Rattle.entries.proofs.numbers.bytes_of.Goals as goal

pub returns-in_err-fits-clause-output : goal.returns-in_err-fits-clause-output
unfolding answer_after
returns-in_err-fits-clause-output g c = held-refused (tt {0}) _ _ _ _ (rw c.SIZE.ensures at c.in_err-fits.ensures)

pub write-requires : goal.write-requires
write-requires g c = fits _ _ _ (rw c.SIZE.ensures at c.in_ok-fits.ensures)

pub returns-clause-output : goal.returns-clause-output
unfolding answer_after
returns-clause-output g c = held-done (tt {0}) _ _ _ tt _ (rw c.SIZE.ensures at c.in_ok-fits.ensures) c.write.ensures
