-- `rei_equivalent::matrix::SubMatrix::entry` meets its contract.
use Rattle.complex.specs.{entry_at}
use Rattle.rei_equivalent.proofs.matrix.SubMatrix.entry.Goals as goal

pub returns : goal.returns
unfolding entry_at
returns c = c.get.ensures
