-- `complex::slices::clear` meets its contract.
use Rattle.std.proofs.Common.{rules}
use Rattle.complex.specs.Constants.{plus0}
use Rattle.complex.specs.Matrices.{zeros}
use Rattle.complex.proofs.slices.clear.Goals as goal

pub returns : goal.returns
unfolding zeros plus0
returns c = search rules
