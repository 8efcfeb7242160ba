-- `complex::complex_inv` meets its contract.
use Rattle.complex.specs.Constants.{one, plus0}
use Rattle.complex.specs.Leaves.{inverse}
use Rattle.complex.proofs.complex_inv.Goals as goal

pub returns : goal.returns
unfolding one plus0 inverse
returns c = c.cdiv.ensures
