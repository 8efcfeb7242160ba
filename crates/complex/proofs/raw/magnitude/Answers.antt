-- `complex::raw::magnitude` meets its contract.
use Rattle.prelude.proofs.Prelude.{add, mul}
use Rattle.complex.specs.Arithmetic.{sqmag}
use Rattle.complex.specs.Magnitude.{magnitude}
use Rattle.complex.proofs.raw.magnitude.Goals as goal

pub returns : goal.returns
unfolding add mul sqmag magnitude
returns c = c.sqrt.ensures.0
