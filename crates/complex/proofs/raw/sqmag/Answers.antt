-- `complex::raw::sqmag` meets its contract: the definition is the code's own expression.
use Rattle.prelude.proofs.Prelude.{refl, add, mul}
use Rattle.complex.specs.Arithmetic.{sqmag}
use Rattle.complex.proofs.raw.sqmag.Goals as goal

pub returns : goal.returns
unfolding add mul sqmag
returns c = refl
