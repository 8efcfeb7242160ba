-- `complex::raw::csub` meets its contract: the definition is the code's own expression.
use Rattle.prelude.proofs.Prelude.{refl, sub}
use Rattle.complex.specs.Arithmetic.{csub}
use Rattle.complex.proofs.raw.csub.Goals as goal

pub returns : goal.returns
unfolding sub csub
returns c = refl
