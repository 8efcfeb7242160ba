-- `complex::raw::cmul` meets its contract: the definition is the code's own expression.
use Rattle.prelude.proofs.Prelude.{refl, add, sub, mul}
use Rattle.complex.specs.Arithmetic.{cmul}
use Rattle.complex.proofs.raw.cmul.Goals as goal

pub returns : goal.returns
unfolding add sub mul cmul
returns c = refl
