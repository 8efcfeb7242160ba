-- `complex::raw::cneg` meets its contract: the definition is the code's own expression.
use Rattle.prelude.proofs.Prelude.{refl, neg}
use Rattle.complex.specs.Arithmetic.{cneg}
use Rattle.complex.proofs.raw.cneg.Goals as goal

pub returns : goal.returns
unfolding neg cneg
returns c = refl
