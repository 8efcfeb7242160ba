-- `complex::raw::cadd` meets its contract: the definition is the code's own expression.
use Rattle.prelude.proofs.Prelude.{refl, add}
use Rattle.complex.specs.Arithmetic.{cadd}
use Rattle.complex.proofs.raw.cadd.Goals as goal

pub returns : goal.returns
unfolding add cadd
returns c = refl
