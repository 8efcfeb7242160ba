-- `complex::cadd` meets its contract: a sum computes nothing but its parts.
use Rattle.prelude.proofs.Prelude.{refl}
use Rattle.complex.specs.Arithmetic.{cadd}
use Rattle.complex.specs.Computed.{of_sum}
use Rattle.complex.specs.Leaves.{sum}
use Rattle.complex.proofs.Leaves.{tested}
use Rattle.complex.proofs.cadd.Goals as goal

pub returns : goal.returns
unfolding sum
returns c =
    let a = c.args.a in let b = c.args.b in
    tested _ _ (cadd a b) (of_sum a b) c.cadd.ensures c.if_finite.ensures refl
