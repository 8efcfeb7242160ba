-- `complex::csub` meets its contract: a difference computes nothing but its parts.
use Rattle.prelude.proofs.Prelude.{refl}
use Rattle.complex.specs.Arithmetic.{csub}
use Rattle.complex.specs.Computed.{of_difference}
use Rattle.complex.specs.Leaves.{difference}
use Rattle.complex.proofs.Leaves.{tested}
use Rattle.complex.proofs.csub.Goals as goal

pub returns : goal.returns
unfolding difference
returns c =
    let a = c.args.a in let b = c.args.b in
    tested _ _ (csub a b) (of_difference a b) c.csub.ensures c.if_finite.ensures refl
