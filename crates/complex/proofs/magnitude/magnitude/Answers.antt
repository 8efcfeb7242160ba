-- `complex::magnitude::magnitude` meets its contract: the root of a finite number alone is finite.
use Rattle.complex.specs.Magnitude.{magnitude}
use Rattle.complex.specs.Leaves.{magnitude_of, of_magnitude}
use Rattle.complex.proofs.Leaves.{real-tested}
use Rattle.complex.proofs.Roots.{magnitude-tells}
use Rattle.complex.proofs.magnitude.magnitude.Goals as goal

pub returns : goal.returns
unfolding magnitude_of
returns c =
    let x = c.args.c in
    real-tested _ _ (magnitude x) (of_magnitude x) c.magnitude.ensures c.if_finite.ensures (magnitude-tells x)
