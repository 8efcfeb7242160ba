-- `complex::cneg` meets its contract: a turned sign leaves a number as finite as it was.
use Rattle.complex.specs.Arithmetic.{cneg}
use Rattle.complex.specs.Computed.{of_parts}
use Rattle.complex.specs.Leaves.{negative}
use Rattle.complex.proofs.Leaves.{tested, turned_same}
use Rattle.complex.proofs.cneg.Goals as goal

pub returns : goal.returns
unfolding negative
returns c =
    let a = c.args.a in
    tested _ _ (cneg a) (of_parts a) c.cneg.ensures c.if_finite.ensures (turned_same a)
