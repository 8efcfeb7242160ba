-- `complex::cmul` meets its contract: the product tells of all numbers on the way.
use Rattle.complex.specs.Arithmetic.{cmul}
use Rattle.complex.specs.Computed.{of_product}
use Rattle.complex.specs.Leaves.{product}
use Rattle.complex.proofs.Leaves.{tested}
use Rattle.complex.proofs.Sticky.{product-tells}
use Rattle.complex.proofs.cmul.Goals as goal

pub returns : goal.returns
unfolding product
returns c =
    let a = c.args.a in let b = c.args.b in
    tested _ _ (cmul a b) (of_product a b) c.cmul.ensures c.if_finite.ensures (product-tells a b)
