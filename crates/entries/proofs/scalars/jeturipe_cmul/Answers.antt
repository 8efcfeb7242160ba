-- `entries::scalars::jeturipe_cmul` meets its contract.
use Rattle.prelude.proofs.Prelude.{◌++◌}
use Rattle.complex.specs.{cmul, of_parts, of_product}
use Rattle.complex.specs.Arithmetic.{complex_of}
use Rattle.complex.specs.Leaves.{product}
use Rattle.entries.proofs.SinglesLaws.{pair-told, given-of-product}
use Rattle.entries.proofs.scalars.jeturipe_cmul.Goals as goal

pub returns : goal.returns
unfolding product
returns c =
    let a = complex_of c.args.a_re c.args.a_im in let b = complex_of c.args.b_re c.args.b_im in
    pair-told (of_parts a ++ of_parts b) (of_product a b) (given-of-product a b) (cmul a b) _ _ _ _ _ c.cmul.ensures
    c.pairs_finite.ensures c.give_pair.ensures.0 c.give_pair.ensures.1
