-- `entries::scalars::jeturipe_csub` meets its contract.
use Rattle.prelude.proofs.Prelude.{◌++◌}
use Rattle.complex.specs.{csub, of_parts, of_difference}
use Rattle.complex.specs.Arithmetic.{complex_of}
use Rattle.complex.specs.Leaves.{difference}
use Rattle.entries.proofs.SinglesLaws.{pair-told, given-of-difference}
use Rattle.entries.proofs.scalars.jeturipe_csub.Goals as goal

pub returns : goal.returns
unfolding difference
returns c =
    let a = complex_of c.args.a_re c.args.a_im in let b = complex_of c.args.b_re c.args.b_im in
    pair-told (of_parts a ++ of_parts b) (of_difference a b) (given-of-difference a b) (csub a b) _ _ _ _ _ c.csub.ensures
    c.pairs_finite.ensures c.give_pair.ensures.0 c.give_pair.ensures.1
