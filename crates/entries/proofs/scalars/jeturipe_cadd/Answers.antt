-- `entries::scalars::jeturipe_cadd` meets its contract.
use Rattle.prelude.proofs.Prelude.{◌++◌}
use Rattle.complex.specs.{cadd, of_parts, of_sum}
use Rattle.complex.specs.Arithmetic.{complex_of}
use Rattle.complex.specs.Leaves.{sum}
use Rattle.entries.proofs.SinglesLaws.{pair-told, given-of-sum}
use Rattle.entries.proofs.scalars.jeturipe_cadd.Goals as goal

pub returns : goal.returns
unfolding sum
returns c =
    let a = complex_of c.args.a_re c.args.a_im in let b = complex_of c.args.b_re c.args.b_im in
    pair-told (of_parts a ++ of_parts b) (of_sum a b) (given-of-sum a b) (cadd a b) _ _ _ _ _ c.cadd.ensures
    c.pairs_finite.ensures c.give_pair.ensures.0 c.give_pair.ensures.1
