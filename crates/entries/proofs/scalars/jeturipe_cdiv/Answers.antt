-- `entries::scalars::jeturipe_cdiv` meets its contract.
use Rattle.prelude.proofs.Prelude.{◌++◌}
use Rattle.complex.specs.{cdiv, of_parts, of_quotient}
use Rattle.complex.specs.Arithmetic.{complex_of}
use Rattle.complex.specs.Leaves.{quotient}
use Rattle.entries.proofs.SinglesLaws.{pair-told, given-of-quotient}
use Rattle.entries.proofs.scalars.jeturipe_cdiv.Goals as goal

pub returns : goal.returns
unfolding quotient
returns c =
    let a = complex_of c.args.a_re c.args.a_im in let b = complex_of c.args.b_re c.args.b_im in
    pair-told (of_parts a ++ of_parts b) (of_quotient a b) (given-of-quotient a b) (cdiv a b) _ _ _ _ _ c.cdiv.ensures
    c.pairs_finite.ensures c.give_pair.ensures.0 c.give_pair.ensures.1
