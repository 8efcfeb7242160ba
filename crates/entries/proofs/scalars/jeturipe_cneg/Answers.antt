-- `entries::scalars::jeturipe_cneg` meets its contract.
use Rattle.prelude.proofs.Prelude.{sym, ◌∙◌, T}
use Rattle.binary64.specs.Values.{all_finite}
use Rattle.complex.specs.{cneg, of_parts}
use Rattle.complex.specs.Arithmetic.{complex_of}
use Rattle.complex.specs.Leaves.{negative}
use Rattle.complex.proofs.Leaves.{parts-finite}
use Rattle.entries.proofs.SinglesLaws.{pair-told}
use Rattle.entries.proofs.scalars.jeturipe_cneg.Goals as goal

pub returns : goal.returns
unfolding negative
returns c =
    let a = complex_of c.args.a_re c.args.a_im in
    pair-told (of_parts a) (of_parts a) (λ (h : T (all_finite (of_parts a))). h) (cneg a) _ _ _ _ _ c.cneg.ensures
    (c.both_finite.ensures ∙ sym (parts-finite a)) c.give_pair.ensures.0 c.give_pair.ensures.1
