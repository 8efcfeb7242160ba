-- `entries::scalars::jeturipe_complex_inv` meets its contract.
use Rattle.prelude.proofs.Prelude.{sym, ◌∙◌}
use Rattle.complex.specs.{unit, complex_inv, of_parts, of_quotient}
use Rattle.complex.specs.Arithmetic.{complex_of}
use Rattle.complex.specs.Leaves.{quotient, inverse}
use Rattle.complex.proofs.Leaves.{parts-finite}
use Rattle.entries.proofs.SinglesLaws.{pair-told, given-of-inverse}
use Rattle.entries.proofs.scalars.jeturipe_complex_inv.Goals as goal

pub returns : goal.returns
unfolding inverse quotient complex_inv
returns c =
    let a = complex_of c.args.a_re c.args.a_im in
    pair-told (of_parts a) (of_quotient unit a) (given-of-inverse a) (complex_inv a) _ _ _ _ _ c.complex_inv.ensures
    (c.both_finite.ensures ∙ sym (parts-finite a)) c.give_pair.ensures.0 c.give_pair.ensures.1
