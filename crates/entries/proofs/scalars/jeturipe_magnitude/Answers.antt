-- `entries::scalars::jeturipe_magnitude` meets its contract.
use Rattle.prelude.proofs.Prelude.{sym, ◌∙◌}
use Rattle.complex.specs.{of_parts, magnitude}
use Rattle.complex.specs.Arithmetic.{complex_of}
use Rattle.complex.specs.Leaves.{of_magnitude, magnitude_of}
use Rattle.complex.proofs.Leaves.{parts-finite}
use Rattle.entries.proofs.SinglesLaws.{real-told, given-of-magnitude}
use Rattle.entries.proofs.scalars.jeturipe_magnitude.Goals as goal

pub returns : goal.returns
unfolding magnitude_of
returns c =
    let x = complex_of c.args.re c.args.im in
    real-told (of_parts x) (of_magnitude x) (given-of-magnitude x) (magnitude x) _ _ _ _ _ c.magnitude.ensures
    (c.both_finite.ensures ∙ sym (parts-finite x)) c.give_real.ensures.0 c.give_real.ensures.1
