-- `complex::magnitude::abs` meets its contract: a cleared sign leaves a number as finite as it was.
use Rattle.prelude.proofs.Prelude.{sym, ◌∙◌, [], ◌∷◌}
use Rattle.complex.specs.Magnitude.{abs}
use Rattle.complex.specs.Leaves.{absolute}
use Rattle.complex.proofs.Leaves.{real-tested, one-finite, abs-finite}
use Rattle.complex.proofs.magnitude.abs.Goals as goal

pub returns : goal.returns
unfolding absolute
returns c =
    let x = c.args.x in
    real-tested _ _ (abs x) (x ∷ []) c.abs.ensures c.if_finite.ensures (abs-finite x ∙ sym (one-finite x))
