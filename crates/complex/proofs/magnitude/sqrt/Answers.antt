-- `complex::magnitude::sqrt` meets its contract.
use Rattle.prelude.proofs.Prelude.{sym, [], ◌∷◌}
use Rattle.binary64.specs.Root.{root}
use Rattle.complex.specs.Leaves.{square_root}
use Rattle.complex.proofs.Leaves.{real-tested, one-finite}
use Rattle.complex.proofs.magnitude.sqrt.Goals as goal

pub returns : goal.returns
unfolding square_root
returns c =
    let x = c.args.x in
    real-tested _ _ (root x) (root x ∷ []) c.sqrt.ensures.0 c.if_finite.ensures (sym (one-finite (root x)))
