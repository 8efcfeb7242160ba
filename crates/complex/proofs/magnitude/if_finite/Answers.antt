-- `complex::magnitude::if_finite` meets its contract.
use Rattle.prelude.proofs.Prelude.{sym, ◌∙◌, [], ◌∷◌}
use Rattle.complex.proofs.Leaves.{one-finite, real-by}
use Rattle.complex.proofs.magnitude.if_finite.Goals as goal

pub returns : goal.returns
returns c = let x = c.args.x in c.then_some.ensures ∙ real-by (x ∷ []) x _ (c.finite.ensures ∙ sym (one-finite x))
