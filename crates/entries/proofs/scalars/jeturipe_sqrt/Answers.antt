-- `entries::scalars::jeturipe_sqrt` meets its contract.
use Rattle.prelude.proofs.Prelude.{sym, ◌∙◌, [], ◌∷◌}
use Rattle.binary64.specs.Root.{root}
use Rattle.complex.specs.Leaves.{square_root}
use Rattle.complex.proofs.Leaves.{one-finite}
use Rattle.entries.proofs.SinglesLaws.{real-told, given-of-root}
use Rattle.entries.proofs.scalars.jeturipe_sqrt.Goals as goal

pub returns : goal.returns
unfolding square_root
returns c =
    real-told (c.args.x ∷ []) (root c.args.x ∷ []) (given-of-root c.args.x) (root c.args.x) _ _ _ _ _ c.sqrt.ensures
    (c.finite.ensures ∙ sym (one-finite c.args.x)) c.give_real.ensures.0 c.give_real.ensures.1
