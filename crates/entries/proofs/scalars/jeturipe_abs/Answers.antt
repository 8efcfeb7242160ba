-- `entries::scalars::jeturipe_abs` meets its contract.
use Rattle.prelude.proofs.Prelude.{sym, ◌∙◌, [], ◌∷◌, T}
use Rattle.binary64.specs.Values.{all_finite}
use Rattle.complex.specs.{abs}
use Rattle.complex.specs.Leaves.{absolute}
use Rattle.complex.proofs.Leaves.{one-finite}
use Rattle.entries.proofs.SinglesLaws.{real-told}
use Rattle.entries.proofs.scalars.jeturipe_abs.Goals as goal

pub returns : goal.returns
unfolding absolute
returns c =
    let x = c.args.x in
    real-told (x ∷ []) (x ∷ []) (λ (h : T (all_finite (x ∷ []))). h) (abs x) _ _ _ _ _ c.abs.ensures
    (c.finite.ensures ∙ sym (one-finite x)) c.give_real.ensures.0 c.give_real.ensures.1
