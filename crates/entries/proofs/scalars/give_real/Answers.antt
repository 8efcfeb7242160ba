-- `entries::scalars::give_real` meets its contract.
use Rattle.prelude.proofs.Prelude.{refl, ◌∙◌}
use Rattle.complex.specs.Leaves.{real_number}
use Rattle.entries.specs.Singles.{real_after}
use Rattle.entries.proofs.scalars.give_real.Goals as goal

pub returns-in_default : goal.returns-in_default
unfolding real_number real_after
returns-in_default c = rw c.in_default.is (c.number.ensures ∙ c.none_finite.ensures, refl)

pub returns : goal.returns
unfolding real_number real_after
returns c = rw c.in-Some.is (refl, refl)
