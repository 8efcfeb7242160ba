-- `entries::scalars::give_pair` meets its contract.
use Rattle.prelude.proofs.Prelude.{refl, ◌∙◌}
use Rattle.complex.specs.Leaves.{pair_number}
use Rattle.entries.specs.Singles.{pair_after}
use Rattle.entries.proofs.scalars.give_pair.Goals as goal

pub returns-in_default : goal.returns-in_default
unfolding pair_number pair_after
returns-in_default c = rw c.in_default.is (c.number.ensures ∙ c.none_finite.ensures, refl)

pub returns : goal.returns
unfolding pair_number pair_after
returns c = rw c.in-Some.is (refl, refl)
