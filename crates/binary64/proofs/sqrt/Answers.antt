-- `binary64::sqrt` meets its contract, by what its three steps promise (`root-of-steps`).
use Rattle.prelude.proofs.Prelude.{sym, ◌∙◌}
use Rattle.binary64.specs.Root.{first_alone, all_three}
use Rattle.binary64.proofs.RootNearest.{root-of-steps}
use Rattle.binary64.proofs.sqrt.Goals as goal

pub returns-in-Some : goal.returns-in-Some
returns-in-Some c =
    root-of-steps c.args.x _ (rw c.well_formed.0.1 tt) (first_alone (sym c.special.ensures ∙ c.in-Some.is))

pub returns : goal.returns
returns c =
    root-of-steps c.args.x _ (rw c.well_formed.0.1 tt)
    (all_three (sym c.special.ensures ∙ c.in_default.is) _ _ _ c.whole_root-w.ensures c.rounded.ensures)
