-- `dc_flow::refusal::branches_between` meets its contract: each test is the definition's.
use Rattle.prelude.proofs.Prelude.{refl}
use Rattle.refusals.specs.Refusals.{answered}
use Rattle.dc_flow.specs.Dc.{ends_refusal}
use Rattle.dc_flow.proofs.refusal.branches_between.Goals.{then-not-all_below-via-then-not-all_below, then-not-all_below-via-else-not-all_below+then-not-all_below-2}
use Rattle.dc_flow.proofs.refusal.branches_between.Goals as goal

pub returns-then-not-all_below : goal.returns-then-not-all_below
unfolding ends_refusal answered
returns-then-not-all_below c =
    elim c.then-not-all_below.branch [
      | then-not-all_below-via-then-not-all_below w ↦ rw (← c.all_below.ensures, w.if-not-all_below.true)
      | then-not-all_below-via-else-not-all_below+then-not-all_below-2 w ↦ rw (← c.all_below.ensures, w.if-not-all_below.false, ← w.all_below-else-not-all_below.ensures, w.if-not-all_below-2.true)
    ]

pub returns : goal.returns
unfolding ends_refusal
returns c =
    (rw (← c.all_below.ensures, c.if-not-all_below.false, ← c.all_below-else-not-all_below.ensures, c.if-not-all_below-2.false), refl, refl, refl)
