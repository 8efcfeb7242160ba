-- `dc_flow::refusal::branches_to_build` meets its contract: each test is the definition's.
use Rattle.prelude.proofs.Prelude.{eq-eqb, ne_eqb}
use Rattle.refusals.specs.Refusals.{answered}
use Rattle.dc_flow.specs.Dc.{build_shape_refusal}
use Rattle.dc_flow.proofs.refusal.branches_to_build.Goals.{then-to-m-via-then-to-m, then-to-m-via-else-to-m+then-xs-m}
use Rattle.dc_flow.proofs.refusal.branches_to_build.Goals as goal

pub returns-then-over : goal.returns-then-over
unfolding build_shape_refusal answered
returns-then-over c = rw (← c.over.ensures, c.if-over.true)

pub returns-then-len-n : goal.returns-then-len-n
unfolding build_shape_refusal answered
returns-then-len-n c = rw (← c.over.ensures, c.if-over.false, ne_eqb _ _ c.if-len-n.true)

pub returns-then-to-m : goal.returns-then-to-m
unfolding build_shape_refusal answered
returns-then-to-m c =
    elim c.then-to-m.branch [
      | then-to-m-via-then-to-m w ↦ rw (← c.over.ensures, c.if-over.false, eq-eqb _ _ c.if-len-n.false, ne_eqb _ _ w.if-to-m.true)
      | then-to-m-via-else-to-m+then-xs-m w ↦ rw (← c.over.ensures, c.if-over.false, eq-eqb _ _ c.if-len-n.false, eq-eqb _ _ w.if-to-m.false, ne_eqb _ _ w.if-xs-m.true)
    ]

pub returns : goal.returns
unfolding build_shape_refusal
returns c =
    rw (← c.over.ensures, c.if-over.false, eq-eqb _ _ c.if-len-n.false, eq-eqb _ _ c.if-to-m.false, eq-eqb _ _ c.if-xs-m.false) c.branches_between.ensures
