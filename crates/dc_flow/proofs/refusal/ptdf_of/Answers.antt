-- `dc_flow::refusal::ptdf_of` meets its contract: each test is the definition's.
use Rattle.prelude.proofs.Prelude.{refl, eq-eqb, ne_eqb}
use Rattle.std.proofs.lemmas.Result.{err_from_is_err_and}
use Rattle.refusals.specs.Refusals.{answered}
use Rattle.dc_flow.specs.Dc.{lodf_shape_refusal}
use Rattle.dc_flow.proofs.refusal.ptdf_of.Goals.{then-factors-m-via-then-factors-m, then-factors-m-via-else-factors-m+then-len-m}
use Rattle.dc_flow.proofs.refusal.ptdf_of.Goals as goal

pub returns-then-over : goal.returns-then-over
unfolding lodf_shape_refusal answered
returns-then-over c = rw (← c.over.ensures, c.if-over.true)

pub returns-then-factors-m : goal.returns-then-factors-m
unfolding lodf_shape_refusal answered
returns-then-factors-m c =
    elim c.then-factors-m.branch [
      | then-factors-m-via-then-factors-m w ↦ rw (← c.over.ensures, c.if-over.false, ne_eqb _ _ w.if-factors-m.true)
      | then-factors-m-via-else-factors-m+then-len-m w ↦ rw (← c.over.ensures, c.if-over.false, eq-eqb _ _ w.if-factors-m.false, ne_eqb _ _ w.if-len-m.true)
    ]

pub returns-then-to-m : goal.returns-then-to-m
unfolding lodf_shape_refusal answered
returns-then-to-m c = rw (← c.over.ensures, c.if-over.false, eq-eqb _ _ c.if-factors-m.false, eq-eqb _ _ c.if-len-m.false, ne_eqb _ _ c.if-to-m.true)

pub returns-in_err-branches_between : goal.returns-in_err-branches_between
unfolding lodf_shape_refusal
returns-in_err-branches_between c =
    let p = err_from_is_err_and c.from_residual.result c.from_residual.ensures.1 in
    rw (p.1, p.2, ← c.over.ensures, c.if-over.false, eq-eqb _ _ c.if-factors-m.false, eq-eqb _ _ c.if-len-m.false, eq-eqb _ _ c.if-to-m.false)
    c.in_err-branches_between.ensures

pub returns : goal.returns
unfolding lodf_shape_refusal
returns c =
    let b = c.in_ok-branches_between.ensures in
    (rw (← c.over.ensures, c.if-over.false, eq-eqb _ _ c.if-factors-m.false, eq-eqb _ _ c.if-len-m.false, eq-eqb _ _ c.if-to-m.false) b.0, refl, b.1, b.2, b.3)
