-- `dc_flow::retained_buses` meets its contract.
use Rattle.prelude.proofs.Prelude.{◌≡◌, refl, ap, ◌∙◌, ℕ, ◌≤◌, arith, rules, length, replicate, eq-eqb, ne_eqb}
use Rattle.std.proofs.Common.{Ok}
use Rattle.refusals.specs.Refusals.{limit, answered}
use Rattle.dc_flow.specs.Dc.{retained_refusal, retained_answer, retained_output}
use Rattle.lists.proofs.Within.{within}
use Rattle.dc_flow.proofs.retained_buses.Goals as goal

pub keep-requires : goal.keep-requires
keep-requires c =
    let few : c.args.n ≤ limit = search within in
    let cleared : c.fill.new.self ≡ replicate (length c.args.retained.now) 0 = search rules in
    (cleared ∙ ap (λ (m : ℕ). replicate m 0) c.if-retained-n.false, omega (arith, few), c.mark.ensures)

pub returns-then-over : goal.returns-then-over
unfolding retained_refusal retained_answer retained_output answered
returns-then-over c = rw (← c.over.ensures, c.if-over.true) (record { answer = refl; output = refl })

pub returns-then-retained-n : goal.returns-then-retained-n
unfolding retained_refusal retained_answer retained_output answered
returns-then-retained-n c = rw (← c.over.ensures, c.if-over.false, ne_eqb _ _ c.if-retained-n.true) (record { answer = refl; output = refl })

pub returns : goal.returns
unfolding retained_refusal retained_answer retained_output answered
returns c =
    rw (← c.over.ensures, c.if-over.false, eq-eqb _ _ c.if-retained-n.false) (record { answer = ap Ok c.keep.ensures.count; output = c.keep.ensures.output })
