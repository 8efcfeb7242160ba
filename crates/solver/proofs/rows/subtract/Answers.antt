-- `solver::rows::subtract` meets its contract. The invariant: the entries below j are reduced, the others as they were.
use Rattle.prelude.proofs.Prelude.{ap, ◌∙◌, ℕ}
use Rattle.complex.specs.{Complex, cmul, csub, entry, put}
use Rattle.solver.proofs.Passed.{mapped-more}
use Rattle.solver.proofs.rows.subtract.Goals as goal

pub loop-j-preserved : goal.loop-j-preserved
loop-j-preserved c =
    mapped-more (λ (k : ℕ) (x : Complex). csub x (cmul c.args.factor (entry c.args.pivot.now k))) c.args.row.now c.loop-j.row c.put.new.s c.args.w c.loop-j.j
    c.loop-j-test.true c.loop-j.invariant.1 c.loop-j.invariant.2
    (c.put.ensures ∙ ap (put c.loop-j.row c.loop-j.j) (c.csub.ensures
    ∙ ap (λ (x : Complex). csub x c.product-p.result) c.get-in-loop-j-2.ensures
    ∙ ap (csub (entry c.loop-j.row c.loop-j.j)) (c.product-p.ensures ∙ ap (cmul c.args.factor) c.get.ensures)))
