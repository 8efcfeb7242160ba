-- `solver::rows::scale` meets its contract.
use Rattle.prelude.proofs.Prelude.{ap, ◌∙◌, List, ◌+◌, Float}
use Rattle.complex.specs.{Complex, cmul, put}
use Rattle.solver.proofs.TurnedRows.{scaled-next}
use Rattle.solver.proofs.rows.scale.Goals as goal

pub loop-j-preserved : goal.loop-j-preserved
loop-j-preserved c =
    scaled-next c.args.w c.args.by c.args.row.now c.loop-j.row c.loop-j.to c.loop-j.j c.loop-j-test.true c.loop-j.invariant c.cmul-p.result _ _
    (c.put-in-loop-j.ensures
    ∙ ap (λ (ys : List Float). put ys (c.args.w + c.loop-j.j) c.turn.result) c.put.ensures
    ∙ ap (put (put c.loop-j.row c.loop-j.j c.cmul-p.result) (c.args.w + c.loop-j.j)) c.turn.ensures)
    c.put-in-loop-j-2.ensures
    (c.cmul-p.ensures ∙ ap (λ (x : Complex). cmul x c.args.by) c.get.ensures)
