-- `solver::elimination::Turn::pivot_row` meets its contract. The invariant: what weighing the rows from `next` on would hold is the pivot's row.
use Rattle.prelude.proofs.Prelude.{◌∙◌, ◌<◌, arith}
use Rattle.complex.specs.{entry_at}
use Rattle.solver.specs.Solving.{operations}
use Rattle.solver.proofs.GaussJordan.{held_first, held_next, held-last, kept-below}
use Rattle.solver.proofs.elimination.Turn.pivot_row.Goals as goal

pub loop-next-init : goal.loop-next-init
loop-next-init c =
    (omega arith, omega arith, held_first operations c.args.self.n (entry_at c.args.self.w c.args.work.now) c.args.self.c)

pub loop-next-preserved : goal.loop-next-preserved
loop-next-preserved c =
    let A = entry_at c.args.self.w c.args.work.now in
    let more : c.loop-next.next < c.args.self.n = omega arith in (
      kept-below operations A c.args.self.c c.args.self.n c.loop-next.held c.loop-next.next c.stronger-held.result c.loop-next.invariant.0 more c.stronger-held.ensures,
      omega arith,
      held_next operations A c.args.self.c c.args.self.n c.loop-next.held c.loop-next.next c.stronger-held.result more c.stronger-held.ensures ∙ c.loop-next.invariant.2,
    )

pub returns : goal.returns
returns c =
    (held-last operations (entry_at c.args.self.w c.args.work.now) c.args.self.c c.args.self.n c.loop-next.held c.loop-next.next c.if-next-self.true ∙ c.loop-next.invariant.2, c.loop-next.invariant.0)
