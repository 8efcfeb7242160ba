-- `solver::blocks::Columns::place_ones` meets its contract. The invariant: the rows before row i have their one, the others are as they were.
use Rattle.prelude.proofs.Prelude.{refl, sym, ◌∙◌, subst, cond, List, ℕ, ◌+◌, ◌*◌, ◌<◌, arith, eqb, Float}
use Rattle.complex.specs.{entry_at, one, plus0, unit, put}
use Rattle.solver.proofs.Passed.{RowsPassed, rows_more}
use Rattle.solver.specs.Inner.Work.{with_identity}
use Rattle.solver.proofs.BlockParts.{one-put, diagonal-same}
use Rattle.solver.proofs.blocks.Columns.place_ones.Goals.{In-loop-i}
use Rattle.solver.proofs.blocks.Columns.place_ones.Goals as goal

pub loop-i-preserved : goal.loop-i-preserved
unfolding one plus0
loop-i-preserved c =
    let A = entry_at c.args.self.w c.args.work.now in
    let more : c.loop-i.i < c.args.self.n = c.loop-i-test.true in
    let col : c.args.self.at + c.loop-i.i < c.args.self.w = omega (arith, c.requires.1) in
    let q = c.args.self.at + c.loop-i.i in (
      omega arith,
      c.put.auto.s ∙ c.loop-i.invariant.1,
      subst (λ (ys : List Float). RowsPassed c.args.self.w ys (with_identity c.args.self.at A) A (c.loop-i.i + 1)) (sym c.put.ensures)
          (rows_more c.args.self.w c.loop-i.work (put c.loop-i.work (c.loop-i.i * c.args.self.w + q) unit) (with_identity c.args.self.at A) A c.loop-i.i (λ (p : ℕ). cond (eqb p q) unit (entry_at c.args.self.w c.loop-i.work c.loop-i.i p))
          (one-put c.args.self.n c.args.self.w c.loop-i.i q c.loop-i.work unit more col c.loop-i.invariant.1)
          (diagonal-same c.args.self.at c.loop-i.i c.args.self.w unit (entry_at c.args.self.w c.loop-i.work) A refl (c.loop-i.invariant.2.ahead c.loop-i.i (omega arith))) c.loop-i.invariant.2),
    )
