-- `solver::blocks::Columns::place` meets its contract. The invariant: the rows before row i have the block, the others are as they were.
use Rattle.prelude.proofs.Prelude.{◌∙◌, arith}
use Rattle.solver.proofs.Passed.{rows_more}
use Rattle.solver.proofs.BlockParts.{placed_same}
use Rattle.solver.proofs.blocks.Columns.place.Goals as goal

pub loop-i-preserved : goal.loop-i-preserved
loop-i-preserved c =
    (omega arith, c.place_row.auto.work ∙ c.loop-i.invariant.1, rows_more _ _ _ _ _ _ _ c.place_row.ensures (placed_same _ _ _ _ _ _ _ (c.loop-i.invariant.2.ahead _ (omega arith))) c.loop-i.invariant.2)
