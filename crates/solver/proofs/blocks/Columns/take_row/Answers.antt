-- `solver::blocks::Columns::take_row` meets its contract.
use Rattle.prelude.proofs.Prelude.{ap, ◌∙◌, List, ℕ, ◌<◌, Float}
use Rattle.complex.specs.{entry, entry_at}
use Rattle.solver.specs.Inner.Work.{right_sides}
use Rattle.solver.proofs.BlockParts.{block_read}
use Rattle.solver.proofs.RowParts.{row_written}
use Rattle.solver.proofs.blocks.Columns.take_row.Goals as goal

pub returns : goal.returns
returns c =
    row_written c.row_of.ensures c.args.to.now c.copy.new.to c.requires.0.whole c.copy.auto.to (right_sides c.args.self.at (entry_at c.args.self.w c.args.work.now) c.args.i)
    (λ (j : ℕ) (h : j < c.args.self.m). ap (λ (zs : List Float). entry zs j) c.copy.ensures ∙ block_read c.row.ensures c.args.work.now j h)
