-- `solver::blocks::Columns::place_row` meets its contract.
use Rattle.prelude.proofs.Prelude.{ap, ◌∙◌, List, ℕ, ◌<◌, Float}
use Rattle.complex.specs.{entry, entry_at}
use Rattle.solver.proofs.BlockParts.{block_written}
use Rattle.solver.proofs.RowParts.{row_read}
use Rattle.solver.proofs.blocks.Columns.place_row.Goals as goal

pub returns : goal.returns
returns c =
    block_written c.row.ensures c.args.work.now c.copy.new.to c.requires.0.full c.copy.auto.to (entry_at c.args.self.m c.args.from.now)
    (λ (j : ℕ) (h : j < c.args.self.m). ap (λ (zs : List Float). entry zs j) c.copy.ensures ∙ row_read c.row_of.ensures c.args.from.now j h)
