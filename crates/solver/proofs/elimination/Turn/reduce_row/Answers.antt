-- `solver::elimination::Turn::reduce_row` meets its contract.
use Rattle.prelude.proofs.Prelude.{ap, ◌∙◌}
use Rattle.complex.specs.{entry, entry_at}
use Rattle.solver.proofs.RowParts.{row-reduced}
use Rattle.solver.proofs.elimination.Turn.reduce_row.Goals as goal

pub returns : goal.returns
unfolding entry_at
returns c =
    row-reduced c.row_of.ensures c.args.self.c c.args.pivot.now c.args.work.now c.subtract.new.row c.get-factor.result c.requires.0 c.subtract.auto.row
    (c.get-factor.ensures ∙ ap (entry c.args.work.now) c.requires.3) c.subtract.ensures
