-- `ward_equivalent::rows::reduce_at` meets its contract.
use Rattle.prelude.proofs.Prelude.{rules, get_or}
use Rattle.solver.proofs.RowParts.{row_written}
use Rattle.ward_equivalent.specs.Inner.Work.{less_product}
use Rattle.ward_equivalent.proofs.Places.{listed_below}
use Rattle.ward_equivalent.proofs.rows.reduce_at.Goals as goal

pub reduce_row-requires : goal.reduce_row-requires
reduce_row-requires c =
    (c.requires.0, c.requires.1, listed_below c.args.matrix.n c.args.matrix.y.now c.args.kept.now c.requires.1 c.args.p c.requires.4, c.requires.2, c.requires.3, search rules)

pub returns : goal.returns
returns c =
    row_written c.row_of.ensures c.args.to.now c.reduce_row.new.to c.requires.5 c.reduce_row.auto.to
    (less_product c.args.matrix.n c.args.matrix.y.now c.args.outer.now c.args.kept.now c.args.solved.w c.args.solved.work.now c.args.solved.column (get_or c.args.kept.now c.args.p 0)) c.reduce_row.ensures
