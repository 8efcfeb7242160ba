-- `ward_equivalent::rows::fill_at` meets its contract.
use Rattle.prelude.proofs.Prelude.{arith, rules}
use Rattle.solver.proofs.RowParts.{row_written}
use Rattle.ward_equivalent.specs.Inner.Work.{work_row}
use Rattle.ward_equivalent.proofs.Places.{listed_below, augmented-row}
use Rattle.ward_equivalent.proofs.rows.fill_at.Goals as goal

pub fill_row-requires : goal.fill_row-requires
fill_row-requires c =
    (c.requires.0, listed_below c.args.matrix.n c.args.matrix.y.now c.args.buses.now c.requires.0 c.args.k (omega (arith, c.requires.1, c.requires.2)), search rules)

pub returns : goal.returns
returns c =
    row_written c.row_of.ensures c.args.work.now c.fill_row.new.to c.requires.3 c.fill_row.auto.to (work_row c.args.matrix.n c.args.matrix.y.now c.args.buses.now c.args.k c.args.c)
    (augmented-row c.args.matrix.n c.args.matrix.y.now c.args.buses.now c.args.k c.args.c c.fill_row.new.to c.fill_row.ensures.0 c.fill_row.ensures.1)
