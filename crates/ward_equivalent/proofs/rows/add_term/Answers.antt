-- `ward_equivalent::rows::add_term` meets its contract.
use Rattle.prelude.proofs.Prelude.{ℕ, ◌<◌, get_or}
use Rattle.solver.specs.Inner.Work.{right_sides}
use Rattle.solver.proofs.BlockParts.{block_read}
use Rattle.ward_equivalent.proofs.Places.{listed_below, entry-index}
use Rattle.ward_equivalent.proofs.rows.add_term.Goals as goal

pub at-requires : goal.at-requires
at-requires c =
    entry-index c.args.matrix.n c.args.matrix.y.now c.requires.0.full c.args.bus (get_or c.args.outer.now c.args.k 0) c.requires.1
    (listed_below c.args.matrix.n c.args.matrix.y.now c.args.outer.now c.requires.0 c.args.k c.requires.2)

pub returns : goal.returns
unfolding right_sides
returns c =
    λ (q : ℕ) (h : q < c.args.r).
    let sum = c.add_scaled.ensures q h in
    let other = block_read c.row.ensures c.args.solved.work.now q h in
    cc
