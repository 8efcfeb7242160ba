-- `ward_equivalent::rows::pick_at` meets its contract.
use Rattle.prelude.proofs.Prelude.{ap, ◌∙◌, List, ℕ, ◌<◌, rules, length, get_or, Float}
use Rattle.complex.specs.{entry, entry_at}
use Rattle.complex.proofs.Matrices.{entry_row}
use Rattle.solver.proofs.RowParts.{row_written}
use Rattle.ward_equivalent.specs.Inner.Work.{picked_row}
use Rattle.ward_equivalent.proofs.Places.{listed_below}
use Rattle.ward_equivalent.proofs.rows.pick_at.Goals as goal

pub pick-requires : goal.pick-requires
pick-requires c =
    (c.requires.0, listed_below c.args.matrix.n c.args.matrix.y.now c.args.kept.now c.requires.0 c.args.p c.requires.1, search rules)

pub returns : goal.returns
unfolding picked_row
returns c =
    row_written c.row_of.ensures c.args.to.now c.pick.new.to c.requires.2 c.pick.auto.to (picked_row c.args.matrix.n c.args.matrix.y.now c.args.kept.now c.args.p)
    (λ (j : ℕ) (l : j < length c.args.kept.now). ap (λ (us : List Float). entry us j) c.pick.ensures ∙ entry_row (entry_at c.args.matrix.n c.args.matrix.y.now) (get_or c.args.kept.now c.args.p 0) c.args.kept.now j l)
