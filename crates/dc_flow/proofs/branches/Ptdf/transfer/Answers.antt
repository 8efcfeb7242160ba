-- `dc_flow::branches::Ptdf::transfer` meets its contract: both ends have a place in the branch's row.
use Rattle.prelude.proofs.Prelude.{ℕ, ◌*◌, ◌+◌, ◌≤◌, ◌<◌, get_or, length, arith, rules}
use Rattle.refusals.specs.Refusals.{limit}
use Rattle.lists.proofs.Ends.{below_at}
use Rattle.dc_flow.specs.Dc.{branch_transfer, transfer}
use Rattle.dc_flow.proofs.OutageLaws.{to_below, reach}
use Rattle.dc_flow.proofs.branches.Ptdf.transfer.Goals.{Start}
use Rattle.dc_flow.proofs.branches.Ptdf.transfer.Goals as goal

module _ (c : Start) where
  place : (i : ℕ) → i < c.args.self.branches.n → (c.args.l * c.args.self.branches.n + i < length c.args.self.factors.now) × (length c.args.self.factors.now ≤ limit * limit)
  place i h = omega (arith, reach (length c.args.self.branches.from.now) c.args.self.branches.n c.args.l i c.requires.1 h c.args.self.branches.counts.1 c.args.self.branches.counts.0, c.args.self.matrix)

  from : (c.args.l * c.args.self.branches.n + get_or c.args.self.branches.from.now c.args.k 0 < length c.args.self.factors.now) × (length c.args.self.factors.now ≤ limit * limit)
  from = place (get_or c.args.self.branches.from.now c.args.k 0) (below_at c.args.self.branches.n c.args.self.branches.from.now c.args.k c.args.self.branches.ends.0 c.requires.0)

  to : (c.args.l * c.args.self.branches.n + get_or c.args.self.branches.to.now c.args.k 0 < length c.args.self.factors.now) × (length c.args.self.factors.now ≤ limit * limit)
  to =
      place (get_or c.args.self.branches.to.now c.args.k 0)
      (to_below c.args.self.branches.n c.args.k c.args.self.branches.from.now c.args.self.branches.to.now c.args.self.branches.ends.1 c.args.self.branches.counts.2 c.requires.0)

pub overflow_mul-row : goal.overflow_mul-row
overflow_mul-row c = omega (arith, from (goal.at.overflow_mul-row c).Start)

pub overflow_add-from : goal.overflow_add-from
overflow_add-from c = omega (arith, from (goal.at.overflow_add-from c).Start)

pub overflow_add-to : goal.overflow_add-to
overflow_add-to c = omega (arith, to (goal.at.overflow_add-to c).Start)

pub offset_bounds-self-from : goal.offset_bounds-self-from
offset_bounds-self-from c = omega (arith, from (goal.at.offset_bounds-self-from c).Start)

pub bounds-self-from : goal.bounds-self-from
bounds-self-from c = omega (arith, from (goal.at.bounds-self-from c).Start)

pub offset_bounds-self-to : goal.offset_bounds-self-to
offset_bounds-self-to c = omega (arith, to (goal.at.offset_bounds-self-to c).Start)

pub bounds-self-to : goal.bounds-self-to
bounds-self-to c = omega (arith, to (goal.at.bounds-self-to c).Start)

pub returns : goal.returns
unfolding branch_transfer transfer
returns c = search rules
