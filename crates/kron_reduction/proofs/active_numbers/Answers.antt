-- `kron_reduction::active_numbers` meets its contract. The loop's invariant: the numbers of the rows passed stand in their places, 0 in the others.
use Rattle.prelude.proofs.Prelude.{◌≡◌, sym, ◌≤◌, arith, rules, length}
use Rattle.refusals.specs.Refusals.{limit}
use Rattle.lists.proofs.Fronts.{filling-start}
use Rattle.kron_reduction.proofs.Showing.{places-more, places-end}
use Rattle.kron_reduction.proofs.Reducer.{sound-has}
use Rattle.kron_reduction.proofs.Active.{count-numbers, number_at, row_below}
use Rattle.kron_reduction.proofs.active_numbers.Goals.{Start}
use Rattle.kron_reduction.proofs.active_numbers.Goals as goal

full : (c : Start) → length c.args.r.active_buses ≡ limit
full c = search rules

all-numbers : (c : Start) → length c.args.r.numbers ≡ limit
all-numbers c = search rules

room : (c : Start) → c.args.r.n_buses ≤ limit
room c = (sound-has c.args.r c.requires.1).room

pub bounds-r-i : goal.bounds-r-i
bounds-r-i c = omega (arith, room (goal.at.bounds-r-i c).Start, full (goal.at.bounds-r-i c).Start, c.loop-i-test.true)

pub offset_bounds-r-row : goal.offset_bounds-r-row
offset_bounds-r-row c =
    let low = row_below c.args.r (full (goal.at.offset_bounds-r-row c).Start) c.requires.1 c.loop-i.i c.loop-i-test.true in
    search rules

pub bounds-r-row : goal.bounds-r-row
bounds-r-row c =
    let low = row_below c.args.r (full (goal.at.bounds-r-row c).Start) c.requires.1 c.loop-i.i c.loop-i-test.true in
    omega (arith, c.requires.0, all-numbers (goal.at.bounds-r-row c).Start, low)

pub bounds-list-i : goal.bounds-list-i
bounds-list-i c = omega (arith, room (goal.at.bounds-list-i c).Start, c.loop-i-test.true)

pub loop-i-preserved : goal.loop-i-preserved
loop-i-preserved c =
    places-more _ _ _ _ (count-numbers c.args.r (full (goal.at.loop-i-preserved c).Start) c.requires.1) c.loop-i.invariant _ (room (goal.at.loop-i-preserved c).Start) c.loop-i-test.true (sym (number_at c.args.r (full (goal.at.loop-i-preserved c).Start) c.requires.1 _ c.loop-i-test.true))

pub returns : goal.returns
returns c =
    places-end _ _ _ _ (count-numbers c.args.r (full (goal.at.returns c).Start) c.requires.1) c.loop-i.invariant c.loop-i-test.false

pub loop-i-init : goal.loop-i-init
loop-i-init c = filling-start _ _
