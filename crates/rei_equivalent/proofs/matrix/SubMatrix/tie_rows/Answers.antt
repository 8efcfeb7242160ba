-- `rei_equivalent::matrix::SubMatrix::tie_rows` meets its contract: the ties not yet written, written over what stands, are all of them.
use Rattle.prelude.proofs.Prelude.{◌≡◌, refl, sym, ◌∙◌, suc, ◌+◌, ◌-◌, ◌*◌, ◌≤◌, arith, drop, add-zero, sub-zero, length-append, length-drop}
use Rattle.complex.specs.{entry_at}
use Rattle.lists.specs.Buses.{up_to}
use Rattle.lists.proofs.Order.{length-up_to}
use Rattle.rei_equivalent.specs.Rei.{all_ties, tie_ends, tie_parts, tie_room}
use Rattle.rei_equivalent.proofs.TieLaws.{left_in_all, of_row, all-step, all_done, few-ties, room-step, write-row, ends-flat, parts-flat}
use Rattle.rei_equivalent.proofs.matrix.SubMatrix.tie_rows.Goals.{In-loop-i}
use Rattle.rei_equivalent.proofs.matrix.SubMatrix.tie_rows.Goals as goal

pub loop-i-init : goal.loop-i-init
loop-i-init c = (rw sub-zero (omega arith), refl, refl, refl)

-- there is room for the ties of the row
more : (c : In-loop-i) → 2 * (c.loop-i.count + (c.args.self.n - (c.loop-i.i + 1))) + tie_room (c.args.self.n - (c.loop-i.i + 1)) ≤ tie_room c.args.self.n
more c =
    let e : c.args.self.n - c.loop-i.i ≡ suc (c.args.self.n - (c.loop-i.i + 1)) = omega (arith, c.loop-i-test.true) in
    let r = rw (e, room-step (c.args.self.n - (c.loop-i.i + 1))) at c.loop-i.invariant.0 in
    omega arith

pub tie_row-count-requires : goal.tie_row-count-requires
tie_row-count-requires c =
    record {
      row = (c.loop-i-test.true, c.requires.buses);
      room = (omega (arith, more (goal.at.tie_row-count-requires c).In-loop-i, c.requires, c.loop-i.auto), omega (arith, c.requires, c.loop-i.auto));
    }

pub loop-i-preserved : goal.loop-i-preserved
loop-i-preserved c =
    let n = c.args.self.n in
    let i = c.loop-i.i in
    let Y = entry_at n c.args.self.y.now in
    let step = all-step c.args.buses.now Y n i c.loop-i-test.true in
    let row = of_row c.args.buses.now Y n i in
    let rest = left_in_all c.args.buses.now Y n (i + 1) in
    let behind = c.tie_row-count.ensures.behind in
    let count = rw (step, length-append) at c.loop-i.invariant.1 in
    let few = few-ties c.args.buses.now (Y i) i (drop (i + 1) (up_to n)) in
    let d = length-drop (i + 1) (up_to n) in
    let u = length-up_to n in (
      omega (arith, more (goal.at.loop-i-preserved c).In-loop-i),
      omega arith,
      rw (c.tie_row-count.ensures.ends_are, behind) (write-row ends-flat row rest c.loop-i.count c.loop-i.ends ∙ (rw step at c.loop-i.invariant.2)),
      rw (c.tie_row-count.ensures.ties_are, behind) (write-row parts-flat row rest c.loop-i.count c.loop-i.ties ∙ (rw step at c.loop-i.invariant.3)),
    )

pub returns : goal.returns
unfolding all_ties tie_ends tie_parts
returns c =
    let e = all_done c.args.buses.now (entry_at c.args.self.n c.args.self.y.now) c.args.self.n c.loop-i.i c.loop-i-test.false in
    record { behind = sym (add-zero c.loop-i.count) ∙ (rw e at c.loop-i.invariant.1); ends_are = (rw e at c.loop-i.invariant.2); ties_are = (rw e at c.loop-i.invariant.3) }
