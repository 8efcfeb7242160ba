-- `dc_flow::branches::Outages::rows` meets its contract: the rows of the branches passed stand before what was there.
use Rattle.prelude.proofs.Prelude.{◌≡◌, refl, ◌∙◌, ◌+◌, ◌*◌, ◌≤◌, add-one, arith, length, mul-le-mul, zero-mul, suc-mul}
use Rattle.refusals.specs.Refusals.{limit}
use Rattle.complex.proofs.Matrices.{row_within}
use Rattle.lists.proofs.Fronts.{front-row}
use Rattle.dc_flow.specs.Dc.{real_grid}
use Rattle.dc_flow.specs.Inner.Rows.{outage_of}
use Rattle.dc_flow.proofs.OutageLaws.{length_part, length-real_grid, real_grid-next, real_grid-all}
use Rattle.dc_flow.proofs.branches.Outages.rows.Goals.{In-loop-l}
use Rattle.dc_flow.proofs.branches.Outages.rows.Goals as goal

-- the row is within the output
room : (c : In-loop-l) → let m = length c.args.self.ptdf.branches.from.now in (c.loop-l.l * m + m ≤ length c.args.lodf.now) × (length c.args.lodf.now ≤ limit * limit)
room c =
    let m = length c.args.self.ptdf.branches.from.now in
    let few = c.args.self.ptdf.branches.counts.1 in
    omega (arith, row_within m m c.loop-l.l c.loop-l-test.true, mul-le-mul few few, c.requires)

pub loop-l-init : goal.loop-l-init
unfolding real_grid
loop-l-init c = rw zero-mul

pub loop-l-preserved : goal.loop-l-preserved
loop-l-preserved c =
    let F = outage_of c.args.self.ptdf in
    let l = c.loop-l.l in
    let m = length c.args.self.ptdf.branches.from.now in
    let next : (l + 1) * m ≡ l * m + m = rw (add-one, suc-mul) in
    front-row (real_grid F m l) c.row.new.row c.args.lodf.now c.loop-l.lodf (l * m) m c.loop-l.invariant (length-real_grid F m l)
    ∙ rw (c.row.ensures, real_grid-next F m l, next)

pub row-requires : goal.row-requires
row-requires c =
    let m = length c.args.self.ptdf.branches.from.now in
    (c.loop-l-test.true, length_part (c.loop-l.l * m) m c.loop-l.lodf (omega (arith, room (goal.at.row-requires c).In-loop-l, c.loop-l.auto)))

pub overflow_mul-d : goal.overflow_mul-d
overflow_mul-d c = omega (arith, room c)

pub overflow_add-d : goal.overflow_add-d
overflow_add-d c = omega (arith, room (goal.at.overflow_add-d c).In-loop-l)

pub offset_bounds-lodf-d : goal.offset_bounds-lodf-d
offset_bounds-lodf-d c = omega (arith, room (goal.at.offset_bounds-lodf-d c).In-loop-l)

pub slice_bounds-row-end : goal.slice_bounds-row-end
slice_bounds-row-end c = omega (arith, room (goal.at.slice_bounds-row-end c).In-loop-l)

pub returns : goal.returns
returns c =
    real_grid-all _ _ c.loop-l.l (c.loop-l.l * length c.args.self.ptdf.branches.from.now) c.loop-l.lodf c.args.lodf.now c.loop-l.invariant
    c.loop-l-test.false c.loop-l.auto.l-end refl c.requires
