-- `ward_equivalent::rows::fill_row` meets its contract.
use Rattle.prelude.proofs.Prelude.{◌≡◌, ap, ◌∙◌, ◌++◌, ◌+◌, ◌-◌, ◌*◌, ◌<◌, arith, length, drop, length-append, length-drop}
use Rattle.complex.specs.{entry_at}
use Rattle.complex.proofs.Matrices.{length-row}
use Rattle.ward_equivalent.proofs.Places.{filled_row}
use Rattle.ward_equivalent.proofs.rows.fill_row.Goals as goal

pub returns : goal.returns
returns c =
    let rest = drop (2 * length c.args.buses.now - 0) (drop 0 c.args.to.now) in
    let long : length c.pick.new.to ≡ 2 * length c.args.buses.now = ap length c.pick.ensures ∙ length-row (entry_at c.args.matrix.n c.args.matrix.y.now) c.args.bus c.args.buses.now in
    let whole : 2 * length c.args.buses.now + 1 < length (c.pick.new.to ++ rest) = simp (length-append, length-drop) (omega (arith, long, c.requires.2)) in
    filled_row (entry_at c.args.matrix.n c.args.matrix.y.now) c.args.bus c.args.buses.now c.pick.new.to rest c.put.new.s c.args.c c.pick.ensures whole c.put.ensures
