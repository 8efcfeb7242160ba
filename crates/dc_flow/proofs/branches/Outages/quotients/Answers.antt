-- `dc_flow::branches::Outages::quotients` meets its contract: the factors of the branches passed stand before what was there.
use Rattle.prelude.proofs.Prelude.{◌≡◌, refl, ◌+◌, ◌*◌, ◌/◌, arith, length, set}
use Rattle.dc_flow.specs.Dc.{real_row}
use Rattle.dc_flow.proofs.OutageLaws.{real_row-step, real_row-all}
use Rattle.dc_flow.proofs.branches.Outages.quotients.Goals as goal

pub loop-pair-init : goal.loop-pair-init
unfolding real_row
loop-pair-init c = refl

pub loop-pair-preserved : goal.loop-pair-preserved
loop-pair-preserved c =
    let one = real_row-step _ (2 * c.loop-pair.pair) c.args.row.now c.loop-pair.row _ c.loop-pair.invariant c.quotient-first.ensures (omega (arith, c.requires)) in
    let two = real_row-step _ (2 * c.loop-pair.pair + 1) c.args.row.now (set c.loop-pair.row (2 * c.loop-pair.pair) _) _ one c.quotient-second.ensures (omega (arith, c.requires)) in
    let on : 2 * c.loop-pair.pair + 1 + 1 ≡ 2 * (c.loop-pair.pair + 1) = omega arith in
    rw on at two

-- of an odd count
pub returns-then-k-m : goal.returns-then-k-m
returns-then-k-m c =
    let k = 2 * (length c.args.row.now / 2) in
    let e : 2 * c.loop-pair.pair ≡ k = omega (arith, c.loop-pair.auto) in
    let last = real_row-step _ k c.args.row.now c.loop-pair.row _ (rw e at c.loop-pair.invariant) c.quotient.ensures (omega (arith, c.requires)) in
    real_row-all _ (k + 1) _ _ c.args.row.now last (omega (arith, c.requires)) (omega (arith, c.requires)) c.requires.1

pub returns-else-k-m : goal.returns-else-k-m
returns-else-k-m c =
    real_row-all _ (2 * c.loop-pair.pair) _ _ c.args.row.now c.loop-pair.invariant (omega (arith, c.requires)) (omega (arith, c.requires, c.loop-pair.auto)) c.requires.1
