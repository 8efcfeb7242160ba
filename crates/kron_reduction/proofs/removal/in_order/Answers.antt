-- `kron_reduction::removal::in_order` meets its contract. The loop's invariant: the list is in order where what is left is, from `low` up.
use Rattle.prelude.proofs.Prelude.{sym, ap, ◌∙◌, arith, drop_of_length-le}
use Rattle.kron_reduction.proofs.Positions.{rises_from, rises-from, rises-on, rises-low, rises-high}
use Rattle.kron_reduction.proofs.removal.in_order.Goals.{then-bus-low-via-then-bus-low, then-bus-low-via-else-bus-low+then-bus-made}
use Rattle.kron_reduction.proofs.removal.in_order.Goals as goal

pub loop-place-init : goal.loop-place-init
loop-place-init c = (omega arith, rises-from _ _)

pub returns-then-bus-low : goal.returns-then-bus-low
returns-then-bus-low c =
    elim c.then-bus-low.branch [
      | then-bus-low-via-then-bus-low w ↦ sym (c.loop-place.invariant.1 ∙ rises-low c.args.made c.loop-place.low c.args.buses.now c.loop-place.place-index (omega arith) w.if-bus-low.true)
      | then-bus-low-via-else-bus-low+then-bus-made w ↦
          sym (c.loop-place.invariant.1 ∙ rises-high c.args.made c.loop-place.low c.args.buses.now c.loop-place.place-index (omega arith) w.if-bus-low.false w.if-bus-made.true)
    ]

pub loop-place-preserved : goal.loop-place-preserved
loop-place-preserved c =
    (omega arith, c.loop-place.invariant.1 ∙ rises-on c.args.made c.loop-place.low c.args.buses.now c.loop-place.place-index (omega arith) c.if-bus-low.false c.if-bus-made.false)

pub returns : goal.returns
unfolding rises_from
returns c =
    sym (c.loop-place.invariant.1 ∙ ap (rises_from c.loop-place.low c.args.made) (drop_of_length-le _ c.loop-place-test.false))
