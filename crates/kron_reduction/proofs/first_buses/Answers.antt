-- `kron_reduction::first_buses` meets its contract. The loop's invariant: bus i stands in each place passed, 0 in the others.
use Rattle.prelude.proofs.Prelude.{sym, arith}
use Rattle.lists.specs.Buses.{up_to}
use Rattle.lists.proofs.Order.{length-up_to, get_or-up_to}
use Rattle.lists.proofs.Fronts.{filling-start}
use Rattle.kron_reduction.proofs.Showing.{places-more, places-end}
use Rattle.kron_reduction.proofs.first_buses.Goals as goal

pub loop-i-preserved : goal.loop-i-preserved
loop-i-preserved c =
    places-more (up_to c.args.n) _ c.args.n _ (length-up_to c.args.n) c.loop-i.invariant _ c.requires c.loop-i-test.true (sym (get_or-up_to c.args.n _ 0 c.loop-i-test.true))

pub returns : goal.returns
returns c = places-end (up_to c.args.n) _ c.args.n _ (length-up_to c.args.n) c.loop-i.invariant c.loop-i-test.false

pub loop-i-init : goal.loop-i-init
loop-i-init c = filling-start _ _

pub overflow_cast-active : goal.overflow_cast-active
overflow_cast-active c = omega (arith, c.requires)

pub bounds-active-i : goal.bounds-active-i
bounds-active-i c = omega (arith, c.requires)
