-- `dc_flow::susceptance::add_branch` meets its contract.
use Rattle.prelude.proofs.Prelude.{arith}
use lib.Arith.{digits_lt}
use Rattle.complex.specs.{small_magnitude, one}
use Rattle.dc_flow.specs.Dc.{add_branch}
use Rattle.dc_flow.proofs.susceptance.add_branch.Goals as goal

pub overflow_mul-from : goal.overflow_mul-from
unfolding add_branch small_magnitude one
overflow_mul-from c = omega (arith, digits_lt c.requires.ends.0 c.requires.ends.0)

pub overflow_mul-to : goal.overflow_mul-to
unfolding add_branch small_magnitude one
overflow_mul-to c = omega (arith, digits_lt c.requires.ends.1 c.requires.ends.1)

pub join-requires : goal.join-requires
unfolding add_branch small_magnitude one
join-requires c = let (f, t) = c.requires.ends in omega (arith, digits_lt f f, digits_lt t t, digits_lt f t, digits_lt t f)

pub returns-then-not-abs : goal.returns-then-not-abs
unfolding add_branch small_magnitude one
returns-then-not-abs c = rw (← c.abs.ensures, c.if-not-abs.true) c.join.ensures

pub returns-else-not-abs : goal.returns-else-not-abs
unfolding add_branch small_magnitude one
returns-else-not-abs c = rw (← c.abs.ensures, c.if-not-abs.false)
