-- `complex::ordinary::ordinary` meets its contract.
use Rattle.prelude.proofs.Prelude.{neg, of_bits}
use Rattle.complex.specs.Inner.Ordinary.{ordinary, ordinary_limit}
use Rattle.complex.proofs.ordinary.ordinary.Goals as goal

pub returns-then-x : goal.returns-then-x
unfolding neg of_bits ordinary ordinary_limit
returns-then-x c = rw c.if-x.true

pub returns-else-x : goal.returns-else-x
unfolding neg of_bits ordinary ordinary_limit
returns-else-x c = rw c.if-x.false
