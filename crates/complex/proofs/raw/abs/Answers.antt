-- `complex::raw::abs` meets its contract.
use Rattle.prelude.proofs.Prelude.{of_bits}
use Rattle.complex.proofs.MagnitudeLaws.{abs-above, abs-else}
use Rattle.complex.proofs.raw.abs.Goals as goal

pub returns-then-x : goal.returns-then-x
unfolding of_bits
returns-then-x c = abs-above c.args.x c.if-x.true

pub returns-else-x : goal.returns-else-x
unfolding of_bits
returns-else-x c = abs-else c.args.x (rw c.well_formed.0.1 tt) c.if-x.false
