-- `complex::raw::cdiv` meets its contract: the test on the squared magnitude picks the same case on both sides.
use Rattle.prelude.proofs.Prelude.{add, sub, mul, div, of_bits}
use Rattle.complex.specs.Constants.{division_limit}
use Rattle.complex.specs.Arithmetic.{sqmag, cdiv}
use Rattle.complex.proofs.raw.cdiv.Goals as goal

pub returns-then-d : goal.returns-then-d
unfolding add mul div of_bits division_limit sqmag cdiv
returns-then-d c = rw c.if-d.true

pub returns : goal.returns
unfolding add sub mul div division_limit sqmag cdiv
returns c = rw c.if-d.false
