-- `ward_equivalent::study::ratio` meets its contract.
use Rattle.prelude.proofs.Prelude.{refl, arith}
use lib.Ieee.{in_float}
use lib.Dec.{le→leb}
use Rattle.complex.specs.{one}
use Rattle.ward_equivalent.specs.Ward.{ratio}
use Rattle.ward_equivalent.proofs.study.ratio.Goals as goal

pub int_to_float-result : goal.int_to_float-result
unfolding in_float
int_to_float-result c = le→leb c.args.r 9007199254740992 (omega (arith, c.requires.0, c.requires.1))

pub int_to_float-result-2 : goal.int_to_float-result-2
unfolding in_float
int_to_float-result-2 c = le→leb c.args.n 9007199254740992 (omega (arith, c.requires.1))

pub returns : goal.returns
unfolding ratio one
returns c = refl
