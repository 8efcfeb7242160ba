-- `rei_equivalent::lengths::Lengths::exact` meets its contract: each test is the definition's.
use Rattle.prelude.proofs.Prelude.{arith}
use Rattle.std.proofs.lemmas.Bool.Decides.{nat_tests}
use Rattle.rei_equivalent.specs.Rei.{sized, tie_room}
use Rattle.rei_equivalent.proofs.TieLaws.{room-is}
use Rattle.rei_equivalent.proofs.lengths.Lengths.exact.Goals as goal

pub returns-then-self-square-2 : goal.returns-then-self-square-2
unfolding sized tie_room
returns-then-self-square-2 c = let r = room-is c.args.n in grind (arith, nat_tests)

pub returns-else-self-square-2 : goal.returns-else-self-square-2
unfolding sized tie_room
returns-else-self-square-2 c = let r = room-is c.args.n in grind (arith, nat_tests)
