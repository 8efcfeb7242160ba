-- `rei_equivalent::numbers::given_finite` meets its contract.
use Rattle.prelude.proofs.Prelude.{arith}
use Rattle.rei_equivalent.proofs.ReiNumbers.{joined-finite}
use Rattle.rei_equivalent.proofs.numbers.given_finite.Goals as goal

pub returns-then-all_finite-2 : goal.returns-then-all_finite-2
returns-then-all_finite-2 c = rw (joined-finite, joined-finite) (grind arith)

pub returns-else-all_finite-2 : goal.returns-else-all_finite-2
returns-else-all_finite-2 c = rw (joined-finite, joined-finite) (grind arith)
