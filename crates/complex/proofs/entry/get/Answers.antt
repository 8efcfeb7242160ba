-- `complex::entry::get` meets its contract.
use Rattle.prelude.proofs.Prelude.{refl}
use Rattle.complex.specs.Entries.{entry}
use Rattle.complex.proofs.entry.get.Goals as goal

pub returns : goal.returns
unfolding entry
returns c = refl
