-- `complex::entry::put` meets its contract.
use Rattle.prelude.proofs.Prelude.{refl}
use Rattle.complex.specs.Entries.{put}
use Rattle.complex.proofs.entry.put.Goals as goal

pub returns : goal.returns
unfolding put
returns c = refl
