-- `entries::records::numbers_in` meets its contract.
use Rattle.prelude.proofs.Prelude.{refl}
use Rattle.std.proofs.lemmas.List.{map-id}
use Rattle.entries.proofs.RecordsLaws.{numbers-read}
use Rattle.entries.proofs.records.numbers_in.Goals as goal

pub returns : goal.returns
returns c = numbers-read _ _ _ refl (rw map-id at c.read.ensures)
