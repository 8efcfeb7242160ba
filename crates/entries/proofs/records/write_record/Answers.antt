-- `entries::records::write_record` meets its contract.
use Rattle.prelude.proofs.Prelude.{◌≡◌}
use Rattle.std.proofs.lemmas.List.{map-id}
use Rattle.number_bytes.specs.Bytes.{of_words}
use Rattle.entries.proofs.RecordsLaws.{recording}
use Rattle.entries.proofs.records.write_record.Goals as goal

pub returns : goal.returns
returns c =
    let part : c.write.new.s ≡ of_words 4 c.args.r.numbers = rw map-id at c.write.ensures in
    search recording
