-- `entries::records::record_in` meets its contract.
use Rattle.entries.proofs.RecordsLaws.{recording}
use Rattle.entries.proofs.records.record_in.Goals as goal

pub returns-then-s-ne-RECORD : goal.returns-then-s-ne-RECORD
returns-then-s-ne-RECORD c = search recording

pub returns : goal.returns
returns c = search recording
