-- `entries::kron::jeturipe_eliminate_bus` meets its contract.
use Rattle.entries.proofs.KronLaws.{fitted}
use Rattle.entries.proofs.kron.jeturipe_eliminate_bus.Goals as goal

pub returns-then-rec-ne-RECORD : goal.returns-then-rec-ne-RECORD
returns-then-rec-ne-RECORD c = rw c.number.ensures (search fitted depth 12)

pub returns : goal.returns
returns c = search fitted depth 12
