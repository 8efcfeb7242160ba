-- `entries::kron::jeturipe_thevenin_impedance` meets its contract.
use Rattle.entries.proofs.KronLaws.{fitted}
use Rattle.entries.proofs.kron.jeturipe_thevenin_impedance.Goals as goal

pub returns-then-rec-ne-RECORD : goal.returns-then-rec-ne-RECORD
returns-then-rec-ne-RECORD c = rw c.number.ensures (search fitted depth 12)

pub returns : goal.returns
returns c = search fitted depth 12
