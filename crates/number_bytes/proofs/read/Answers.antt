-- `number_bytes::read` meets its contract. The invariant: the first i numbers are read.
use Rattle.prelude.proofs.Prelude.{arith}
use Rattle.number_bytes.proofs.BytesLaws.{read_more, read_all}
use Rattle.number_bytes.proofs.read.Goals as goal

pub loop-i-preserved : goal.loop-i-preserved
loop-i-preserved g c =
    read_more _ _ _ _ _ _ c.loop-i.invariant c.at.result (omega arith) (cc)

pub returns : goal.returns
returns g c = read_all _ _ _ _ _ _ c.loop-i.invariant (omega arith)
