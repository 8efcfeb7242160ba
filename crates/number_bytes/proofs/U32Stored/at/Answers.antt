-- `number_bytes::U32Stored::at` meets its contract.
use Rattle.std.proofs.Common.{arith}
use Rattle.number_bytes.proofs.BytesLaws.{word-4}
use Rattle.number_bytes.proofs.U32Stored.at.Goals as goal

pub returns : goal.returns
returns c =
    let whole = rw c.unwrap.ensures at c.try_into.ensures in
    omega (arith, word-4 c.args.s.now c.unwrap.result c.args.a _ (omega arith) whole.1.same)
