-- `number_bytes::U32Stored::put` meets its contract.
use Rattle.std.proofs.Common.{arith}
use Rattle.number_bytes.proofs.BytesLaws.{bytes-4, put-part}
use Rattle.number_bytes.proofs.U32Stored.put.Goals as goal

pub returns : goal.returns
returns c = put-part 4 _ _ _ _ _ (omega arith) c.requires (let e = bytes-4 c.args.self in cc)
