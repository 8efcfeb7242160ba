-- `number_bytes::U64Stored::put` meets its contract.
use Rattle.std.proofs.Common.{arith}
use Rattle.number_bytes.proofs.BytesLaws.{bytes-8, put-part}
use Rattle.number_bytes.proofs.U64Stored.put.Goals as goal

pub returns : goal.returns
returns c = put-part 8 _ _ _ _ _ (omega arith) c.requires (let e = bytes-8 c.args.self in cc)
