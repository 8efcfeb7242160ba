use Rattle.prelude.proofs.Prelude.{map}
use Rattle.number_bytes.proofs.BytesLaws.{Writing}
use Rattle.number_bytes.proofs.write.Given as goal

abbrev pub invariant-loop-i : goal.invariant-loop-i
invariant-loop-i g l = Writing g.T.Stored.SIZE (map g.T.Stored.to_whole l.xs) l.initial.s l.s l.i
