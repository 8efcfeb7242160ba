use Rattle.prelude.proofs.Prelude.{length, map}
use Rattle.lists.proofs.Fronts.{Filling}
use Rattle.number_bytes.specs.Bytes.{words}
use Rattle.number_bytes.proofs.read.Given as goal

abbrev pub invariant-loop-i : goal.invariant-loop-i
invariant-loop-i g l = Filling (map g.T.Stored.of_whole (words g.T.Stored.SIZE (length l.initial.out) l.s)) l.initial.out l.out l.i
