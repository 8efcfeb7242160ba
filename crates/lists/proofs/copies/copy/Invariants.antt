use Rattle.lists.proofs.Fronts.{Filling}
use Rattle.lists.proofs.copies.copy.Given as goal

-- what stands below i is copied
abbrev pub invariant-loop-i : goal.invariant-loop-i
invariant-loop-i g l = Filling l.from l.initial.to l.to l.i
