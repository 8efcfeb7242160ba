use Rattle.std.proofs.Common.{◌≡◌, take}
use Rattle.complex.specs.Inner.Ordinary.{all_ordinary}
use Rattle.complex.proofs.ordinary.all_ordinary.Given as goal

abbrev pub invariant-loop-x : goal.invariant-loop-x
invariant-loop-x l = l.all ≡ all_ordinary (take l.x-index l.s)
