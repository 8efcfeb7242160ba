use Rattle.prelude.proofs.Prelude.{◌≡◌, drop}
use mathlib.Core.List.{foldl}
use Rattle.complex.specs.{◌⊕◌}
use Rattle.rei_equivalent.specs.Rei.{total}
use Rattle.rei_equivalent.proofs.inputs.sum.Given as goal

abbrev pub invariant-loop-x : goal.invariant-loop-x
invariant-loop-x l = foldl ◌⊕◌ l.sum (drop l.x-index l.xs) ≡ total l.xs
