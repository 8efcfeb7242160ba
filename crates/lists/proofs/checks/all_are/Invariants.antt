use Rattle.std.proofs.Common.{◌≡◌, take}
use Rattle.std.specs.List.{list_all}
use Rattle.lists.proofs.checks.all_are.Given as goal

abbrev pub invariant-loop-place : goal.invariant-loop-place
invariant-loop-place g l = l.all ≡ list_all (λ place. g.T.PartialEq.eq place l.value) (take l.place-index l.places)
