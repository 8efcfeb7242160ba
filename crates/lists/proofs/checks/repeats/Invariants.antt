use Rattle.std.proofs.Common.{◌≡◌, drop}
use Rattle.lists.specs.Buses.{repeats_by}
use Rattle.lists.proofs.checks.repeats.Given as goal

-- whether one stands twice is whether one does from here on
abbrev pub invariant-loop-i : goal.invariant-loop-i
invariant-loop-i g l = repeats_by g.T.PartialEq.eq l.list ≡ repeats_by g.T.PartialEq.eq (drop l.i l.list)
