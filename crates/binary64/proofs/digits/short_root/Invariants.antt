use Rattle.prelude.proofs.Prelude.{◌≡◌, ◌+◌, ◌*◌, ◌<◌, ◌^◌}
use Rattle.binary64.proofs.digits.short_root.Given as goal

abbrev pub invariant-loop-q : goal.invariant-loop-q
invariant-loop-q l = (l.q * l.q + l.r ≡ l.m) × (l.q < 2 ^ 54)

abbrev pub decreases-loop-q : goal.decreases-loop-q
decreases-loop-q l = l.r
