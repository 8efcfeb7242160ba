use Rattle.prelude.proofs.Prelude.{◌≡◌, ◌+◌, ◌-◌, ◌≤◌, length}
use Rattle.reduce_text.specs.Reading.{Onward, drops}
use Rattle.reduce_text.specs.Inner.Steps.{behind}
use Rattle.reduce_text.proofs.read.drops.Given as goal

abbrev pub invariant-loop-bus : goal.invariant-loop-bus
invariant-loop-bus l =
    (l.p + l.from ≤ l.place + l.at) × ((rest : Onward) → drops rest l.place l.initial.rec l.initial.y (behind l.input l.from) ≡ drops rest l.p l.rec l.y (behind l.input l.at))

abbrev pub decreases-loop-bus : goal.decreases-loop-bus
decreases-loop-bus l = length l.input - l.at
