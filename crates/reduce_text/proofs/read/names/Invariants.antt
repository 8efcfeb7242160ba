use Rattle.prelude.proofs.Prelude.{◌≡◌, [], ◌+◌, ◌-◌, ◌≤◌, length, take}
use Rattle.reduce_text.specs.Reading.{Onward, named}
use Rattle.reduce_text.specs.Inner.Steps.{behind}
use Rattle.reduce_text.proofs.read.names.Given as goal

abbrev pub invariant-loop-i : goal.invariant-loop-i
invariant-loop-i l =
    let n = length l.initial.numbers in
    (l.at ≤ length l.input + 1)
    × ((go : Onward) → named go n n 2 [] (behind l.input l.from) ≡ named go n (n - l.i) (l.i + 2) (take l.i l.numbers) (behind l.input l.at))
