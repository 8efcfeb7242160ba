use Rattle.prelude.proofs.Prelude.{◌≡◌, List, [], ℕ, ◌+◌, ◌-◌, ◌*◌, ◌≤◌, length, take, drop}
use Rattle.reduce_text.specs.Reading.{Onward, entries}
use Rattle.reduce_text.specs.Inner.Steps.{behind}
use Rattle.reduce_text.proofs.read.entries.Given as goal

abbrev pub invariant-loop-i : goal.invariant-loop-i
invariant-loop-i l =
    (l.at ≤ length l.input + 1)
    × (drop (2 * l.i) l.matrix ≡ drop (2 * l.i) l.initial.matrix)
    × ((go : Onward) (ns : List ℕ) → entries go l.n ns (l.n * l.n) l.first [] (behind l.input l.from) ≡ entries go l.n ns (l.n * l.n - l.i) (l.i + l.first) (take (2 * l.i) l.matrix) (behind l.input l.at))
