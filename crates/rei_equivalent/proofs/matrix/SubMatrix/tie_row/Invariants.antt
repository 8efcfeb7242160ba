use Rattle.prelude.proofs.Prelude.{◌≡◌, ◌+◌, ◌-◌, ◌*◌, ◌≤◌, length, sets}
use Rattle.complex.specs.{entry_at}
use Rattle.rei_equivalent.specs.Rei.{tie_ends, tie_parts}
use Rattle.rei_equivalent.proofs.TieLaws.{left_in_row}
use Rattle.rei_equivalent.proofs.matrix.SubMatrix.tie_row.Given as goal

abbrev pub invariant-loop-j : goal.invariant-loop-j
invariant-loop-j l =
    let left = left_in_row l.buses (entry_at l.self.n l.self.y.now l.i) l.i l.self.n in
    (l.count + (l.self.n - l.j) ≤ l.from + (l.self.n - (l.i + 1)))
    × (l.count + length (left l.j) ≡ l.from + length (left (l.i + 1)))
    × (sets l.ends (2 * l.count) (tie_ends (left l.j)) ≡ sets l.initial.ends (2 * l.from) (tie_ends (left (l.i + 1))))
    × (sets l.ties (2 * l.count) (tie_parts (left l.j)) ≡ sets l.initial.ties (2 * l.from) (tie_parts (left (l.i + 1))))
