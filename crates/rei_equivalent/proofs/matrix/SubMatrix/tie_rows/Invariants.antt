use Rattle.prelude.proofs.Prelude.{◌≡◌, ◌+◌, ◌-◌, ◌*◌, ◌≤◌, length, sets}
use Rattle.complex.specs.{entry_at}
use Rattle.rei_equivalent.specs.Rei.{tie_ends, tie_parts, tie_room}
use Rattle.rei_equivalent.proofs.TieLaws.{left_in_all}
use Rattle.rei_equivalent.proofs.matrix.SubMatrix.tie_rows.Given as goal

abbrev pub invariant-loop-i : goal.invariant-loop-i
invariant-loop-i l =
    let left = left_in_all l.buses (entry_at l.self.n l.self.y.now) l.self.n in
    (2 * l.count + tie_room (l.self.n - l.i) ≤ tie_room l.self.n)
    × (l.count + length (left l.i) ≡ 0 + length (left 0))
    × (sets l.ends (2 * l.count) (tie_ends (left l.i)) ≡ sets l.initial.ends 0 (tie_ends (left 0)))
    × (sets l.ties (2 * l.count) (tie_parts (left l.i)) ≡ sets l.initial.ties 0 (tie_parts (left 0)))
