use Rattle.prelude.proofs.Prelude.{◌≡◌, ◌*◌, drop, sets, binary64, of_int}
use lib.IntN.{pos}
use Rattle.complex.specs.{entry_at}
use Rattle.lists.specs.Buses.{up_to}
use Rattle.rei_equivalent.specs.Rei.{spoke_parts}
use Rattle.rei_equivalent.proofs.matrix.SubMatrix.spoke_all.Given as goal

abbrev pub invariant-loop-i : goal.invariant-loop-i
invariant-loop-i l =
    let parts = spoke_parts (of_int binary64 (pos l.self.n)) (entry_at l.self.n l.self.y.now) in
    sets l.spokes (2 * l.i) (parts (drop l.i (up_to l.self.n))) ≡ sets l.initial.spokes 0 (parts (up_to l.self.n))
