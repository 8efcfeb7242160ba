use Rattle.prelude.proofs.Prelude.{◌≡◌, drop, binary64, of_int}
use lib.IntN.{pos}
use Rattle.binary64.specs.Values.{all_finite}
use Rattle.complex.specs.{entry_at}
use Rattle.lists.specs.Buses.{up_to}
use Rattle.rei_equivalent.specs.Rei.{of_spokes}
use Rattle.rei_equivalent.proofs.matrix.SubMatrix.spokes_finite.Given as goal

abbrev pub invariant-loop-i : goal.invariant-loop-i
invariant-loop-i l =
    let all = of_spokes (of_int binary64 (pos l.self.n)) (entry_at l.self.n l.self.y.now) in
    all_finite (all (drop l.i (up_to l.self.n))) ≡ all_finite (all (up_to l.self.n))
