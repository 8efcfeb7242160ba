-- What the loops of `compute` leave in the slices of spokes and ties. For the inner functions' contracts only.
use Rattle.std.specs.Prelude.{ℕ, ◌+◌, ◌*◌, ◌-◌, ◌≡◌, List, ◌++◌, length, replicate, Float, pos}
use Rattle.std.specs.Float.{binary64}
use Rattle.std.specs.Float.Ieee.{of_int}
use Rattle.std.proofs.lemmas.List.Edits.{sets}
use Rattle.complex.specs.Matrices.{entry_at, zeros}
use Rattle.lists.specs.Buses.{up_to}
use Rattle.rei_equivalent.specs.declared.matrix.SubMatrix.{SubMatrix}
use Rattle.rei_equivalent.specs.Rei.{spoke_parts, of_spokes, Tie, tie_ends, tie_parts, tie_room, all_ties}

-- ties written from place `from` on: the place behind them, and the two slices at exit
pub record RowWritten (ts : List Tie) (from : ℕ) (ends : List ℕ) (ties : List Float) (r : ℕ) (endsAfter : List ℕ) (tiesAfter : List Float)
    : Type 0 where
  pub behind : r ≡ from + length ts
  pub ends_are : endsAfter ≡ sets ends (2 * from) (tie_ends ts)
  pub ties_are : tiesAfter ≡ sets ties (2 * from) (tie_parts ts)

-- all ties of n buses, at the front, zeros behind
pub record TiesWritten (n : ℕ) (entries : List Float) (buses : List ℕ) (r : ℕ) (ends : List ℕ) (ties : List Float) : Type 0 where
  pub counted : r ≡ length (all_ties n entries buses)
  pub ends_are : ends ≡ tie_ends (all_ties n entries buses) ++ replicate (tie_room n - 2 * length (all_ties n entries buses)) 0
  pub ties_are : ties ≡ tie_parts (all_ties n entries buses) ++ zeros (tie_room n - 2 * length (all_ties n entries buses))

-- the spokes of all buses, and the numbers that these compute
abbrev pub spokes_of : SubMatrix → List Float
spokes_of m = spoke_parts (of_int binary64 (pos m.n)) (entry_at m.n m.y.now) (up_to m.n)

abbrev pub of_spokes_of : SubMatrix → List Float
of_spokes_of m = of_spokes (of_int binary64 (pos m.n)) (entry_at m.n m.y.now) (up_to m.n)
