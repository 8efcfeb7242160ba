-- The REI equivalent: a fictitious bus, a spoke from it to each bus, and the ties that the buses keep between them.
-- The buses are the generators, then the loads; row i of the matrix is that of bus i of these. Their numbers are passed through.
use Rattle.std.specs.Prelude.{ℕ, ◌+◌, ◌*◌, ◌-◌, ◌≡◌, Bool, not, ◌&&◌, ◌||◌, cond, T, eqb, pos}
use Rattle.std.specs.Prelude.{length, get_or, replicate, Float, Result, Ok, Err}
use mathlib.Core.List.{List, [], ◌∷◌, ◌++◌, foldl}
use Rattle.std.specs.Float.{binary64}
use Rattle.std.specs.Float.Ieee.{of_int, lt}
use Rattle.complex.specs.declared.Complex.{Complex}
use Rattle.complex.specs.Constants.{plus0, one, small_magnitude, tie_threshold}
use Rattle.complex.specs.Arithmetic.{◌⊕◌, ◌⊘◌, cneg}
use Rattle.complex.specs.Magnitude.{abs, magnitude}
use Rattle.complex.specs.Leaves.{of_magnitude}
use Rattle.complex.specs.Matrices.{Matrix, entry_at, zeros}
use Rattle.lists.specs.Buses.{up_to}
use Rattle.binary64.specs.Values.{all_finite}
use Rattle.refusals.specs.declared.Refusal.{Refusal}
use Rattle.refusals.specs.Refusals.{too_many, wrong_length, lists_differ, no_bus, refuse, then_given, then_computed, answered, number_of}
use Rattle.rei_equivalent.specs.declared.ReiEquivalent.{ReiEquivalent}
use Rattle.lists.specs.Limits.{over}

-- ---- injections

-- from +0 upward
unfoldable pub total : List Float → Float
total xs = foldl ◌⊕◌ plus0 xs

-- the numbers that a sum from s on computes, one for each number added
unfoldable pub partial_sums : Float → List Float → List Float
partial_sums s [] = []
partial_sums s (x ∷ xs) = (s ⊕ x) ∷ partial_sums (s ⊕ x) xs

-- ---- spokes

-- the diagonal over the number of buses, in per unit, none where its magnitude is not above 1e-12
unfoldable pub spoke : Float → Complex → Complex
spoke n y =
    cond (lt small_magnitude (magnitude y))
    (record { re = y.re ⊘ n; im = y.im ⊘ n })
    (record { re = plus0; im = plus0 })

-- the numbers that it computes: those of the magnitude, and where that is above 1e-12 the number of buses and both quotients
unfoldable pub of_spoke : Float → Complex → List Float
of_spoke n y = of_magnitude y ++ cond (lt small_magnitude (magnitude y)) (n ∷ y.re ⊘ n ∷ y.im ⊘ n ∷ []) []

-- of the buses is, real then imaginary
unfoldable pub spoke_parts : Float → Matrix → List ℕ → List Float
spoke_parts n Y [] = []
spoke_parts n Y (i ∷ is) = (spoke n (Y i i)).re ∷ (spoke n (Y i i)).im ∷ spoke_parts n Y is

-- the numbers that these compute
unfoldable pub of_spokes : Float → Matrix → List ℕ → List Float
of_spokes n Y [] = []
of_spokes n Y (i ∷ is) = of_spoke n (Y i i) ++ of_spokes n Y is

-- ---- ties

-- two bus numbers and the admittance between them, in per unit
pub record Tie : Type 0 where
  pub first : ℕ
  pub second : ℕ
  pub admittance : Complex

-- a part above 1e-14 in absolute value
unfoldable pub is_tie : Complex → Bool
is_tie y = lt tie_threshold (abs y.re) || lt tie_threshold (abs y.im)

-- between bus i and the buses js, from the entries ys of row i
unfoldable pub row_ties : List ℕ → (ℕ → Complex) → ℕ → List ℕ → List Tie
row_ties buses ys i [] = []
row_ties buses ys i (j ∷ js) =
    let rest = row_ties buses ys i js in
    cond (is_tie (ys j)) (record { first = get_or buses i 0; second = get_or buses j 0; admittance = cneg (ys j) } ∷ rest) rest

-- each bus with those after it, row by row
unfoldable pub upper_ties : List ℕ → Matrix → List ℕ → List Tie
upper_ties buses Y [] = []
upper_ties buses Y (i ∷ is) = row_ties buses (Y i) i is ++ upper_ties buses Y is

-- the two bus numbers of each, and the admittance of each, real then imaginary
unfoldable pub tie_ends : List Tie → List ℕ
tie_ends [] = []
tie_ends (t ∷ ts) = t.first ∷ t.second ∷ tie_ends ts

unfoldable pub tie_parts : List Tie → List Float
tie_parts [] = []
tie_parts (t ∷ ts) = t.admittance.re ∷ t.admittance.im ∷ tie_parts ts

-- the most numbers that the ties of n buses can fill
unfoldable pub tie_room : ℕ → ℕ
tie_room n = n * (n - 1)

-- the ties of n buses, of these numbers, with this matrix
unfoldable pub all_ties : ℕ → List Float → List ℕ → List Tie
all_ties n entries buses = upper_ties buses (entry_at n entries) (up_to n)

-- ---- the call

-- what `compute` is given: the matrix in per unit, injections p in MW and q in MVAr; and what its output slices hold then
pub record ReiInput : Type 0 where
  pub generators : List ℕ
  pub loads : List ℕ
  pub entries : List Float
  pub p : List Float
  pub q : List Float
  pub bus_id : ℕ
  pub spoke_buses : List ℕ
  pub spokes : List Float
  pub tie_buses : List ℕ
  pub ties : List Float

-- the numbers of the buses, generators first
unfoldable pub rei_buses : ReiInput → List ℕ
rei_buses g = g.generators ++ g.loads

-- how many buses there are
unfoldable pub rei_size : ReiInput → ℕ
rei_size g = length g.generators + length g.loads

-- a spoke for each bus, in per unit, real then imaginary
unfoldable pub spokes_of : ReiInput → List Float
spokes_of g = spoke_parts (of_int binary64 (pos (rei_size g))) (entry_at (rei_size g) g.entries) (up_to (rei_size g))

-- the ties that the buses keep between them
unfoldable pub ties_of : ReiInput → List Tie
ties_of g = all_ties (rei_size g) g.entries (rei_buses g)

-- the matrix and the output slices are of their exact lengths
unfoldable pub sized : ℕ → ℕ → ℕ → ℕ → ℕ → ℕ → Bool
sized n entries spoke_buses spokes tie_buses ties =
    eqb entries (2 * (n * n)) && (eqb spoke_buses n && (eqb spokes (2 * n) && (eqb tie_buses (tie_room n) && eqb ties (tie_room n))))

-- 1, 2, 3, 4 or 0, by the number of buses, of P and of Q
unfoldable pub rei_length_refusal : ℕ → ℕ → ℕ → Bool → ℕ
rei_length_refusal n p q exact =
    refuse (over n p q 0) too_many
    (refuse (not exact) wrong_length
    (refuse (not (eqb p n && eqb q n)) lists_differ
    (refuse (eqb n 0) no_bus 0)))

-- the same of a call
unfoldable pub rei_shape_refusal : ReiInput → ℕ
rei_shape_refusal g =
    rei_length_refusal (rei_size g) (length g.p) (length g.q)
    (sized (rei_size g) (length g.entries) (length g.spoke_buses) (length g.spokes) (length g.tie_buses) (length g.ties))

-- the numbers computed of n buses, in the order of the work: the sums of P and of Q, then the spokes. A tie computes none: a turned
-- sign is no number of its own.
unfoldable pub of_rei : ℕ → List Float → List Float → List Float → List Float
of_rei n entries p q =
    partial_sums plus0 p ++ (partial_sums plus0 q ++ of_spokes (of_int binary64 (pos n)) (entry_at n entries) (up_to n))

-- the refusal of a call: by lengths, then 19, of a number given, and 20, of one computed, that is not finite
unfoldable pub rei_refusal : ReiInput → ℕ
rei_refusal g =
    then_computed (then_given (rei_shape_refusal g) (g.entries ++ (g.p ++ g.q))) (of_rei (rei_size g) g.entries g.p g.q)

-- the equivalent of a call that is not refused: voltage in per unit, injections in MW and MVAr
unfoldable pub equivalent_of : ReiInput → ReiEquivalent
equivalent_of g =
    record {
      rei_bus_id = g.bus_id;
      rei_voltage_pu = one;
      rei_p_mw = total g.p;
      rei_q_mvar = total g.q;
      n_ties = length (ties_of g);
    }

-- what an output slice holds at exit: as it was where the call is refused
abbrev pub unless_refused : {A : Type 0} → ReiInput → A → A → A
unless_refused g new held = cond (eqb (rei_refusal g) 0) new held

-- the places of a tie slice behind the ties
unfoldable pub unused : ReiInput → ℕ
unused g = tie_room (rei_size g) - 2 * length (ties_of g)

-- what `compute` answers and what its output slices hold at exit
pub record AfterRei (g : ReiInput) (r : Result ReiEquivalent Refusal) (spoke_buses : List ℕ) (spokes : List Float)
    (tie_buses : List ℕ) (ties : List Float)
    : Type 0 where
  pub answer : r ≡ answered (equivalent_of g) (rei_refusal g)
  pub spoke_buses_are : spoke_buses ≡ unless_refused g (rei_buses g) g.spoke_buses
  pub spokes_are : spokes ≡ unless_refused g (spokes_of g) g.spokes
  pub tie_buses_are : tie_buses ≡ unless_refused g (tie_ends (ties_of g) ++ replicate (unused g) 0) g.tie_buses
  pub ties_are : ties ≡ unless_refused g (tie_parts (ties_of g) ++ zeros (unused g)) g.ties

-- the numbers in an answer
unfoldable pub numbers_of : Result ReiEquivalent Refusal → List Float
numbers_of (Ok e) = e.rei_voltage_pu ∷ e.rei_p_mw ∷ e.rei_q_mvar ∷ []
numbers_of (Err k) = []

-- what an accepted call answers and writes is finite, and nothing finite is refused
pub record ReiFinite : Type 0 where
  pub outputs-finite : (g : ReiInput) (r : Result ReiEquivalent Refusal) (spoke_buses : List ℕ) (spokes : List Float)
      (tie_buses : List ℕ) (ties : List Float)
      → AfterRei g r spoke_buses spokes tie_buses ties → number_of r ≡ 0
      → T (all_finite (numbers_of r)) × T (all_finite spokes) × T (all_finite ties)
  -- a call with right lengths whose numbers, given and computed, are finite is accepted
  pub accepted : (g : ReiInput) (r : Result ReiEquivalent Refusal) (spoke_buses : List ℕ) (spokes : List Float)
      (tie_buses : List ℕ) (ties : List Float)
      → AfterRei g r spoke_buses spokes tie_buses ties
      → rei_shape_refusal g ≡ 0
      → T (all_finite (g.entries ++ (g.p ++ g.q)))
      → T (all_finite (of_rei (rei_size g) g.entries g.p g.q))
      → (r ≡ Ok (equivalent_of g)) × (spoke_buses ≡ rei_buses g) × (spokes ≡ spokes_of g)
      × (tie_buses ≡ tie_ends (ties_of g) ++ replicate (unused g) 0) × (ties ≡ tie_parts (ties_of g) ++ zeros (unused g))
