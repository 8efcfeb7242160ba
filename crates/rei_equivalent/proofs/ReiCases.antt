-- The REI definitions computed by the checker on a study of three buses.
use Rattle.prelude.proofs.Prelude.{◌≡◌, refl, List, [], ◌∷◌, ◌++◌, ℕ, ◌+◌, T, replicate, Float, nan, inf, false, binary64, of_int, of_bits, of_fields, neg, add, mul, div, sum, round, units, odd, lt, size, span, climb}
use lib.Count.{count_trailing_zeros}
use Rattle.complex.specs.{plus0, one, small_magnitude, tie_threshold, cneg, sqmag, entry, abs, magnitude, entry_at}
use Rattle.lists.specs.Buses.{up_to}
use Rattle.binary64.specs.Values.{all_finite}
use Rattle.binary64.specs.Root.{root, root_of, radicand, half, whole_root, moved_back}
use Rattle.refusals.specs.Refusals.{limit, then_given, then_computed}
use Rattle.rei_equivalent.specs.Rei.{ReiInput, total, partial_sums, spoke, of_spoke, spoke_parts, of_spokes, is_tie, row_ties, upper_ties, all_ties, tie_ends, tie_parts, tie_room, rei_buses, rei_size, spokes_of, ties_of, sized, rei_length_refusal, rei_shape_refusal, of_rei, rei_refusal, equivalent_of, AfterRei}
use Rattle.std.proofs.Common.{Result, Ok}
use Rattle.refusals.specs.declared.Refusal.{Refusal}
use Rattle.rei_equivalent.specs.declared.ReiEquivalent.{ReiEquivalent}
use Rattle.rei_equivalent.proofs.ReiFinite.{rei-finite}
use Rattle.dc_flow.proofs.DcCases.{zero', one', minus_one, two, minus-two, largest}

abbrev minus-zero : Float
minus-zero = of_bits binary64 0x8000000000000000

abbrev three : Float
three = of_bits binary64 0x4008000000000000

abbrev minus-six : Float
minus-six = of_bits binary64 0xc018000000000000

-- 1e-12, which is not above itself, and 1e-14 likewise
abbrev limit-spoke : Float
limit-spoke = of_bits binary64 0x3d719799812dea11

abbrev limit-tie : Float
limit-tie = of_bits binary64 0x3d06849b86a12b9b

-- generator 5, loads 9 and 2. Between 5 and 9 and between 9 and 2 there is a tie; between 5 and 2 a part of just 1e-14.
-- The lower triangle is not looked at.
matrix : List Float
matrix =
    three ∷ minus-six ∷ minus_one ∷ two ∷ limit-tie ∷ zero'
    ∷ three ∷ three ∷ limit-spoke ∷ zero' ∷ zero' ∷ minus-two
    ∷ three ∷ three ∷ three ∷ three ∷ zero' ∷ minus-zero ∷ []

study : ReiInput
unfolding matrix
study =
    record {
      generators = 5 ∷ [];
      loads = 9 ∷ 2 ∷ [];
      entries = matrix;
      p = minus-zero ∷ two ∷ one' ∷ [];
      q = minus-zero ∷ minus-zero ∷ minus-zero ∷ [];
      bus_id = 17;
      spoke_buses = replicate 3 8;
      spokes = replicate 6 nan;
      tie_buses = replicate 6 8;
      ties = replicate 6 nan;
    }

accepted : (rei_refusal study ≡ 0) × (rei_buses study ≡ 5 ∷ 9 ∷ 2 ∷ [])
unfolding study matrix rei_refusal rei_shape_refusal rei_length_refusal sized rei_size rei_buses tie_room then_given then_computed of_rei partial_sums of_spokes of_spoke magnitude root root_of radicand half whole_root moved_back sqmag entry_at entry up_to plus0 small_magnitude lt add mul div of_int sum round units odd size span climb count_trailing_zeros of_bits of_fields
accepted = (refl, refl)

-- the same by `ReiFinite.accepted`, whose premises it meets
premises : (rei_shape_refusal study ≡ 0) × T (all_finite (study.entries ++ (study.p ++ study.q))) × T (all_finite (of_rei (rei_size study) study.entries study.p study.q))
unfolding study matrix rei_refusal rei_shape_refusal rei_length_refusal sized rei_size rei_buses tie_room then_given then_computed of_rei partial_sums of_spokes of_spoke magnitude root root_of radicand half whole_root moved_back sqmag entry_at entry up_to plus0 small_magnitude lt add mul div of_int sum round units odd size span climb count_trailing_zeros of_bits of_fields
premises = (refl, tt, tt)

by-law : (r : Result ReiEquivalent Refusal) (buses ends : List ℕ) (spokes ties : List Float) → AfterRei study r buses spokes ends ties → r ≡ Ok (equivalent_of study)
by-law r buses ends spokes ties after =
    let (shape, given, computed) = premises in
    (rei-finite.accepted study r buses spokes ends ties after shape given computed).0

-- the sum of a list of -0 is +0
answer : equivalent_of study ≡ record { rei_bus_id = 17; rei_voltage_pu = one'; rei_p_mw = three; rei_q_mvar = zero'; n_ties = 2 }
unfolding study matrix equivalent_of ties_of all_ties upper_ties row_ties is_tie total rei_size rei_buses entry_at entry up_to plus0 one tie_threshold abs lt add neg sum round units odd size span climb count_trailing_zeros of_bits of_fields cneg
answer = refl

-- a third of the diagonal; none where its magnitude is just 1e-12, or 0
spokes : spokes_of study ≡ one' ∷ minus-two ∷ zero' ∷ zero' ∷ zero' ∷ zero' ∷ []
unfolding study matrix spokes_of rei_size spoke_parts spoke magnitude root root_of radicand half whole_root moved_back sqmag entry_at entry up_to plus0 small_magnitude lt add mul div of_int sum round units odd size span climb count_trailing_zeros of_bits of_fields
spokes = refl

-- each part negated, a zero too
ties : (tie_ends (ties_of study) ≡ 5 ∷ 9 ∷ 9 ∷ 2 ∷ []) × (tie_parts (ties_of study) ≡ one' ∷ minus-two ∷ minus-zero ∷ two ∷ [])
unfolding study matrix ties_of all_ties upper_ties row_ties is_tie tie_ends tie_parts rei_size rei_buses entry_at entry up_to tie_threshold abs lt neg of_bits of_fields size span climb odd count_trailing_zeros cneg
ties = (refl, refl)

-- ---- refusals, by the number of buses, of P and of Q, and whether the lengths are right

-- too many buses, or too many injections
refused-many : (rei_length_refusal (limit + 1) (limit + 1) (limit + 1) (sized (limit + 1) 0 0 0 0 0) ≡ 1)
    × (rei_length_refusal 1 (limit + 1) 1 (sized 1 2 1 2 0 0) ≡ 1)
unfolding rei_length_refusal
refused-many = (refl, refl)

-- a wrong length, unlike injections; no bus with a matrix is 2, with injections 3, and otherwise 4
refused : (rei_length_refusal 1 0 1 (sized 1 2 1 2 0 1) ≡ 2)
    × (rei_length_refusal 1 0 1 (sized 1 2 1 2 0 0) ≡ 3)
    × (rei_length_refusal 0 0 0 (sized 0 2 0 0 0 0) ≡ 2)
    × (rei_length_refusal 0 1 1 (sized 0 0 0 0 0 0) ≡ 3)
    × (rei_length_refusal 0 0 0 (sized 0 0 0 0 0 0) ≡ 4)
unfolding rei_length_refusal sized tie_room
refused = (refl, refl, refl, refl, refl)

-- ---- numbers that are not finite

-- generator 5 alone, with this diagonal entry and these injections
alone : Float → List Float → List Float → ReiInput
alone y p q =
    record {
      generators = 5 ∷ [];
      loads = [];
      entries = y ∷ zero' ∷ [];
      p = p;
      q = q;
      bus_id = 17;
      spoke_buses = replicate 1 8;
      spokes = replicate 2 nan;
      tie_buses = [];
      ties = [];
    }

-- an entry, P or Q given; after unlike injections
given-refused : (rei_refusal (alone nan (one' ∷ []) (one' ∷ [])) ≡ 19)
    × (rei_refusal (alone one' (inf false ∷ []) (one' ∷ [])) ≡ 19)
    × (rei_refusal (alone one' (one' ∷ []) (nan ∷ [])) ≡ 19)
    × (rei_refusal (alone nan (one' ∷ one' ∷ []) (one' ∷ [])) ≡ 3)
unfolding alone rei_refusal rei_shape_refusal rei_length_refusal sized rei_size tie_room then_given then_computed of_bits of_fields odd count_trailing_zeros
given-refused = (refl, refl, refl, refl)

-- 2 ^ 512, whose square is not finite though it is given, and 2 ^ 511
abbrev square-overflows : Float
square-overflows = of_bits binary64 0x5ff0000000000000

abbrev square-fits : Float
square-fits = of_bits binary64 0x5fe0000000000000

computed-refused : (rei_refusal (alone square-overflows (one' ∷ []) (one' ∷ [])) ≡ 20)
    × (rei_refusal (alone square-fits (one' ∷ []) (one' ∷ [])) ≡ 0)
unfolding alone rei_refusal rei_shape_refusal rei_length_refusal sized rei_size tie_room then_given then_computed of_rei partial_sums of_spokes of_spoke magnitude root root_of radicand half whole_root moved_back sqmag entry_at entry up_to plus0 small_magnitude lt add mul div of_int sum round units odd size span climb count_trailing_zeros of_bits of_fields
computed-refused = (refl, refl)

-- a sum of P that is not finite on the way or at its end, and one of Q
sums-refused : (then_computed 0 (of_rei 0 [] (largest ∷ largest ∷ []) []) ≡ 20)
    × (then_computed 0 (of_rei 0 [] [] (largest ∷ largest ∷ [])) ≡ 20)
    × (then_computed 0 (of_rei 0 [] (largest ∷ []) (largest ∷ [])) ≡ 0)
unfolding then_computed of_rei partial_sums of_spokes up_to plus0 add sum round units odd size span climb count_trailing_zeros of_bits of_fields
sums-refused = (refl, refl, refl)
