-- Magnitudes and roots computed by the checker, by their bits: what they are, and which of them are not finite.
use Rattle.std.proofs.Common.{Option, Some, None, Float}
use Rattle.prelude.proofs.Prelude.{◌≡◌, refl, [], ◌∷◌, ℕ, binary64, add, mul, sum, round, units, odd, of_bits, of_fields, size, span, climb}
use lib.Count.{count_trailing_zeros}
use Rattle.binary64.specs.Values.{all_finite}
use Rattle.binary64.specs.Root.{root, root_of, radicand, half, whole_root, moved_back}
use Rattle.refusals.specs.Refusals.{given_not_finite, computed_not_finite, then_given, then_computed}
use Rattle.complex.specs.declared.Complex.{Complex}
use Rattle.complex.specs.Arithmetic.{sqmag}
use Rattle.complex.specs.Computed.{of_parts}
use Rattle.complex.specs.Magnitude.{magnitude}
use Rattle.complex.specs.Leaves.{real, square_root, of_magnitude, magnitude_of, single_refusal}

-- to open this is to open all that the cases compute with
opened : Unit {0}
unfolding magnitude sqmag root root_of radicand half whole_root moved_back odd size span climb count_trailing_zeros mul add sum round units of_bits of_fields all_finite then_given then_computed real square_root magnitude_of single_refusal
opened = tt

-- the magnitude of (3, 4) is 5
three-four : magnitude (record { re = of_bits binary64 0x4008000000000000; im = of_bits binary64 0x4010000000000000 }) ≡ of_bits binary64 0x4014000000000000
unfolding opened
three-four = refl

-- ---- refused or not

-- the root of the number with these bits: the call's number, and its answer
abbrev Root : ℕ → ℕ → Option Float → Type 0
Root x number answer = (single_refusal (of_bits binary64 x ∷ []) (root (of_bits binary64 x) ∷ []) ≡ number) × (square_root (of_bits binary64 x) ≡ answer)

-- of -1, of -0, and of infinity, which is refused as a number given
root-of-minus-one : Root 0xbff0000000000000 computed_not_finite None
unfolding opened
root-of-minus-one = (refl, refl)

root-of-minus-zero : Root 0x8000000000000000 0 (Some (of_bits binary64 0x8000000000000000))
unfolding opened
root-of-minus-zero = (refl, refl)

root-of-infinity : Root 0x7ff0000000000000 given_not_finite None
unfolding opened
root-of-infinity = (refl, refl)

-- the magnitude of a real number, the same
abbrev on_line : ℕ → Complex
on_line x = record { re = of_bits binary64 x; im = of_bits binary64 0 }

abbrev Magnitude : ℕ → ℕ → Option Float → Type 0
Magnitude x number answer = (single_refusal (of_parts (on_line x)) (of_magnitude (on_line x)) ≡ number) × (magnitude_of (on_line x) ≡ answer)

-- the square of 2^512 overflows, that of 2^511 does not
magnitude-overflows : Magnitude 0x5ff0000000000000 computed_not_finite None
unfolding opened
magnitude-overflows = (refl, refl)

magnitude-fits : Magnitude 0x5fe0000000000000 0 (Some (of_bits binary64 0x5fe0000000000000))
unfolding opened
magnitude-fits = (refl, refl)
