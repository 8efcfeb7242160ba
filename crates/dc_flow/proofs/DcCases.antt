-- The DC definitions computed by the checker on small cases.
use Rattle.prelude.proofs.Prelude.{◌≡◌, refl, T, length, List, [], ◌∷◌, ℕ, ◌+◌, replicate, Float, nan, inf, true, binary64, of_bits, of_fields, neg, add, sub, div, sum, round, units, odd, lt, size, span, climb}
use lib.Count.{count_trailing_zeros}
use Rattle.complex.specs.{plus0, one, small_magnitude, abs, zeros}
use Rattle.lists.specs.Buses.{up_to, others}
use Rattle.binary64.specs.Values.{all_finite}
use Rattle.refusals.specs.Refusals.{limit, then_given, then_computed, answered}
use Rattle.std.proofs.Common.{Ok, Err}
use Rattle.refusals.specs.declared.Refusal.TheVariants.{TooMany, WrongLength}
use Rattle.dc_flow.specs.Dc.{ends_refusal, retained_of, retained_slice, retained_refusal, retained_answer, retained_output, joined, add_branch, susceptances, build_shape_refusal, build_refusal, built_output, transfer, branch_transfer, denominator, outage_factor, outage, real_row, real_grid, each, of_factor, of_outage, of_lodf, lodf_shape_refusal, lodf_refusal, lodf_output}
use Rattle.dc_flow.proofs.BuildFinite.{dc-finite}

-- small numbers by their bits
abbrev pub half : Float
half = of_bits binary64 0x3fe0000000000000

abbrev pub minus-half : Float
minus-half = of_bits binary64 0xbfe0000000000000

abbrev pub one' : Float
one' = of_bits binary64 0x3ff0000000000000

abbrev pub minus_one : Float
minus_one = of_bits binary64 0xbff0000000000000

abbrev pub two : Float
two = of_bits binary64 0x4000000000000000

abbrev pub minus-two : Float
minus-two = of_bits binary64 0xc000000000000000

abbrev pub zero' : Float
zero' = of_bits binary64 0

-- 1e-13
abbrev pub small : Float
small = of_bits binary64 0x3d3c25c268497682

-- ---- retained_buses: of five buses without 1 and 3, named twice or unknown or not

five : List ℕ
five = 8 ∷ 8 ∷ 8 ∷ 8 ∷ 8 ∷ []

retained : (retained_answer 5 (1 ∷ 7 ∷ 1 ∷ 3 ∷ []) five ≡ Ok 3)
    × (retained_output 5 (1 ∷ 7 ∷ 1 ∷ 3 ∷ []) five ≡ 0 ∷ 2 ∷ 4 ∷ 0 ∷ 0 ∷ [])
    × (retained_answer 2 (1 ∷ 0 ∷ []) (8 ∷ 8 ∷ []) ≡ Ok 0)
unfolding five retained_answer retained_output retained_refusal retained_slice answered retained_of others up_to
retained = (refl, refl, refl)

-- too many buses, too long a list, a slice of another length, which stays as it was
not-retained : (retained_answer (limit + 1) [] five ≡ Err TooMany)
    × (retained_answer 5 (replicate (limit + 1) 0) five ≡ Err TooMany)
    × (retained_answer 4 [] five ≡ Err WrongLength)
    × (retained_output 4 [] five ≡ five)
unfolding five retained_answer retained_output retained_refusal answered
not-retained = (refl, refl, refl, refl)

-- ---- build_b_bus

-- a branch of reactance 0.5, a branch that is skipped, and one with equal ends
one-branch : built_output 2 (0 ∷ 1 ∷ 1 ∷ []) (1 ∷ 0 ∷ 1 ∷ []) (half ∷ small ∷ half ∷ []) (replicate 4 nan) ≡ two ∷ minus-two ∷ minus-two ∷ two ∷ []
unfolding built_output build_refusal build_shape_refusal then_given ends_refusal susceptances add_branch joined zeros plus0 one small_magnitude abs lt add sub div neg sum round units odd size span climb count_trailing_zeros of_bits of_fields
one-branch = refl

-- a number of buses or a list above the limit, a wrong length, unlike lists
build-refused : (build_refusal (limit + 1) (0 ∷ []) (9 ∷ []) [] 0 ≡ 1)
    × (build_refusal 1 [] [] (replicate (limit + 1) half) 0 ≡ 1)
    × (build_refusal 2 (0 ∷ []) (9 ∷ []) [] 5 ≡ 2)
    × (build_refusal 2 (0 ∷ []) (9 ∷ []) [] 4 ≡ 3)
unfolding build_refusal build_shape_refusal then_given
build-refused = (refl, refl, refl, refl)

-- an end that is no bus, also of a skipped branch; no bus and no branch; and a branch with no bus
build_ends : (build_refusal 2 (0 ∷ []) (2 ∷ []) (small ∷ []) 4 ≡ 6)
    × (build_refusal 0 [] [] [] 0 ≡ 0)
    × (build_refusal 0 (0 ∷ []) (0 ∷ []) (half ∷ []) 0 ≡ 6)
unfolding build_refusal build_shape_refusal then_given ends_refusal
build_ends = (refl, refl, refl)

-- ---- lodf_matrix: two branches from bus 0 to bus 1

-- alike, each takes all that the other leaves; where branch 0 takes all of its own transfer, its outage leaves 0.0 in its column
lodf : (lodf_output 2 (zero' ∷ minus-half ∷ zero' ∷ minus-half ∷ []) (0 ∷ 0 ∷ []) (1 ∷ 1 ∷ []) (replicate 4 nan) ≡ minus_one ∷ one' ∷ one' ∷ minus_one ∷ [])
    × (lodf_output 2 (zero' ∷ minus_one ∷ zero' ∷ minus-half ∷ []) (0 ∷ 0 ∷ []) (1 ∷ 1 ∷ []) (replicate 4 nan) ≡ minus_one ∷ two ∷ zero' ∷ minus_one ∷ [])
unfolding lodf_output lodf_refusal lodf_shape_refusal then_given then_computed of_lodf each of_outage of_factor ends_refusal real_grid real_row outage outage_factor branch_transfer denominator transfer plus0 one small_magnitude abs lt add sub div neg sum round units odd size span climb count_trailing_zeros of_bits of_fields
lodf = (refl, refl)

-- the first by `DcFinite.lodf-accepted`, whose premises it meets
alike : List Float
alike = zero' ∷ minus-half ∷ zero' ∷ minus-half ∷ []

premises : (lodf_shape_refusal 2 (length alike) (0 ∷ 0 ∷ []) (1 ∷ 1 ∷ []) 4 ≡ 0) × T (all_finite alike) × T (all_finite (of_lodf 2 alike (0 ∷ 0 ∷ []) (1 ∷ 1 ∷ [])))
unfolding lodf_output lodf_refusal lodf_shape_refusal then_given then_computed of_lodf each of_outage of_factor ends_refusal real_grid real_row outage outage_factor branch_transfer denominator transfer plus0 one small_magnitude abs lt add sub div neg sum round units odd size span climb count_trailing_zeros of_bits of_fields alike
premises = (refl, tt, tt)

by-law : lodf_refusal 2 alike (0 ∷ 0 ∷ []) (1 ∷ 1 ∷ []) 4 ≡ 0
by-law = let (shape, given, computed) = premises in (dc-finite.lodf-accepted 2 alike (0 ∷ 0 ∷ []) (1 ∷ 1 ∷ []) (replicate 4 nan) shape given computed).0

-- a list above the limit, a wrong length, unlike lists, an end that is no bus
lodf-refused : (lodf_shape_refusal 2 0 [] (replicate (limit + 1) 0) 0 ≡ 1)
    × (lodf_shape_refusal 2 2 (0 ∷ []) [] 2 ≡ 2)
    × (lodf_shape_refusal 2 2 (0 ∷ []) [] 1 ≡ 3)
    × (lodf_shape_refusal 2 2 (0 ∷ []) (2 ∷ []) 1 ≡ 6)
unfolding lodf_shape_refusal ends_refusal
lodf-refused = (refl, refl, refl, refl)

-- ---- numbers that are not finite

-- a reactance, after an end that is no bus; and a number of the PTDF, after the same
given-refused : (build_refusal 2 (0 ∷ []) (1 ∷ []) (nan ∷ []) 4 ≡ 19)
    × (build_refusal 2 (0 ∷ []) (2 ∷ []) (nan ∷ []) 4 ≡ 6)
    × (lodf_refusal 2 (one' ∷ inf true ∷ []) (0 ∷ []) (1 ∷ []) 1 ≡ 19)
    × (lodf_refusal 2 (one' ∷ inf true ∷ []) (0 ∷ []) (2 ∷ []) 1 ≡ 6)
unfolding build_refusal build_shape_refusal lodf_refusal lodf_shape_refusal then_given then_computed ends_refusal of_bits of_fields odd count_trailing_zeros
given-refused = (refl, refl, refl, refl)

-- the largest number and its negative
abbrev pub largest : Float
largest = of_bits binary64 0x7fefffffffffffff

abbrev pub minus-largest : Float
minus-largest = of_bits binary64 0xffefffffffffffff

-- one branch alone computes nothing; with a second branch the difference is met, also where its own row is of zeros, and a quotient
lone-and-two : (lodf_refusal 2 (largest ∷ minus-largest ∷ []) (0 ∷ []) (1 ∷ []) 1 ≡ 0)
    × (lodf_refusal 2 (largest ∷ minus-largest ∷ zero' ∷ zero' ∷ []) (0 ∷ 0 ∷ []) (1 ∷ 1 ∷ []) 4 ≡ 20)
    × (lodf_refusal 2 (zero' ∷ zero' ∷ largest ∷ minus-largest ∷ []) (0 ∷ 0 ∷ []) (1 ∷ 1 ∷ []) 4 ≡ 20)
unfolding lodf_refusal lodf_shape_refusal then_given then_computed of_lodf each of_outage of_factor ends_refusal branch_transfer denominator transfer plus0 one small_magnitude abs lt add sub div neg sum round units odd size span climb count_trailing_zeros of_bits of_fields
lone-and-two = (refl, refl, refl)
