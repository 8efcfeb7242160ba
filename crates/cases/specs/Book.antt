-- The two-bus book: twelve cases in one table, each a call (case 8: two) and all that is seen of it once it has returned.
-- Outputs and work slices hold ones at entry. What is seen is given whole and as data, the sign of a zero too, which is more than equal
-- values. Admittances, impedances and voltages are in per unit, P in MW, Q in MVAr, the base in MVA.
use Rattle.std.specs.Prelude.{ℕ, ◌≡◌, List, [], ◌∷◌, map, replicate, Float}
use Rattle.complex.specs.Arithmetic.{complex_of}
use Rattle.refusals.specs.Refusals.{not_active, small_entry, computed_not_finite}
use Rattle.kron_reduction.specs.Reducer.{ReducerInput, reducer_input_of, record_of}
use Rattle.ward_equivalent.specs.Calls.{study_of, outputs_of}
use Rattle.ward_equivalent.specs.Numbers.{numbered_of}
use Rattle.cases.specs.Numbers.{+0, -0, 1/4, 1/2, -1/2, 3/4, +1, -1, 5/4, 3/2, +2, -2, +3, -3, +4, -4, -5, +6, -8, +10, +25, +50}
use Rattle.cases.specs.Numbers.{+100, -100, 2^-499, 2^-498, 2^498}
use Rattle.cases.specs.Calls.{BookCall, product, inverse, removal, removals, impedance, study, extended, solution}
use Rattle.cases.specs.Calls.{Seen, seen, reducer_counts, after}

-- ---- the table's words

-- entries with no imaginary part, each written as one number
unfoldable pub reals : List Float → List Float
reals [] = []
reals (x ∷ xs) = x ∷ +0 ∷ reals xs

-- n ones, and n zeros
abbrev pub ones : ℕ → List Float
ones n = replicate n +1

abbrev pub cleared_slice : ℕ → List Float
cleared_slice n = replicate n +0

-- the number of each row's bus, in every row of the table
abbrev pub book_numbers : List ℕ
book_numbers = 0 ∷ 1 ∷ []

-- the record of a making of n buses with these rows still active
abbrev pub active_record : ℕ → List ℕ → List ℕ
active_record n xs = reducer_counts (record_of n book_numbers xs)

-- M: 1, -1 / -1, 2
abbrev pub M : List Float
M = reals (+1 ∷ -1 ∷ -1 ∷ +2 ∷ [])

-- ---- the rows

pub record BookRow : Type 0 where
  pub case : ℕ
  pub calls : List BookCall
  pub give : List Seen

abbrev pub book_row : ℕ → BookCall → Seen → BookRow
book_row k c s = record { case = k; calls = c ∷ []; give = s ∷ [] }

-- (1, 2) (3, 4) is (-5, 10)
abbrev pub case1 : BookRow
case1 = book_row 1 (product (complex_of +1 +2) (complex_of +3 +4)) (seen 0 [] (-5 ∷ +10 ∷ []) [])

-- (0, 2) inverts to (0, -0.5)
abbrev pub case2 : BookRow
case2 = book_row 2 (inverse (complex_of +0 +2)) (seen 0 [] (+0 ∷ -1/2 ∷ []) [])

-- 2 to the -498 inverts to 2 to the 498
abbrev pub case3 : BookRow
case3 = book_row 3 (inverse (complex_of 2^-498 +0)) (seen 0 [] (2^498 ∷ +0 ∷ []) [])

-- 2 to the -499 is too small to divide by: the inverse would not be finite
abbrev pub case4 : BookRow
case4 = book_row 4 (inverse (complex_of 2^-499 +0)) (seen computed_not_finite [] [] [])

-- M without bus 1: bus 0 is left with 0.5
abbrev pub case5 : BookRow
case5 =
    book_row 5 (removal (reducer_input_of 2 M book_numbers) 1)
    (seen 0 (active_record 2 (0 ∷ [])) [] (reals (1/2 ∷ +0 ∷ +0 ∷ +0 ∷ []) ∷ []))

-- 1, -1 / -1, 0 without bus 1: refused with 12, and all is as it was
abbrev pub flat : List Float
flat = reals (+1 ∷ -1 ∷ -1 ∷ +0 ∷ [])

abbrev pub case6 : BookRow
case6 = book_row 6 (removal (reducer_input_of 2 flat book_numbers) 1) (seen small_entry (active_record 2 (0 ∷ 1 ∷ [])) [] (flat ∷ []))

-- M without buses 1, 1: one is removed, the second refused with 11, and 0.5 is left
abbrev pub case7 : BookRow
case7 =
    book_row 7 (removals (reducer_input_of 2 M book_numbers) (1 ∷ 1 ∷ []))
    (seen not_active (1 ∷ active_record 2 (0 ∷ [])) [] (reals (1/2 ∷ +0 ∷ +0 ∷ +0 ∷ []) ∷ []))

-- 2, 0 / 0, 4: the impedance between buses 0 and 1 is 0.75, between 0 and itself 0
abbrev pub diagonal : ReducerInput
diagonal = reducer_input_of 2 (reals (+2 ∷ +0 ∷ +0 ∷ +4 ∷ [])) book_numbers

abbrev pub case8 : BookRow
case8 =
    record {
      case = 8;
      calls = impedance diagonal 0 1 (ones 16) ∷ impedance diagonal 0 0 (ones 16) ∷ [];
      give = seen 0 [] (3/4 ∷ +0 ∷ []) (cleared_slice 16 ∷ []) ∷ seen 0 [] (+0 ∷ +0 ∷ []) (cleared_slice 16 ∷ []) ∷ [];
    }

-- M, boundary 0, external 1, base 100, P 50, Q 0: 2 buses become 1, ratio 0.5; matrix 0.5, injections 25 and 0
abbrev pub case9 : BookRow
case9 =
    book_row 9
    (study (numbered_of book_numbers (study_of 2 M [] (1 ∷ []) (0 ∷ []) +100 (+50 ∷ []) (+0 ∷ [])))
    (outputs_of (ones 2) (ones 1) (ones 1) (ones 6)))
    (seen 0 (2 ∷ 1 ∷ 0 ∷ []) (1/2 ∷ []) (reals (1/2 ∷ []) ∷ (+25 ∷ []) ∷ (+0 ∷ []) ∷ cleared_slice 6 ∷ []))

-- M, boundary 0, no external bus: matrix 1, no injection, ratio 0
abbrev pub case10 : BookRow
case10 =
    book_row 10
    (study (numbered_of book_numbers (study_of 2 M [] [] (0 ∷ []) +100 [] [])) (outputs_of (ones 2) (ones 1) (ones 1) []))
    (seen 0 (2 ∷ 1 ∷ 0 ∷ []) (+0 ∷ []) (reals (+1 ∷ []) ∷ (+0 ∷ []) ∷ (+0 ∷ []) ∷ [] ∷ []))

-- (3, -4), (-3, 4) / (-3, 4), (6, -8), boundary 0, external 1, voltage 1.25, base 100: voltage correction 0.25, Q -100
abbrev pub case11 : BookRow
case11 =
    book_row 11
    (extended
    (record {
      study = numbered_of book_numbers
          (study_of 2 (+3 ∷ -4 ∷ -3 ∷ +4 ∷ -3 ∷ +4 ∷ +6 ∷ -8 ∷ []) [] (1 ∷ []) (0 ∷ []) +100 (+0 ∷ []) (+0 ∷ []));
      v-ext = 5/4 ∷ [];
    })
    (record { outputs = outputs_of (ones 2) (ones 1) (ones 1) (ones 6); correction = ones 1; compensation = ones 1 }))
    (seen 0 (2 ∷ 1 ∷ 0 ∷ []) (1/2 ∷ [])
    ((3/2 ∷ -2 ∷ []) ∷ (-0 ∷ []) ∷ (+0 ∷ []) ∷ (1/4 ∷ []) ∷ (-100 ∷ []) ∷ cleared_slice 6 ∷ []))

-- 1, 1 / -1, 1 with right side 2, 0: the solution is 1, 1; each row is reduced once
abbrev pub case12 : BookRow
case12 =
    book_row 12
    (solution 2 (reals (+1 ∷ +1 ∷ -1 ∷ +1 ∷ [])) (reals (+2 ∷ +0 ∷ [])) (ones 4) (ones 12))
    (seen 0 (2 ∷ []) [] (reals (+1 ∷ +1 ∷ []) ∷ cleared_slice 12 ∷ []))

unfoldable pub table : List BookRow
table = case1 ∷ case2 ∷ case3 ∷ case4 ∷ case5 ∷ case6 ∷ case7 ∷ case8 ∷ case9 ∷ case10 ∷ case11 ∷ case12 ∷ []

-- ---- what the book claims

-- the calls of a row show just what it says
abbrev pub Met : BookRow → Type 0
Met r = map after r.calls ≡ r.give

unfoldable pub AllMet : List BookRow → Type 0
AllMet [] = Unit {0}
AllMet (r ∷ rs) = Met r × AllMet rs
