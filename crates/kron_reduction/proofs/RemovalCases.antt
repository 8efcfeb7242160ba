-- Removals from small matrices, computed: which numbers refuse them.
use Rattle.prelude.proofs.Prelude.{◌≡◌, refl, cond, [], ◌∷◌, ℕ, eqb, Float, binary64, neg, of_bits, add, sub, mul, div, lt, round, sum, units, odd, climb, span, size, of_fields}
use Rattle.binary64.specs.Values.{all_finite}
use Rattle.complex.specs.{plus0, division_limit, csub, cmul, sqmag, cdiv}
use Rattle.lists.specs.Buses.{up_to, others}
use Rattle.kron_reduction.specs.Kron.{new_entry, kron, State, start, of_row, of_rows, removal_refusal, carried_out, stopped_by}

-- the matrix a, b / c, d, all real
abbrev two : Float → Float → Float → Float → State
two a b c d = start 2 (λ (i j : ℕ). record { re = cond (eqb i 0) (cond (eqb j 0) a b) (cond (eqb j 0) c d); im = plus0 })

-- a alone
abbrev alone : Float → State
alone a = start 1 (λ (i j : ℕ). record { re = a; im = plus0 })

-- a, b and c on the diagonal, 0 elsewhere
abbrev diagonal : Float → Float → Float → State
diagonal a b c = start 3 (λ (i j : ℕ). record { re = cond (eqb i j) (cond (eqb i 0) a (cond (eqb i 1) b c)) plus0; im = plus0 })

abbrev one : Float
one = of_bits binary64 0x3ff0000000000000

-- 2^512, 2^511, 2^-499 and the largest number
abbrev past-root : Float
past-root = of_bits binary64 0x5ff0000000000000

abbrev below_root : Float
below_root = of_bits binary64 0x5fe0000000000000

abbrev tiny : Float
tiny = of_bits binary64 0x20c0000000000000

abbrev largest : Float
largest = of_bits binary64 0x7fefffffffffffff

-- y_kk's square overflows, though the quotient would be 0
pub square-overflows : removal_refusal (two one one one past-root) 1 ≡ 20
unfolding plus0 of_bits division_limit csub cmul sqmag cdiv new_entry kron of_row of_rows removal_refusal all_finite up_to others add sub mul div lt neg round sum units odd climb span size of_fields
square-overflows = refl

pub square-fits : removal_refusal (two one one one below_root) 1 ≡ 0
unfolding plus0 of_bits division_limit csub cmul sqmag cdiv new_entry kron of_row of_rows removal_refusal all_finite up_to others add sub mul div lt neg round sum units odd climb span size of_fields
square-fits = refl

pub square-too-small : removal_refusal (two one one one tiny) 1 ≡ 12
unfolding plus0 of_bits division_limit csub cmul sqmag cdiv new_entry kron of_row of_rows removal_refusal all_finite up_to others add sub mul div lt neg round sum units odd climb span size of_fields
square-too-small = refl

-- the new entry is twice the largest number
pub entry-overflows : removal_refusal (two largest (neg largest) one one) 1 ≡ 20
unfolding plus0 of_bits division_limit csub cmul sqmag cdiv new_entry kron of_row of_rows removal_refusal all_finite up_to others add sub mul div lt neg round sum units odd climb span size of_fields
entry-overflows = refl

-- the last bus leaves no entry: its square alone tells
pub last-overflows : removal_refusal (alone past-root) 0 ≡ 20
unfolding plus0 of_bits division_limit csub cmul sqmag cdiv new_entry kron of_row of_rows removal_refusal all_finite up_to others add sub mul div lt neg round sum units odd climb span size of_fields
last-overflows = refl

pub last_fits : removal_refusal (alone below_root) 0 ≡ 0
unfolding plus0 of_bits division_limit csub cmul sqmag cdiv new_entry kron of_row of_rows removal_refusal all_finite up_to others add sub mul div lt neg round sum units odd climb span size of_fields
last_fits = refl

-- a bus that is not active is told before its numbers
pub not_there : removal_refusal (alone past-root) 1 ≡ 11
unfolding plus0 of_bits division_limit csub cmul sqmag cdiv new_entry kron of_row of_rows removal_refusal all_finite up_to others add sub mul div lt neg round sum units odd climb span size of_fields
not_there = refl

-- a list of three is stopped at the second: the first stays removed, the third is not looked at
pub one_of_three : (carried_out (diagonal one past-root one) (0 ∷ 1 ∷ 2 ∷ []) ≡ 0 ∷ []) × (stopped_by (diagonal one past-root one) (0 ∷ 1 ∷ 2 ∷ []) ≡ 20)
unfolding plus0 of_bits division_limit csub cmul sqmag cdiv new_entry kron of_row of_rows removal_refusal all_finite up_to others carried_out stopped_by add sub mul div lt neg round sum units odd climb span size of_fields
one_of_three = (refl, refl)
