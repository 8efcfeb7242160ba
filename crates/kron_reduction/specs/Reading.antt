-- What `reduced_matrix`, `active_buses` and `thevenin_impedance` answer and leave, for every record and slice.
use Rattle.std.specs.Prelude.{ℕ, ◌*◌, ◌-◌, ◌≡◌, not, cond, List, ◌++◌, map, eqb, ltb, length, get_or, replicate, Float, Result}
use Rattle.std.specs.Float.{binary64}
use Rattle.std.specs.Float.Ieee.{of_bits}
use Rattle.complex.specs.declared.Complex.{Complex}
use Rattle.complex.specs.Constants.{plus0}
use Rattle.complex.specs.Arithmetic.{cadd, csub, cmul}
use Rattle.complex.specs.Computed.{of_sum, of_difference, of_product}
use Rattle.complex.specs.Leaves.{pair, sum, difference, product, passing}
use Rattle.complex.specs.Matrices.{Matrix, entry_at, zeros}
use Rattle.refusals.specs.declared.Refusal.{Refusal}
use Rattle.refusals.specs.Refusals.{limit, too_many, wrong_length, bad_record, not_active, refuse, then_given, answered, outcome}
use Rattle.refusals.specs.declared.Allowance.TheVariants.{Unlimited}
use Rattle.refusals.specs.Work.{Step, computing, then_work}
use Rattle.solver.specs.Solving.{inverse}
use Rattle.solver.specs.Steps.{steps_of_inverse}
use Rattle.kron_reduction.specs.declared.KronReducer.{KronReducer}
use Rattle.lists.specs.Buses.{mem, place}
use Rattle.kron_reduction.specs.Reducer.{active_of, row_of, sound, input_shape_refusal, present, state_of, row_major}

-- 1, 2 (also of a second slice, of m numbers, that must have `per` for each entry at making), 9 or 0
unfoldable pub reading_shape_refusal : ℕ → KronReducer → List Float → ℕ → ℕ
reading_shape_refusal per r ys m =
    refuse (ltb limit r.made) too_many
    (refuse (not (eqb m (per * (r.made * r.made)))) wrong_length
    (input_shape_refusal r ys 0))

-- 1, 2, 9, 19 of the present rows alone, or 0
unfoldable pub reading_refusal : ℕ → KronReducer → List Float → ℕ → ℕ
reading_refusal per r ys m = then_given (reading_shape_refusal per r ys m) (present r ys)

-- ---- the present matrix

pub record AfterMatrix : Type 0 where
  pub answer : Result (Unit {0}) Refusal
  pub out : List Float

-- the present rows, +0 behind; where refused the output as it was
unfoldable pub after_matrix : KronReducer → List Float → List Float → AfterMatrix
after_matrix r ys os =
    let f = reading_refusal 2 r ys (length os) in
    record { answer = outcome f; out = cond (eqb f 0) (row_major (2 * (r.made * r.made)) (active_of r) (state_of r ys).entries) os }

-- ---- the active buses

-- their numbers, in the order of their rows
abbrev pub active_numbers : KronReducer → List ℕ
active_numbers r = map (λ (i : ℕ). get_or r.numbers i 0) (active_of r)

-- 1, 2 of an output of m numbers, which must have one for each row at making, 9 or 0
unfoldable pub active_refusal : KronReducer → ℕ → ℕ
active_refusal r m =
    refuse (ltb limit r.made) too_many
    (refuse (not (eqb m r.made)) wrong_length
    (refuse (not (sound r)) bad_record 0))

pub record AfterActive : Type 0 where
  pub answer : Result (Unit {0}) Refusal
  pub buses : List ℕ

-- the number of each present row's bus, 0 behind; where refused the output as it was
unfoldable pub after_active : KronReducer → List ℕ → AfterActive
after_active r os =
    let f = active_refusal r (length os) in
    record { answer = outcome f; buses = cond (eqb f 0) (active_numbers r ++ replicate (r.made - r.n_buses) 0) os }

-- ---- Thevenin impedance

-- 2.0
unfoldable pub two : Float
two = of_bits binary64 0x4000000000000000

-- z_ii + z_jj - (2, 0) z_ij, of the inverse's rows p and q
unfoldable pub thevenin_of : Matrix → ℕ → ℕ → Complex
unfolding two plus0
thevenin_of Z p q = csub (cadd (Z p p) (Z q q)) (cmul (record { re = two; im = plus0 }) (Z p q))

-- the numbers that it computes
unfoldable pub of_thevenin : Matrix → ℕ → ℕ → List Float
unfolding two plus0
of_thevenin Z p q =
    of_sum (Z p p) (Z q q)
    ++ of_product (record { re = two; im = plus0 }) (Z p q)
    ++ of_difference (cadd (Z p p) (Z q q)) (cmul (record { re = two; im = plus0 }) (Z p q))

-- the work: the whole inverse, also the columns that are not read, then these numbers
unfoldable pub steps_of_impedance : ℕ → Matrix → ℕ → ℕ → List Step
unfolding steps_of_inverse computing of_thevenin
steps_of_impedance n Y p q = steps_of_inverse n Y ++ computing (of_thevenin (inverse n Y) p q)

-- told before the work: the input's refusal, else 11, of the first bus, then of the second, both by their rows
unfoldable pub impedance_told : ℕ → List ℕ → ℕ → ℕ → ℕ
impedance_told input xs i j = cond (eqb input 0) (refuse (not (mem i xs)) not_active (refuse (not (mem j xs)) not_active 0)) input

pub record AfterImpedance : Type 0 where
  pub answer : Result Complex Refusal
  pub work : List Float

-- between the buses numbered a and b: refused before the work, else with 13 or 20 as the work meets them. The work slice is +0 unless
-- the call was refused before the work.
unfoldable pub after_impedance : KronReducer → List Float → ℕ → ℕ → List Float → AfterImpedance
unfolding then_work steps_of_impedance
after_impedance r ys a b ws =
    let xs = active_of r in
    let n = r.n_buses in
    let Y = entry_at n ys in
    let told = impedance_told (reading_refusal 4 r ys (length ws)) xs (row_of r a) (row_of r b) in
    let p = place (row_of r a) xs in
    let q = place (row_of r b) xs in
    record {
      answer = answered (thevenin_of (inverse n Y) p q) (then_work told Unlimited (steps_of_impedance n Y p q));
      work = cond (eqb told 0) (zeros (length ws)) ws;
    }

-- the impedance by the operations that answer a finite number or none
abbrev pub ImpedancePassedOn : Type 0
ImpedancePassedOn = (Z : Matrix) (p q : ℕ)
    → passing (sum (Z p p) (Z q q)) (λ (own : Complex). passing (product (record { re = two; im = plus0 }) (Z p q))
    (λ (both : Complex). difference own both))
    ≡ pair (of_thevenin Z p q) (thevenin_of Z p q)
