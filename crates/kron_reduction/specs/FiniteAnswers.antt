-- What a call with an accepted input answers, leaves in the present rows, or writes is finite; a list of removals that is stopped by a
-- refusal too. And no impedance is refused whose numbers are finite.
use Rattle.std.specs.Prelude.{ℕ, ◌≡◌, not, List, T, length, Float, Ok}
use Rattle.binary64.specs.Values.{all_finite}
use Rattle.complex.specs.declared.Complex.{Complex}
use Rattle.complex.specs.Computed.{of_parts}
use Rattle.complex.specs.Matrices.{entry_at, zeros}
use Rattle.lists.specs.Buses.{place}
use Rattle.refusals.specs.Refusals.{limit}
use Rattle.refusals.specs.Work.{numbers_in}
use Rattle.solver.specs.Solving.{is_singular, inverse}
use Rattle.kron_reduction.specs.declared.KronReducer.{KronReducer}
use Rattle.kron_reduction.specs.Reducer.{active_of, row_of, present, input_refusal, after_bus, after_buses}
use Rattle.kron_reduction.specs.Reading.{reading_shape_refusal, reading_refusal, after_matrix, impedance_told, after_impedance}
use Rattle.kron_reduction.specs.Reading.{thevenin_of, steps_of_impedance}

-- of one record and slice
pub record FiniteOf (r : KronReducer) (ys : List Float) : Type 0 where
  pub removals : (ks : List ℕ) → input_refusal r ys (length ks) ≡ 0
      → T (all_finite (present (after_buses r ys ks).out.rec (after_buses r ys ks).slice))
  pub removal : (k : ℕ) → input_refusal r ys 1 ≡ 0 → T (all_finite (present (after_bus r ys k).out.rec (after_bus r ys k).slice))
  pub matrix : (os : List Float) → reading_refusal 2 r ys (length os) ≡ 0 → T (all_finite (after_matrix r ys os).out)
  pub impedance : (a b : ℕ) (ws : List Float) (z : Complex) → (after_impedance r ys a b ws).answer ≡ Ok z → T (all_finite (of_parts z))

-- of every record, whose active rows have as many places as the limit
abbrev pub FiniteAnswers : Type 0
FiniteAnswers = (r : KronReducer) (ys : List Float) → length r.active_buses ≡ limit → FiniteOf r ys

-- Nothing finite is refused: where 1, 2, 9 and 11 are not told, every number given and computed is finite and no pivot is too small, the
-- impedance between the buses numbered a and b is answered.
abbrev pub AcceptedImpedance : Type 0
AcceptedImpedance = (r : KronReducer) (ys : List Float) (a b : ℕ) (ws : List Float) → let n = r.n_buses in
    let Y = entry_at n ys in
    let p = place (row_of r a) (active_of r) in
    let q = place (row_of r b) (active_of r) in
    impedance_told (reading_shape_refusal 4 r ys (length ws)) (active_of r) (row_of r a) (row_of r b) ≡ 0
    → T (all_finite (present r ys))
    → T (all_finite (numbers_in (steps_of_impedance n Y p q)))
    → T (not (is_singular n Y))
    → after_impedance r ys a b ws ≡ record { answer = Ok (thevenin_of (inverse n Y) p q); work = zeros (length ws) }
