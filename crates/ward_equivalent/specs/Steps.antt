-- The work of a Ward study as a list of steps: a solve for the column of each retained bus, the equivalent's entries, the currents and
-- their solve, the injections, and the ratio. Of a correction first its terms, then its sums. A turned sign is no number of its own.
use Rattle.std.specs.Prelude.{ℕ, zero, suc, cond, List, [], ◌∷◌, ◌++◌, eqb, length, get_or, pos, Float}
use Rattle.std.specs.Float.{nan, binary64}
use Rattle.std.specs.Float.Ieee.{neg, of_int}
use Rattle.complex.specs.declared.Complex.{Complex}
use Rattle.complex.specs.Arithmetic.{◌⊗◌, ◌⊘◌, cmul}
use Rattle.complex.specs.Computed.{of_parts, of_sum, of_product, of_difference, of_sqmag}
use Rattle.refusals.specs.Work.{Step, computing, numbers_in}
use Rattle.solver.specs.Steps.{steps_of_solve}
use Rattle.ward_equivalent.specs.Arithmetic.{sum_up, current}
use Rattle.ward_equivalent.specs.Ward.{Study, retained, externals, external_at, admittance, y_ee, solved_column, row_times, injection_p}
use Rattle.ward_equivalent.specs.Ward.{injection_q, solved_currents, ratio}
use Rattle.ward_equivalent.specs.Extended.{ExtendedStudy, add_up, deviation, boundary_tie, weight, voltage_correction, reactive}

-- of each of a list, in its order
unfoldable pub of_each : {A : Type 0} → (ℕ → List A) → List ℕ → List A
of_each f [] = []
of_each f (i ∷ is) = f i ++ of_each f is

-- a sum of n products a k times x k: product and sum, in turn
unfoldable pub of_products : ℕ → (ℕ → Complex) → (ℕ → Complex) → List Float
unfolding sum_up
of_products zero a x = []
of_products (suc n) a x = of_products n a x ++ of_product (a n) (x n) ++ of_sum (sum_up n (λ (k : ℕ). cmul (a k) (x k))) (cmul (a n) (x n))

-- row i of Y_re times a vector
unfoldable pub of_row_times : Study → ℕ → (ℕ → Complex) → List Float
unfolding of_products admittance
of_row_times S i x = of_products (externals S) (λ (k : ℕ). admittance S i (external_at S k)) x

-- the solve for the column of X of bus j
unfoldable pub steps_of_column : Study → ℕ → List Step
unfolding y_ee admittance steps_of_solve
steps_of_column S j = steps_of_solve (externals S) (y_ee S) (λ (l : ℕ). admittance S (external_at S l) j)

-- the equivalent's entry between buses i and j
unfoldable pub of_equivalent_entry : Study → ℕ → ℕ → List Float
unfolding of_row_times row_times admittance solved_column
of_equivalent_entry S i j = of_row_times S i (solved_column S j) ++ of_difference (admittance S i j) (row_times S i (solved_column S j))

-- the currents of the `count` first external buses
unfoldable pub of_currents : Study → ℕ → List Float
unfolding current
of_currents S zero = []
of_currents S (suc count) = of_currents S count ++ of_parts (current S.base (get_or S.p-ext count nan) (get_or S.q-ext count nan))

-- the solve for them
unfoldable pub steps_of_currents : Study → List Step
unfolding y_ee current steps_of_solve
steps_of_currents S = steps_of_solve (externals S) (y_ee S) (λ (l : ℕ). current S.base (get_or S.p-ext l nan) (get_or S.q-ext l nan))

-- what boundary bus i gets
unfoldable pub of_injection : Study → ℕ → List Float
unfolding of_row_times solved_currents injection_p injection_q
of_injection S i = of_row_times S i (solved_currents S) ++ (injection_p S i ∷ injection_q S i ∷ [])

unfoldable pub of_ratio : ℕ → ℕ → List Float
unfolding ratio
of_ratio r n = of_int binary64 (pos r) ∷ of_int binary64 (pos n) ∷ of_int binary64 (pos r) ⊘ of_int binary64 (pos n) ∷ ratio r n ∷ []

-- all entries of the equivalent, row by row
unfoldable pub of_equivalent : Study → List Float
unfolding of_each of_equivalent_entry retained
of_equivalent S = of_each (λ (i : ℕ). of_each (of_equivalent_entry S i) (retained S)) (retained S)

unfoldable pub of_injections : Study → List Float
unfolding of_each of_injection
of_injections S = of_each (of_injection S) S.boundary

-- the whole study; with no external bus nothing is computed
unfoldable pub steps_of : Study → List Step
unfolding of_each steps_of_column of_equivalent of_currents steps_of_currents of_injections of_ratio retained computing
steps_of S =
    cond (eqb (externals S) 0) []
    (of_each (steps_of_column S) (retained S)
    ++ (computing (of_equivalent S ++ of_currents S (externals S))
    ++ (steps_of_currents S
    ++ computing (of_injections S ++ of_ratio (length (retained S)) S.size))))

-- the numbers that it computes
unfoldable pub of_study : Study → List Float
unfolding steps_of numbers_in
of_study S = numbers_in (steps_of S)

-- ---- extended

-- a sum of n numbers
unfoldable pub of_sums : ℕ → (ℕ → Float) → List Float
unfolding add_up
of_sums zero f = []
of_sums (suc n) f = of_sums n f ++ (add_up (suc n) f ∷ [])

-- the terms at boundary bus i of the `count` first external buses: squared magnitude, weight, deviation, weighted deviation, reactive power
unfoldable pub of_ties : ExtendedStudy → ℕ → ℕ → List Float
unfolding weight deviation reactive
of_ties S i zero = []
of_ties S i (suc k) =
    of_ties S i k
    ++ of_sqmag (boundary_tie S i k)
    ++ (weight S i k ∷ deviation S k ∷ weight S i k ⊗ deviation S k
    ∷ neg (boundary_tie S i k).im ⊗ deviation S k ∷ reactive S.study.base (boundary_tie S i k) (deviation S k) ∷ [])

unfoldable pub of_correction : ExtendedStudy → ℕ → List Float
unfolding of_ties of_sums weight deviation reactive voltage_correction
of_correction S i =
    let e = externals S.study in
    of_ties S i e
    ++ of_sums e (λ (k : ℕ). weight S i k ⊗ deviation S k)
    ++ of_sums e (λ (k : ℕ). reactive S.study.base (boundary_tie S i k) (deviation S k))
    ++ of_sums e (weight S i)
    ++ (voltage_correction S i ∷ [])

-- Ward's own study and the corrections of the boundary buses
unfoldable pub steps_of_extended : ExtendedStudy → List Step
unfolding steps_of of_each of_correction computing
steps_of_extended S = steps_of S.study ++ computing (of_each (of_correction S) S.study.boundary)

unfoldable pub of_extended : ExtendedStudy → List Float
unfolding steps_of_extended numbers_in
of_extended S = numbers_in (steps_of_extended S)
