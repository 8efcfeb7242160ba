-- The work of Gauss-Jordan as a list of steps. Per column: the search for the pivot, its test, its inverse, its row scaled, and the other
-- rows in turn, each skipped or reduced.
use Prim.Native.Nat.{ℕ, zero, suc, ◌+◌, ◌-◌}
use Rattle.std.specs.Prelude.{◌||◌, eqb, Float}
use Rattle.std.proofs.Math.Bool.{cond}
use mathlib.Core.List.{List, [], ◌∷◌, ◌++◌}
use Rattle.complex.specs.declared.Complex.{Complex}
use Rattle.complex.specs.Arithmetic.{unit}
use Rattle.complex.specs.Computed.{of_product, of_difference, of_sqmag, of_quotient}
use Rattle.complex.specs.Matrices.{Matrix}
use Rattle.lists.specs.Buses.{up_to}
use Rattle.refusals.specs.Work.{Step, reduces, pivot_too_small, computing}
use Rattle.solver.specs.GaussJordan.{Operations, MatrixOf, stays, pivoted, scaled, cleared, augmented}
use Rattle.solver.specs.Solving.{operations, unit_column}

-- the numbers that each of the element's operations computes, in its order
pub record Workings (E : Type 0) : Type 0 where
  pub of_times : E → E → List Float
  pub of_minus : E → E → List Float
  pub of_inverse : E → List Float
  pub of_weight : E → List Float

module _ {E : Type 0} (O : Operations E) (W : Workings E) where
  -- the weights of the search for column c's pivot: at each of the `count` rows from `next` on, the held row's and its own
  unfoldable pub of_search : MatrixOf E → ℕ → ℕ → ℕ → ℕ → List Float
  unfolding stays
  of_search A c held next zero = []
  of_search A c held next (suc count) =
      W.of_weight (A held c) ++ W.of_weight (A next c)
      ++ of_search A c (cond (stays (O.weight (A held c)) (O.weight (A next c))) held next) (suc next) count

  -- row c times the pivot's inverse, in the columns js
  unfoldable pub of_scaling : MatrixOf E → ℕ → List ℕ → List Float
  of_scaling B c [] = []
  of_scaling B c (j ∷ js) = W.of_times (B c j) (O.inverse (B c c)) ++ of_scaling B c js

  -- row i less its factor times row c, in the columns js
  unfoldable pub of_reducing : MatrixOf E → ℕ → ℕ → List ℕ → List Float
  of_reducing C c i [] = []
  of_reducing C c i (j ∷ js) = W.of_times (C i c) (C c j) ++ W.of_minus (C i j) (O.times (C i c) (C c j)) ++ of_reducing C c i js

  -- row i in column c's turn: nothing for row c itself or where the factor is skipped
  unfoldable pub steps_of_row : MatrixOf E → ℕ → ℕ → List ℕ → List Step
  unfolding of_reducing computing
  steps_of_row C c i js = cond (eqb i c || O.skips (C i c)) [] (reduces ∷ computing (of_reducing C c i js))

  -- the rows is in turn
  unfoldable pub steps_of_rows : MatrixOf E → ℕ → List ℕ → List ℕ → List Step
  unfolding steps_of_row
  steps_of_rows C c [] js = []
  steps_of_rows C c (i ∷ is) js = steps_of_row C c i js ++ steps_of_rows C c is js

  -- n rows of w entries, the columns from c on, `count` of them
  unfoldable pub steps_from : ℕ → ℕ → ℕ → ℕ → MatrixOf E → List Step
  unfolding pivoted scaled cleared of_search of_scaling steps_of_rows
  steps_from n w zero c A = []
  steps_from n w (suc count) c A =
      let B = pivoted O n c A in
      computing (of_search A c c (suc c) (n - suc c) ++ W.of_weight (B c c))
      ++ cond (O.small (B c c)) (pivot_too_small ∷ [])
      (computing (W.of_inverse (B c c) ++ of_scaling B c (up_to w))
      ++ (steps_of_rows (scaled O c B) c (up_to n) (up_to w) ++ steps_from n w count (suc c) (cleared O c B)))

  unfoldable pub steps_of_run : ℕ → ℕ → MatrixOf E → List Step
  unfolding steps_from
  steps_of_run n w A = steps_from n w n 0 A

-- on complex numbers
abbrev pub workings : Workings Complex
workings = record { of_times = of_product; of_minus = of_difference; of_inverse = of_quotient unit; of_weight = of_sqmag }

-- the solve of A x = b
unfoldable pub steps_of_solve : ℕ → Matrix → (ℕ → Complex) → List Step
unfolding augmented steps_of_run
steps_of_solve n A b = steps_of_run operations workings n (n + 1) (augmented operations n A (λ (r k : ℕ). b r))

-- the inverse of A: all columns of the identity are right sides
unfoldable pub steps_of_inverse : ℕ → Matrix → List Step
unfolding augmented unit_column steps_of_run
steps_of_inverse n A = steps_of_run operations workings n (n + n) (augmented operations n A (λ (r k : ℕ). unit_column k r))
