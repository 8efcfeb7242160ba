-- What `solve_linear` and `complex_matrix_inverse` answer, and what they leave in the slices handed to them.
use Rattle.std.specs.Prelude.{ℕ, ◌+◌, ◌*◌, not, ◌&&◌, ◌||◌, cond, List, ◌++◌, eqb, ltb, length, Result, Float}
use Rattle.complex.specs.Entries.{entry}
use Rattle.complex.specs.Matrices.{entry_at, grid, zeros}
use Rattle.refusals.specs.declared.Allowance.{Allowance}
use Rattle.refusals.specs.declared.Allowance.TheVariants.{Unlimited}
use Rattle.refusals.specs.declared.Refusal.{Refusal}
use Rattle.refusals.specs.Refusals.{limit, too_many, wrong_length, empty_system, refuse, then_given, answered, outcome}
use Rattle.refusals.specs.Work.{reductions, then_work}
use Rattle.solver.specs.Solving.{solve, inverse}
use Rattle.solver.specs.Steps.{steps_of_solve, steps_of_inverse}

-- A call that ends in an elimination, with one output slice and one work slice.
pub record AfterElimination (Answer : Type 0) : Type 0 where
  pub answer : Answer
  pub output : List Float
  pub work : List Float

-- `by` is the answer by the refusal's number, `told` the refusal from the input, `number` the call's: that one, else what the work
-- meets. On a refusal the output is as it was; the work slice is cleared unless the input was refused.
unfoldable pub after_elimination : {Answer : Type 0} → (ℕ → Answer) → ℕ → ℕ → List Float → List Float → List Float
    → AfterElimination Answer
unfolding zeros
after_elimination by told number new old work =
    record {
      answer = by number;
      output = cond (eqb number 0) new old;
      work = cond (eqb told 0) (zeros (length work)) work;
    }

-- ---- the solution of one system: a has n rows of n, b and x have n entries, work has n rows of n + 1

-- told from the size and the lengths; 0 is no refusal
unfoldable pub solve_shape_refusal : ℕ → ℕ → ℕ → ℕ → ℕ → ℕ
solve_shape_refusal n a b x work =
    refuse (ltb limit n) too_many
    (refuse (not (eqb a (2 * (n * n)) && (eqb x (2 * n) && eqb work (2 * (n * (n + 1)))))) wrong_length
    (refuse (eqb n 0 || not (eqb b (2 * n))) empty_system 0))

-- told from the input: the same, else 19 where a number of a or b is not finite
unfoldable pub solve_refusal : ℕ → List Float → List Float → ℕ → ℕ → ℕ
unfolding solve_shape_refusal then_given
solve_refusal n a b x work = then_given (solve_shape_refusal n (length a) (length b) x work) (a ++ b)

-- an accepted solve answers how many rows it reduced
unfoldable pub after_solve : ℕ → List Float → List Float → Allowance → List Float → List Float → AfterElimination (Result ℕ Refusal)
unfolding solve_refusal steps_of_solve answered then_work reductions after_elimination
after_solve n a b allowance x work =
    let steps = steps_of_solve n (entry_at n a) (entry b) in
    let told = solve_refusal n a b (length x) (length work) in
    after_elimination (answered (reductions steps)) told (then_work told allowance steps)
    (grid n 1 (λ (i k : ℕ). solve n (entry_at n a) (entry b) i))
    x work

-- ---- the inverse: mat and inverse have n rows of n, work has n rows of 2 n

unfoldable pub inverse_shape_refusal : ℕ → ℕ → ℕ → ℕ → ℕ
inverse_shape_refusal n mat inverse work =
    refuse (ltb limit n) too_many
    (refuse (not (eqb mat (2 * (n * n)) && (eqb inverse (2 * (n * n)) && eqb work (4 * (n * n))))) wrong_length
    (refuse (eqb n 0) empty_system 0))

unfoldable pub inverse_refusal : ℕ → List Float → ℕ → ℕ → ℕ
unfolding inverse_shape_refusal then_given
inverse_refusal n mat inverse work = then_given (inverse_shape_refusal n (length mat) inverse work) mat

unfoldable pub after_inverse : ℕ → List Float → List Float → List Float → AfterElimination (Result (Unit {0}) Refusal)
unfolding inverse_refusal steps_of_inverse answered then_work after_elimination
after_inverse n mat out work =
    let told = inverse_refusal n mat (length out) (length work) in
    after_elimination outcome told (then_work told Unlimited (steps_of_inverse n (entry_at n mat)))
    (grid n n (inverse n (entry_at n mat)))
    out work
