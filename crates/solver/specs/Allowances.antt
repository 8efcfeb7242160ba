-- What a solve counts, what it meets under an allowance, and what an allowance alters.
use Rattle.std.specs.Prelude.{ℕ, ◌*◌, ◌-◌, ◌≤◌, ◌≡◌, List, ltb, Ok, Err, Float}
use Rattle.complex.specs.declared.Complex.{Complex}
use Rattle.complex.specs.Matrices.{Matrix}
use Rattle.refusals.specs.declared.Allowance.{Allowance}
use Rattle.refusals.specs.declared.Allowance.TheVariants.{Unlimited, Rows}
use Rattle.refusals.specs.declared.Refusal.TheVariants.{BeyondAllowance}
use Rattle.refusals.specs.Refusals.{singular, beyond_allowance, computed_not_finite, refuse}
use Rattle.refusals.specs.Work.{reductions, work_refusal, ◌no_more_than◌}
use Rattle.solver.specs.GaussJordan.{pairs}
use Rattle.solver.specs.Solving.{operations, is_singular}
use Rattle.solver.specs.Steps.{steps_of_solve}
use Rattle.solver.specs.Calls.{after_solve}

pub record SolveAllowances : Type 0 where
  -- the count is that of the pairs of column and other row whose factor is not skipped, whatever the right side
  pub counts-pairs : (n : ℕ) (A : Matrix) (b : ℕ → Complex) → reductions (steps_of_solve n A b) ≡ pairs operations n A
  -- it is at most n (n - 1)
  pub at_most : (n : ℕ) (A : Matrix) (b : ℕ → Complex) → reductions (steps_of_solve n A b) ≤ n * (n - 1)
  -- where the work without a limit does not meet 20: 18 where more rows than are allowed are to be reduced, else 13 where a pivot is too
  -- small, which comes by the system alone
  pub meets-first : (n : ℕ) (A : Matrix) (b : ℕ → Complex) (allowed : ℕ)
      → (work_refusal Unlimited (steps_of_solve n A b) ≡ computed_not_finite → ⊥)
      → work_refusal (Rows allowed) (steps_of_solve n A b)
      ≡ refuse (ltb allowed (pairs operations n A)) beyond_allowance (refuse (is_singular n A) singular 0)
  -- an accepted solve reduces no more rows than are allowed
  pub within : (n : ℕ) (a b : List Float) (allowed : ℕ) (x work : List Float) (rows : ℕ)
      → (after_solve n a b (Rows allowed) x work).answer ≡ Ok rows → rows ≤ allowed
  -- a larger allowance alters no answer but 18: neither number nor count nor any slice
  pub larger : (n : ℕ) (a b : List Float) (less more : Allowance) (x work : List Float) → less no_more_than more
      → ((after_solve n a b less x work).answer ≡ Err BeyondAllowance → ⊥)
      → after_solve n a b more x work ≡ after_solve n a b less x work
  -- from the bound on an allowance limits nothing
  pub from-bound : (n : ℕ) (a b : List Float) (allowed : ℕ) (x work : List Float) → n * (n - 1) ≤ allowed
      → after_solve n a b (Rows allowed) x work ≡ after_solve n a b Unlimited x work
  -- without a limit there is no 18
  pub unlimited : (n : ℕ) (a b x work : List Float) → (after_solve n a b Unlimited x work).answer ≡ Err BeyondAllowance → ⊥
