-- An accepted solve or inverse is finite throughout: what is given, every number on the way, and what is written; and nothing else than a
-- number given or computed that is not finite, a pivot too small or an allowance refuses one whose lengths are right.
use Rattle.std.specs.Prelude.{ℕ, ◌≡◌, not, List, ◌++◌, T, length, Ok, Float}
use Rattle.binary64.specs.Values.{all_finite}
use Rattle.complex.specs.Entries.{entry}
use Rattle.complex.specs.Matrices.{entry_at, grid, zeros}
use Rattle.refusals.specs.declared.Allowance.{Allowance}
use Rattle.refusals.specs.declared.Allowance.TheVariants.{Rows}
use Rattle.refusals.specs.Work.{numbers_in, reductions, ◌no_more_than◌}
use Rattle.solver.specs.Solving.{is_singular, solve, inverse}
use Rattle.solver.specs.Steps.{steps_of_solve, steps_of_inverse}
use Rattle.solver.specs.Calls.{solve_shape_refusal, inverse_shape_refusal, after_solve, after_inverse}

pub record FiniteSolve (n : ℕ) (a b : List Float) (solution : List Float) : Type 0 where
  pub system : T (all_finite a)
  pub right_side : T (all_finite b)
  pub computed : T (all_finite (numbers_in (steps_of_solve n (entry_at n a) (entry b))))
  pub written : T (all_finite solution)

pub record FiniteInverse (n : ℕ) (mat : List Float) (inverse : List Float) : Type 0 where
  pub matrix : T (all_finite mat)
  pub computed : T (all_finite (numbers_in (steps_of_inverse n (entry_at n mat))))
  pub written : T (all_finite inverse)

pub record FiniteAnswers : Type 0 where
  pub solve : (n : ℕ) (a b : List Float) (allowance : Allowance) (x work : List Float) (rows : ℕ)
      → (after_solve n a b allowance x work).answer ≡ Ok rows → FiniteSolve n a b (after_solve n a b allowance x work).output
  pub inverse : (n : ℕ) (mat out work : List Float)
      → (after_inverse n mat out work).answer ≡ Ok tt → FiniteInverse n mat (after_inverse n mat out work).output

-- Nothing finite is refused: where 1, 2 and 5 are not told, every number given and computed is finite, no pivot is too small and the
-- allowance is enough, the call is accepted with the value of its definition.
pub record AcceptedAnswers : Type 0 where
  pub accepted-solve : (n : ℕ) (a b : List Float) (allowance : Allowance) (x work : List Float)
      → solve_shape_refusal n (length a) (length b) (length x) (length work) ≡ 0
      → T (all_finite (a ++ b))
      → T (all_finite (numbers_in (steps_of_solve n (entry_at n a) (entry b))))
      → T (not (is_singular n (entry_at n a)))
      → Rows (reductions (steps_of_solve n (entry_at n a) (entry b))) no_more_than allowance
      → after_solve n a b allowance x work ≡ record {
        answer = Ok (reductions (steps_of_solve n (entry_at n a) (entry b)));
        output = grid n 1 (λ (i k : ℕ). solve n (entry_at n a) (entry b) i);
        work = zeros (length work);
      }
  -- an inverse has no allowance
  pub accepted-inverse : (n : ℕ) (mat out work : List Float)
      → inverse_shape_refusal n (length mat) (length out) (length work) ≡ 0
      → T (all_finite mat)
      → T (all_finite (numbers_in (steps_of_inverse n (entry_at n mat))))
      → T (not (is_singular n (entry_at n mat)))
      → after_inverse n mat out work ≡ record {
        answer = Ok tt;
        output = grid n n (inverse n (entry_at n mat));
        work = zeros (length work);
      }
