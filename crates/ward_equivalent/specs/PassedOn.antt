-- A study passes on what the operations on single numbers answer: its sums and entries, computed first and looked at afterwards, are what
-- products, sums and differences answer one behind the other. Its solves are solver/PassedOn's. Currents, injections and corrections take
-- real numbers, of which the magnitude alone is such an operation: a correction's list has all its numbers (`of_ties`).
use Rattle.std.specs.Prelude.{ℕ, zero, suc, ◌≡◌, not, T, eqb, Option, Some}
use Rattle.complex.specs.declared.Complex.{Complex}
use Rattle.complex.specs.Constants.{plus0}
use Rattle.complex.specs.Leaves.{pair, product, sum, difference, passing}
use Rattle.ward_equivalent.specs.Ward.{Study, externals, external_at, admittance, solved_column, equivalent}
use Rattle.ward_equivalent.specs.Ward.{solved_currents, boundary_current}
use Rattle.ward_equivalent.specs.Steps.{of_row_times, of_equivalent_entry}

-- a 0 x 0 + .. + a (n - 1) x (n - 1), from (0, 0) upward
unfoldable pub sum_answer : ℕ → (ℕ → Complex) → (ℕ → Complex) → Option Complex
unfolding plus0 product sum passing
sum_answer zero a x = Some (record { re = plus0; im = plus0 })
sum_answer (suc n) a x = passing (sum_answer n a x) (λ (s : Complex). passing (product (a n) (x n)) (λ (p : Complex). sum s p))

-- row i of Y_re times a vector
unfoldable pub row_answer : Study → ℕ → (ℕ → Complex) → Option Complex
unfolding sum_answer admittance
row_answer S i x = sum_answer (externals S) (λ (k : ℕ). admittance S i (external_at S k)) x

-- each is answered exactly where every number in its list is finite
pub record StudyPassedOn : Type 0 where
  pub entries : (S : Study) → T (not (eqb (externals S) 0)) → (i j : ℕ)
      → passing (row_answer S i (solved_column S j)) (λ (s : Complex). difference (admittance S i j) s)
      ≡ pair (of_equivalent_entry S i j) (equivalent S i j)
  pub boundary-currents : (S : Study) (i : ℕ)
      → row_answer S i (solved_currents S) ≡ pair (of_row_times S i (solved_currents S)) (boundary_current S i)
