-- What the pivot rule comes to: of the rows with the largest weight, the upper one.
use Rattle.std.specs.Prelude.{ℕ, ◌≤◌, ◌<◌, ◌≡◌, ◌⊎◌, not, T, Float}
use Rattle.std.specs.Float.{nan}
use Rattle.std.specs.Float.Ieee.{lt}
use Rattle.complex.specs.Arithmetic.{sqmag}
use Rattle.complex.specs.Matrices.{Matrix}
use Rattle.solver.specs.GaussJordan.{pivot_row}
use Rattle.solver.specs.Solving.{operations}

-- Row p is the upper one of those with the largest weight among the rows from c to below n: none weighs more, and each above it weighs less
-- or is a NaN.
pub record Uppermost (weight : ℕ → Float) (c n p : ℕ) : Type 0 where
  pub among : (c ≤ p) × (p < n)
  pub number : weight p ≡ nan → ⊥
  pub none_more : (r : ℕ) → c ≤ r → r < n → T (not (lt (weight p) (weight r)))
  pub above-less : (r : ℕ) → c ≤ r → r < p → T (lt (weight r) (weight p)) ⊎ (weight r ≡ nan)

-- Row p is taken in column c: row c itself where its weight is a NaN, else the upper one of the largest.
pub record ChosenRow (weight : ℕ → Float) (c n p : ℕ) : Type 0 where
  pub nan-held : weight c ≡ nan → p ≡ c
  pub uppermost : (weight c ≡ nan → ⊥) → Uppermost weight c n p

-- the weights are squared magnitudes
abbrev pub UpperRow : Type 0
UpperRow = (n c : ℕ) (A : Matrix) → c < n → ChosenRow (λ (r : ℕ). sqmag (A r c)) c n (pivot_row operations n A c)
