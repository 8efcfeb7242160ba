-- What the whole root is found by in the code (src/digits.rt), as facts on whole numbers. The promise of the step, `Rooted`, does not speak
-- of it.
use Rattle.std.specs.Prelude.{ℕ, ◌+◌, ◌*◌, ◌^◌, ◌≤◌, ◌<◌, ◌≡◌}
use Rattle.binary64.specs.Root.{square}

-- n as m * 2 ^ k
pub record Digits (n m k : ℕ) : Type 0 where
  pub value : n ≡ m * 2 ^ k
  pub some : 0 < m
  pub few : m < 2 ^ 53
  pub moved : k ≤ 2045

-- n as m * 2 ^ 52 * 4 ^ (h - 53), exactly; the whole root of m * 2 ^ 52 has 53 binary digits
pub record Scaled (n m h : ℕ) : Type 0 where
  pub exact : n * 4 ^ 53 ≡ m * 2 ^ 52 * 4 ^ h
  pub enough : 2 ^ 52 ≤ m
  pub few : m < 2 ^ 54
  pub below : h ≤ 1049

-- q is the whole root of n, and r the remainder: the square of q is at most n, that of q + 1 is more
pub record WholeRoot (n q r : ℕ) : Type 0 where
  pub whole : square q + r ≡ n
  pub small : r ≤ 2 * q
