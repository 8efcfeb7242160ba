-- Gauss-Jordan on complex numbers: the solution of a system, and the inverse of a matrix.
use Rattle.std.specs.Prelude.{ℕ, Bool, ◌&&◌, cond, eqb}
use Rattle.std.specs.Float.Ieee.{lt}
use Rattle.complex.specs.declared.Complex.{Complex}
use Rattle.complex.specs.Constants.{division_limit, plus0}
use Rattle.complex.specs.Arithmetic.{cmul, csub, complex_inv, sqmag, too_small, unit}
use Rattle.complex.specs.Magnitude.{abs}
use Rattle.complex.specs.Matrices.{Matrix}
use Rattle.solver.specs.GaussJordan.{Operations, solution, singular_system}

-- The skip test: a row whose factor has both parts below 1e-300 in absolute value is not touched. A NaN part is not below.
unfoldable pub skipped : Complex → Bool
unfolding division_limit abs
skipped f = lt (abs f.re) division_limit && lt (abs f.im) division_limit

abbrev pub operations : Operations Complex
operations = record { times = cmul; minus = csub; inverse = complex_inv; weight = sqmag; small = too_small; skips = skipped }

-- 13 for a system of this size
abbrev pub is_singular : ℕ → Matrix → Bool
is_singular n A = singular_system operations n A

-- the solution x of A x = b, by row
abbrev pub solve : ℕ → Matrix → (ℕ → Complex) → ℕ → Complex
solve n A b i = solution operations n A b i

-- column k of the identity
unfoldable pub unit_column : ℕ → ℕ → Complex
unfolding plus0
unit_column k i = cond (eqb i k) unit (record { re = plus0; im = plus0 })

-- column k of the inverse solves A x = the identity's column k
abbrev pub inverse : ℕ → Matrix → Matrix
inverse n A i k = solve n A (unit_column k) i
