-- The complex number at an index of a list of f64, real then imaginary. Indices count complex numbers.
use Rattle.std.specs.Prelude.{ℕ, ◌+◌, ◌*◌, List, get_or, set, Float}
use Rattle.std.specs.Float.{nan}
use Rattle.complex.specs.declared.Complex.{Complex}

-- nan stands where there is nothing, so that no claim of equal values can hold of it
unfoldable pub entry : List Float → ℕ → Complex
entry ys i = record { re = get_or ys (2 * i) nan; im = get_or ys (2 * i + 1) nan }

unfoldable pub put : List Float → ℕ → Complex → List Float
put ys i c = set (set ys (2 * i) c.re) (2 * i + 1) c.im
