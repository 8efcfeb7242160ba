-- Zero, finite, and what a slice of f64 can hold.
use Rattle.std.specs.Prelude.{ℕ, Bool, true, false, ◌&&◌, List, [], ◌∷◌, T, get_or, pos, Float}
use Rattle.std.specs.Float.{nan, fin, binary64}
use Rattle.std.specs.Float.Ieee.{fits, eq}
use Rattle.std.specs.Float.Ieee.Scale.{finite}

abbrev pub is_zero : Float → Bool
is_zero x = eq x (fin false 0 (pos 0))

unfoldable pub all_finite : List Float → Bool
all_finite [] = true
all_finite (x ∷ xs) = finite x && all_finite xs

-- what a slice of f64 can hold: every number is one of binary64 in lib.Ieee's one way of writing it, NaN and infinities too
abbrev pub F64s : List Float → Type 0
F64s ys = (i : ℕ) → T (fits binary64 (get_or ys i nan))
