-- Complex numbers equal as values, and zero.
use Rattle.std.specs.Prelude.{not, ◌&&◌, T}
use Rattle.std.specs.Float.Ieee.{eq}
use Rattle.binary64.specs.Values.{is_zero}
use Rattle.complex.specs.declared.Complex.{Complex}

-- the machine's ==, part by part: +0 equals -0
infix 40 ◌≈◌
abbrev pub ◌≈◌ : Complex → Complex → Type 0
a ≈ b = T (eq a.re b.re) × T (eq a.im b.im)

abbrev pub Zero : Complex → Type 0
Zero c = T (is_zero c.re && is_zero c.im)

-- an entry is non-zero if either part is
abbrev pub NonZero : Complex → Type 0
NonZero c = T (not (is_zero c.re && is_zero c.im))
