-- Complex arithmetic in binary64. ⊕ ⊖ ⊗ ⊘ are the machine's + - * /, each rounded once.
use Rattle.std.specs.Prelude.{Bool, false, cond, Float}
use Rattle.std.specs.Float.{inf, binary64}
use Rattle.std.specs.Float.Ieee.{add, sub, mul, div, neg, lt}
use Rattle.complex.specs.declared.Complex.{Complex}
use Rattle.complex.specs.Constants.{plus0, one, division_limit}

infixl 60 ◌⊕◌
infixl 60 ◌⊖◌
infixl 70 ◌⊗◌
infixl 70 ◌⊘◌
abbrev pub ◌⊕◌ : Float → Float → Float
x ⊕ y = add binary64 x y

abbrev pub ◌⊖◌ : Float → Float → Float
x ⊖ y = sub binary64 x y

abbrev pub ◌⊗◌ : Float → Float → Float
x ⊗ y = mul binary64 x y

abbrev pub ◌⊘◌ : Float → Float → Float
x ⊘ y = div binary64 x y

-- the complex number of these two parts
abbrev pub complex_of : Float → Float → Complex
complex_of x y = record { re = x; im = y }

unfoldable pub cadd : Complex → Complex → Complex
cadd a b = record { re = a.re ⊕ b.re; im = a.im ⊕ b.im }

unfoldable pub csub : Complex → Complex → Complex
csub a b = record { re = a.re ⊖ b.re; im = a.im ⊖ b.im }

-- the sign of each part turned, of a zero too
unfoldable pub cneg : Complex → Complex
cneg a = record { re = neg a.re; im = neg a.im }

unfoldable pub cmul : Complex → Complex → Complex
cmul a b = record { re = a.re ⊗ b.re ⊖ a.im ⊗ b.im; im = a.re ⊗ b.im ⊕ a.im ⊗ b.re }

-- the squared magnitude
unfoldable pub sqmag : Complex → Float
sqmag b = b.re ⊗ b.re ⊕ b.im ⊗ b.im

-- too small to divide by: the squared magnitude is below 1e-300. A NaN is not.
abbrev pub too_small : Complex → Bool
too_small b = lt (sqmag b) division_limit

-- a divisor that is too small gives (inf, inf)
unfoldable pub cdiv : Complex → Complex → Complex
unfolding sqmag division_limit
cdiv a b =
    cond (too_small b)
    (record { re = inf false; im = inf false })
    (record { re = (a.re ⊗ b.re ⊕ a.im ⊗ b.im) ⊘ sqmag b; im = (a.im ⊗ b.re ⊖ a.re ⊗ b.im) ⊘ sqmag b })

abbrev pub unit : Complex
unfolding one plus0
unit = record { re = one; im = plus0 }

unfoldable pub complex_inv : Complex → Complex
complex_inv b = cdiv unit b
