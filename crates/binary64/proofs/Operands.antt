-- What a finite result says of its operands: both of a sum, a difference or a product are finite, and the dividend of a quotient.
use mathlib.Core.Bool.{Bool, true, false, cond, beq}
use lib.Dec.{T, eqb}
use lib.Ieee.{Float, nan, inf, fin, Format, unlike, neg, add, sub, mul, div}
use lib.Ieee.Scale.{finite}

either-nan : (b : Bool) (s : Bool) → T (finite (cond b (inf s) nan)) → ⊥
either-nan true s h = h
either-nan false s h = h

nan-either : (b : Bool) (s : Bool) → T (finite (cond b nan (inf s))) → ⊥
nan-either true s h = h
nan-either false s h = h

pub add-operands : (f : Format) (x y : Float) → T (finite (add f x y)) → T (finite x) × T (finite y)
unfolding add
add-operands f nan y h = absurd h
add-operands f (inf s) nan h = absurd h
add-operands f (inf s) (inf t) h = absurd (either-nan (beq s t) s h)
add-operands f (inf s) (fin t n d) h = absurd h
add-operands f (fin s m e) nan h = absurd h
add-operands f (fin s m e) (inf t) h = absurd h
add-operands f (fin s m e) (fin t n d) h = (tt, tt)

neg-operand : (x : Float) → T (finite (neg x)) → T (finite x)
unfolding neg
neg-operand nan h = h
neg-operand (inf s) h = h
neg-operand (fin s m e) h = tt

pub sub-operands : (f : Format) (x y : Float) → T (finite (sub f x y)) → T (finite x) × T (finite y)
unfolding sub
sub-operands f x y h = let (a, b) = add-operands f x (neg y) h in (a, neg-operand y b)

pub mul-operands : (f : Format) (x y : Float) → T (finite (mul f x y)) → T (finite x) × T (finite y)
unfolding mul
mul-operands f nan y h = absurd h
mul-operands f (inf s) nan h = absurd h
mul-operands f (inf s) (inf t) h = absurd h
mul-operands f (inf s) (fin t n d) h = absurd (nan-either (eqb n 0) (unlike s t) h)
mul-operands f (fin s m e) nan h = absurd h
mul-operands f (fin s m e) (inf t) h = absurd (nan-either (eqb m 0) (unlike s t) h)
mul-operands f (fin s m e) (fin t n d) h = (tt, tt)

-- the divisor may be an infinity
pub dividend : (f : Format) (x y : Float) → T (finite (div f x y)) → T (finite x)
unfolding div
dividend f nan y h = absurd h
dividend f (inf s) nan h = absurd h
dividend f (inf s) (inf t) h = absurd h
dividend f (inf s) (fin t n d) h = absurd h
dividend f (fin s m e) y h = tt
