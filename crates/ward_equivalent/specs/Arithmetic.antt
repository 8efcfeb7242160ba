-- The arithmetic of a Ward study: a sum of complex terms, the current of an injection, and what a boundary bus gets for a current.
use Rattle.std.specs.Prelude.{ℕ, zero, suc, Float}
use Rattle.std.specs.Float.Ieee.{neg}
use Rattle.complex.specs.declared.Complex.{Complex}
use Rattle.complex.specs.Constants.{plus0}
use Rattle.complex.specs.Arithmetic.{◌⊗◌, ◌⊘◌, cadd}

-- f 0 + f 1 + .. + f (n - 1), from (0, 0) upward
unfoldable pub sum_up : ℕ → (ℕ → Complex) → Complex
unfolding plus0
sum_up zero f = record { re = plus0; im = plus0 }
sum_up (suc n) f = cadd (sum_up n f) (f n)

-- the current of P and Q at an external bus at unit voltage, per unit: that of P + jQ is P - jQ
unfoldable pub current : Float → Float → Float → Complex
current base p q = record { re = p ⊘ base; im = neg q ⊘ base }

-- what a boundary bus gets, in MW and in MVAr, for the current i that the external part draws through it: the power of -i, which at unit
-- voltage is its conjugate, (-re, +im)
unfoldable pub injected_p : Float → Complex → Float
injected_p base i = neg i.re ⊗ base

unfoldable pub injected_q : Float → Complex → Float
injected_q base i = i.im ⊗ base
