-- Laws of the sign cleared, the root and the magnitude.
use Rattle.prelude.proofs.Prelude.{◌≡◌, refl, sym, Bool, true, false, ℕ, zero, suc, ◌*◌, T, Float, nan, true≢false, mul-pos, zero-mul, zero-lt-suc, not-le_of_lt, ltb-false, ℤ, inf, fin, binary64, fits, up, down, lt, sum, round, units, odd, neg, add, sub, mul, finite}
use lib.IntN.{pos}
use lib.Ieee.Fits.{up_pos, neg-fits, mul-fits}
use Rattle.complex.specs.Magnitude.{abs, magnitude}
use Rattle.complex.specs.declared.Complex.{Complex}
use Rattle.complex.specs.Arithmetic.{sqmag}
use Rattle.binary64.specs.Root.{root}
use Rattle.binary64.proofs.Floats.{Zero, same, zeros, zero_of, zero-way, add_left, mul-zero-left}

-- ---- the sign cleared

pub abs-above : (x : Float) → lt (fin false 0 (pos 0)) x ≡ true → x ≡ abs x
unfolding abs lt
abs-above nan t = refl
abs-above (inf true) t = absurd (true≢false (sym t))
abs-above (inf false) t = refl
abs-above (fin true m e) t = absurd (true≢false (sym t))
abs-above (fin false m e) t = refl

-- where x is not above zero it is +0 - x
from_zero : (s : Bool) (m : ℕ) (e : ℤ) → T (fits binary64 (fin s (suc m) e)) → add binary64 (fin false 0 (pos 0)) (fin s (suc m) e) ≡ fin s (suc m) e
from_zero s m e h = elim (add_left binary64 (fin false 0 (pos 0)) (fin s (suc m) e) tt h) [ same p ↦ p | zeros a b ↦ absurd b ]

from-zero-zero : (s : Bool) (x : Float) → x ≡ fin s zero (pos 0) → sub binary64 (fin false 0 (pos 0)) x ≡ abs x
unfolding abs sub neg add sum round units odd
from-zero-zero true x p = rw p
from-zero-zero false x p = rw p

pub abs-else : (x : Float) → T (fits binary64 x) → lt (fin false 0 (pos 0)) x ≡ false → sub binary64 (fin false 0 (pos 0)) x ≡ abs x
unfolding abs lt sub neg
abs-else nan h t = refl
abs-else (inf true) h t = refl
abs-else (inf false) h t = absurd (true≢false t)
abs-else (fin true zero e) h t = from-zero-zero true (fin true zero e) (zero-way binary64 true e h)
abs-else (fin false zero e) h t = from-zero-zero false (fin false zero e) (zero-way binary64 false e h)
abs-else (fin true (suc m) e) h t = from_zero false m e (neg-fits binary64 (fin true (suc m) e) h)
abs-else (fin false (suc m) e) h t =
    absurd (not-le_of_lt (mul-pos (mul-pos (zero-lt-suc m) (up_pos e)) (zero-lt-suc 0)) (simp zero-mul at (ltb-false (0 * 1 * down e) (suc m * up e * 1) t)))

-- ---- the root and the magnitude

pub root-zero : (x : Float) → Zero x → Zero (root x)
unfolding root
root-zero nan z = absurd z
root-zero (inf s) z = absurd z
root-zero (fin s zero e) z = tt
root-zero (fin s (suc m) e) z = absurd z

-- zero where both parts are
zero-finite : (x : Float) → Zero x → T (finite x)
zero-finite nan z = z
zero-finite (inf s) z = z
zero-finite (fin s zero e) z = tt
zero-finite (fin s (suc m) e) z = absurd z

pub magnitude-zero : (c : Complex) → Zero c.re → Zero c.im → Zero (magnitude c)
unfolding magnitude sqmag
magnitude-zero c a b =
    let p = mul binary64 c.re c.re in
    let q = mul binary64 c.im c.im in
    root-zero (sqmag c)
    (zero_of (add_left binary64 p q (mul-zero-left binary64 c.re c.re a (zero-finite c.re a)) (mul-fits binary64 c.im c.im))
    (mul-zero-left binary64 c.im c.im b (zero-finite c.im b)))
