-- A turned sign passes through a product and a quotient, to the bit.
--     neg-mul, mul-neg, neg-div  (-x) y and x (-y) are -(x y), and (-x) / y is -(x / y)
--     neg-neg                    a sign turned twice is as it was
use Rattle.prelude.proofs.Prelude.{◌≡◌, refl, ap, ◌∙◌, Bool, true, false, not, cond, ℕ, zero, suc, ◌+◌, ◌*◌, eqb, ltb, Float, nan, ◌^◌, inf, fin, Format, up, down, odd, units, round, neg, mul, div}
use lib.Ieee.{low, prec, emax, unlike}

pub neg-neg : (x : Float) → neg (neg x) ≡ x
unfolding neg
neg-neg nan = refl
neg-neg (inf true) = refl
neg-neg (inf false) = refl
neg-neg (fin true m e) = refl
neg-neg (fin false m e) = refl

unlike-not : (s t : Bool) → unlike (not s) t ≡ not (unlike s t)
unlike-not true true = refl
unlike-not true false = refl
unlike-not false true = refl
unlike-not false false = refl

unlike-not-right : (s t : Bool) → unlike s (not t) ≡ not (unlike s t)
unlike-not-right true true = refl
unlike-not-right true false = refl
unlike-not-right false true = refl
unlike-not-right false false = refl

-- of either branch
neg-cond : (b : Bool) (x y : Float) → cond b (neg x) (neg y) ≡ neg (cond b x y)
neg-cond true x y = refl
neg-cond false x y = refl

-- ---- a number rounded with the other sign

odd-neg : (d : ℕ) (s : Bool) (q k l : ℕ) → odd d (not s) q k l ≡ neg (odd d s q k l)
unfolding odd neg
odd-neg d s zero k l = refl
odd-neg d s (suc q) k l = refl

units-neg : (f : Format) (s : Bool) (q k : ℕ) → units f (not s) q k ≡ neg (units f s q k)
unfolding units neg
units-neg f s q k =
    let b = ltb (q * 2 ^ k) (2 ^ (low f + suc (emax f))) in
    ap (λ (x : Float). cond b x (inf (not s))) (odd-neg (suc (prec f)) s q k (low f)) ∙ neg-cond b (odd (suc (prec f)) s q k (low f)) (inf s)

round-neg : (f : Format) (s : Bool) (a c : ℕ) → round f (not s) a c ≡ neg (round f s a c)
unfolding round
round-neg f s a c = units-neg f s _ _

-- the sign of a product is turned with its left operand's
turned : (f : Format) (s t : Bool) (a c : ℕ) → round f (unlike (not s) t) a c ≡ neg (round f (unlike s t) a c)
turned f s t a c = rw (unlike-not s t) (round-neg f (unlike s t) a c)

-- ---- products and quotients

pub neg-mul : (f : Format) (x y : Float) → mul f (neg x) y ≡ neg (mul f x y)
unfolding mul neg
neg-mul f nan y = refl
neg-mul f (inf s) nan = refl
neg-mul f (inf s) (inf t) = ap inf (unlike-not s t)
neg-mul f (inf s) (fin t n d) = rw (unlike-not s t) (neg-cond (eqb n 0) nan (inf (unlike s t)))
neg-mul f (fin s m e) nan = refl
neg-mul f (fin s m e) (inf t) = rw (unlike-not s t) (neg-cond (eqb m 0) nan (inf (unlike s t)))
neg-mul f (fin s m e) (fin t n d) = turned f s t (m * up e * (n * up d)) (down e * down d)

pub mul-neg : (f : Format) (x y : Float) → mul f x (neg y) ≡ neg (mul f x y)
unfolding mul neg
mul-neg f nan y = refl
mul-neg f (inf s) nan = refl
mul-neg f (inf s) (inf t) = ap inf (unlike-not-right s t)
mul-neg f (inf s) (fin t n d) = rw (unlike-not-right s t) (neg-cond (eqb n 0) nan (inf (unlike s t)))
mul-neg f (fin s m e) nan = refl
mul-neg f (fin s m e) (inf t) = rw (unlike-not-right s t) (neg-cond (eqb m 0) nan (inf (unlike s t)))
mul-neg f (fin s m e) (fin t n d) = rw (unlike-not-right s t) (round-neg f (unlike s t) (m * up e * (n * up d)) (down e * down d))

-- a divisor that is zero, a dividend that is zero, and any others
either : (b c s t : Bool) (x y : Float) → x ≡ neg y
    → cond b (cond c nan (inf (unlike (not s) t))) x ≡ neg (cond b (cond c nan (inf (unlike s t))) y)
unfolding neg
either true true s t x y p = refl
either true false s t x y p = ap inf (unlike-not s t)
either false c s t x y p = p

pub neg-div : (f : Format) (x y : Float) → div f (neg x) y ≡ neg (div f x y)
unfolding div neg
neg-div f nan y = refl
neg-div f (inf s) nan = refl
neg-div f (inf s) (inf t) = refl
neg-div f (inf s) (fin t n d) = ap inf (unlike-not s t)
neg-div f (fin s m e) nan = refl
neg-div f (fin s m e) (inf t) = rw (unlike-not s t) refl
neg-div f (fin s m e) (fin t n d) =
    either (eqb n 0) (eqb m 0) s t _ _ (turned f s t (m * up e * down d) (n * up d * down e))
