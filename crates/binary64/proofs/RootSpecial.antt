-- The special operands: what the code's tests tell of a number, and that the root of a special one is as it is asked for.
use Rattle.prelude.proofs.Prelude.{◌≡◌, refl, sym, true, false, ℕ, zero, suc, ◌+◌, ◌*◌, arith, T, Float, nan, true≢false, mul-pos, zero-lt-suc, ltb-true, ltb-false, ℤ, lt→ltb, inf, fin, up, down, lt}
use Rattle.std.specs.Prelude.{Some, None}
use lib.IntN.{pos}
use lib.Ieee.Fits.{up_pos}
use lib.Ieee.Positive.{positive}
use Rattle.binary64.specs.Root.{NearestRoot, Root, special}

-- ---- what the tests tell

pub below-zero : (x : Float) → lt x (fin false 0 (pos 0)) ≡ true → Some nan ≡ special x
unfolding lt
below-zero nan t = refl
below-zero (inf true) t = refl
below-zero (inf false) t = absurd (true≢false (sym t))
below-zero (fin true zero e) t = absurd (let h = ltb-true 0 (0 * up e * 1 + 0 * 1 * down e) t in omega arith)
below-zero (fin false zero e) t = absurd (let h = ltb-true (0 * up e * 1) (0 * 1 * down e) t in omega arith)
below-zero (fin true (suc m) e) t = refl
below-zero (fin false (suc m) e) t = absurd (let h = ltb-true (suc m * up e * 1) (0 * 1 * down e) t in omega arith)

pub above_zero : (x : Float) → lt (fin false 0 (pos 0)) x ≡ true → lt x (inf false) ≡ true → None ≡ special x
unfolding lt
above_zero nan a b = absurd (true≢false (sym a))
above_zero (inf true) a b = absurd (true≢false (sym a))
above_zero (inf false) a b = absurd (true≢false (sym b))
above_zero (fin true m e) a b = absurd (true≢false (sym a))
above_zero (fin false zero e) a b = absurd (let h = ltb-true (0 * 1 * down e) (0 * up e * 1) a in omega arith)
above_zero (fin false (suc m) e) a b = refl

pub not_finite : (x : Float) → lt x (fin false 0 (pos 0)) ≡ false → lt x (inf false) ≡ false → Some x ≡ special x
unfolding lt
not_finite nan a b = refl
not_finite (inf true) a b = absurd (true≢false a)
not_finite (inf false) a b = refl
not_finite (fin s m e) a b = absurd (true≢false b)

pub neither : (x : Float) → lt x (fin false 0 (pos 0)) ≡ false → lt (fin false 0 (pos 0)) x ≡ false → Some x ≡ special x
unfolding lt
neither nan a b = refl
neither (inf true) a b = absurd (true≢false a)
neither (inf false) a b = refl
neither (fin s zero e) a b = refl
neither (fin true (suc m) e) a b = absurd (let h = ltb-false 0 (suc m * up e * 1 + 0 * 1 * down e) a in omega (arith, mul-pos (zero-lt-suc m) (up_pos e)))
neither (fin false (suc m) e) a b = absurd (let h = ltb-false (0 * 1 * down e) (suc m * up e * 1) b in omega (arith, mul-pos (zero-lt-suc m) (up_pos e)))

-- ---- an ordinary operand

-- what holds of every finite number above zero holds of an ordinary operand
only-ordinary : (P : Float → Type 0) → ((m : ℕ) (d : ℤ) → P (fin false (suc m) d)) → (x : Float) → special x ≡ None → P x
only-ordinary P f nan e = cc
only-ordinary P f (inf true) e = cc
only-ordinary P f (inf false) e = cc
only-ordinary P f (fin s zero d) e = cc
only-ordinary P f (fin true (suc m) d) e = cc
only-ordinary P f (fin false (suc m) d) e = f m d

pub ordinary : (x : Float) → special x ≡ None → T (positive x)
ordinary = only-ordinary (λ x. T (positive x)) (λ m d. lt→ltb 0 (suc m) (zero-lt-suc m))

-- what is asked for of it
pub ordinary-is : (x r : Float) → special x ≡ None → NearestRoot x r → Root x r
ordinary-is x r = only-ordinary (λ y. NearestRoot y r → Root y r) (λ m d v. v) x

-- ---- a special operand's root is as it is asked for

pub special-is : (x r : Float) → special x ≡ Some r → Root x r
special-is x r e = go x e
  where
    go : (x : Float) → special x ≡ Some r → Root x r
    go nan e = cc
    go (inf true) e = cc
    go (inf false) e = cc
    go (fin s zero d) e = cc
    go (fin true (suc m) d) e = cc
    go (fin false (suc m) d) e = cc
