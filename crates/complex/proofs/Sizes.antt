-- How large the numbers of an operation are, by powers of two: `In k x` says that x is finite and at most 2 ^ k in size.
--     mul_in, add-in, sub_in, div-in, cmul-in, cadd-in, csub-in, cdiv-in   by the operands' sizes
--     ordinary-in, ordinary-beyond   what the machine's tests show
use Rattle.prelude.proofs.Prelude.{◌≡◌, refl, sym, ap, subst, ◌∙◌, true, false, ◌&&◌, List, [], ◌∷◌, ℕ, zero, suc, ◌+◌, ◌*◌, ◌^◌, ◌≤◌, ◌<◌, arith, T, lit<, ltb, ltb→lt, ltb-false, le_of_eq, down_pos, length, get_or, Float, nan, inf, fin, binary64, up, down, lt, neg, of_bits, and_l, and_r, finite, le_trans, mul-le-mul_right, mul_comm}
use native.Mathlib.Nat.{le_of_lt, mul-one, one-mul, two-mul}
use lib.Pow.{pow-add, pow_mono, pow-lt}
use lib.IntN.{ℤ, pos, negsuc}
use Rattle.binary64.specs.Values.{all_finite}
use Rattle.binary64.proofs.Magnitudes.{Within, Held, Beyond, within-finite, mul-within, add-within, sub_within, div-within}
use Rattle.complex.specs.declared.Complex.{Complex}
use Rattle.complex.specs.Arithmetic.{◌⊕◌, ◌⊖◌, ◌⊗◌, ◌⊘◌, too_small, cadd, csub, cmul, cdiv, sqmag}
use Rattle.complex.specs.Inner.Ordinary.{ordinary, all_ordinary, ordinary_limit, ordinary_square}
use Rattle.complex.proofs.Finite.{none, all_more}

abbrev pub In : ℕ → Float → Type 0
In k x = Within (2 ^ k) x

abbrev pub Both : ℕ → Complex → Type 0
Both k c = In k c.re × In k c.im

pub in-finite : (k : ℕ) (x : Float) → In k x → T (finite x)
in-finite k x h = within-finite (2 ^ k) x h

-- ---- machine operations

power : (k : ℕ) → k ≤ 1023 → Held binary64 1 k
power k h = let l : k < 1024 = omega arith in record { few = lit< tt; below = subst (λ (x : ℕ). x < 2 ^ 1024) (sym (one-mul (2 ^ k))) (pow-lt {i = k} {j = 1024} l) }

as-in : (k : ℕ) (x : Float) → Within (1 * 2 ^ k) x → In k x
as-in k x h = subst (λ (B : ℕ). Within B x) (one-mul (2 ^ k)) h

pub wider : (A B : ℕ) (x : Float) → A ≤ B → Within A x → Within B x
wider A B nan l h = h
wider A B (inf s) l h = h
wider A B (fin s m e) l h = le_trans h (mul-le-mul_right (down e) l)

pub larger-in : (j k : ℕ) (x : Float) → j ≤ k → In j x → In k x
larger-in j k x l h = wider (2 ^ j) (2 ^ k) x (pow_mono {i = j} {j = k} l) h

pub mul_in : (a b k : ℕ) (x y : Float) → a + b ≡ k → k ≤ 1023 → In a x → In b y → In k (x ⊗ y)
mul_in a b k x y e l h g =
    as-in k (x ⊗ y) (mul-within binary64 x y (2 ^ a) (2 ^ b) 1 k (sym (pow-add 2 a b) ∙ ap (λ (z : ℕ). 2 ^ z) e ∙ sym (one-mul (2 ^ k))) (power k l) h g)

double : (a k : ℕ) → a + 1 ≡ k → 2 ^ a + 2 ^ a ≡ 1 * 2 ^ k
double a k e = sym (two-mul (2 ^ a)) ∙ mul_comm 2 (2 ^ a) ∙ sym (pow-add 2 a 1) ∙ ap (λ (z : ℕ). 2 ^ z) e ∙ sym (one-mul (2 ^ k))

pub add-in : (a k : ℕ) (x y : Float) → a + 1 ≡ k → k ≤ 1023 → In a x → In a y → In k (x ⊕ y)
add-in a k x y e l h g = as-in k (x ⊕ y) (add-within binary64 x y (2 ^ a) (2 ^ a) 1 k (double a k e) (power k l) h g)

pub sub_in : (a k : ℕ) (x y : Float) → a + 1 ≡ k → k ≤ 1023 → In a x → In a y → In k (x ⊖ y)
sub_in a k x y e l h g = as-in k (x ⊖ y) (sub_within binary64 x y (2 ^ a) (2 ^ a) 1 k (double a k e) (power k l) h g)

pub div-in : (a d k : ℕ) (x y : Float) → a + d ≡ k → k ≤ 1023 → In a x → Beyond (2 ^ d) y → In k (x ⊘ y)
div-in a d k x y e l h g =
    as-in k (x ⊘ y) (div-within binary64 x y (2 ^ a) (2 ^ d) 1 k (sym (pow-add 2 a d) ∙ ap (λ (z : ℕ). 2 ^ z) e ∙ sym (one-mul (2 ^ k))) (power k l) h g)

-- ---- complex operations

pub cadd-in : (a k : ℕ) (x y : Complex) → a + 1 ≡ k → k ≤ 1023 → Both a x → Both a y → Both k (cadd x y)
unfolding cadd
cadd-in a k x y e l (p, q) (u, v) = (add-in a k x.re y.re e l p u, add-in a k x.im y.im e l q v)

pub csub-in : (a k : ℕ) (x y : Complex) → a + 1 ≡ k → k ≤ 1023 → Both a x → Both a y → Both k (csub x y)
unfolding csub
csub-in a k x y e l (p, q) (u, v) = (sub_in a k x.re y.re e l p u, sub_in a k x.im y.im e l q v)

pub cmul-in : (a b k : ℕ) (x y : Complex) → a + b + 1 ≡ k → k ≤ 1023 → Both a x → Both b y → Both k (cmul x y)
unfolding cmul
cmul-in a b k x y e l (p, q) (u, v) = (
  sub_in (a + b) k (x.re ⊗ y.re) (x.im ⊗ y.im) e l (mul_in a b (a + b) x.re y.re refl (omega arith) p u) (mul_in a b (a + b) x.im y.im refl (omega arith) q v),
  add-in (a + b) k (x.re ⊗ y.im) (x.im ⊗ y.re) e l (mul_in a b (a + b) x.re y.im refl (omega arith) p v) (mul_in a b (a + b) x.im y.re refl (omega arith) q u),
)

pub cdiv-in : (a b d k : ℕ) (x y : Complex) → a + b + 1 + d ≡ k → k ≤ 1023 → Both a x → Both b y → too_small y ≡ false → Beyond (2 ^ d) (sqmag y) → Both k (cdiv x y)
unfolding cdiv
cdiv-in a b d k x y e l (p, q) (u, v) big far =
    rw big (
      div-in (a + b + 1) d k (x.re ⊗ y.re ⊕ x.im ⊗ y.im) (sqmag y) e l
          (add-in (a + b) (a + b + 1) (x.re ⊗ y.re) (x.im ⊗ y.im) refl (omega arith) (mul_in a b (a + b) x.re y.re refl (omega arith) p u) (mul_in a b (a + b) x.im y.im refl (omega arith) q v)) far,
      div-in (a + b + 1) d k (x.im ⊗ y.re ⊖ x.re ⊗ y.im) (sqmag y) e l
          (sub_in (a + b) (a + b + 1) (x.im ⊗ y.re) (x.re ⊗ y.im) refl (omega arith) (mul_in a b (a + b) x.im y.re refl (omega arith) q u) (mul_in a b (a + b) x.re y.im refl (omega arith) p v)) far,
    )

pub square-in : (a k : ℕ) (x : Complex) → a + a + 1 ≡ k → k ≤ 1023 → Both a x → In k (sqmag x)
unfolding sqmag
square-in a k x e l (p, q) =
    add-in (a + a) k (x.re ⊗ x.re) (x.im ⊗ x.im) e l (mul_in a a (a + a) x.re x.re refl (omega arith) p p) (mul_in a a (a + a) x.im x.im refl (omega arith) q q)

-- ---- the machine's tests

-- between -2 ^ k and 2 ^ k
within-power : (k m : ℕ) (e : ℤ) → T (ltb (m * up e * 1) (1 * 2 ^ k * down e)) → m * up e ≤ 2 ^ k * down e
within-power k m e h =
    subst (λ (z : ℕ). m * up e ≤ z) (ap (λ (z : ℕ). z * down e) (one-mul (2 ^ k)))
    (subst (λ (z : ℕ). z ≤ 1 * 2 ^ k * down e) (mul-one (m * up e)) (le_of_lt (ltb→lt (m * up e * 1) (1 * 2 ^ k * down e) h)))

between_in : (k : ℕ) (x : Float) → T (lt x (fin false 1 (pos k)) && lt (fin true 1 (pos k)) x) → In k x
unfolding lt
between_in k nan h = h
between_in k (inf true) h = h
between_in k (inf false) h = h
between_in k (fin false m e) h = within-power k m e (and_l (ltb (m * up e * 1) (1 * 2 ^ k * down e)) _ h)
between_in k (fin true m e) h = within-power k m e (and_r (ltb 0 (m * up e * 1 + 1 * 2 ^ k * down e)) (ltb (m * up e * 1) (1 * 2 ^ k * down e)) h)

pub ordinary-in : (x : Float) → T (ordinary x) → In 200 x
unfolding ordinary ordinary_limit of_bits neg
ordinary-in x h = between_in 200 x h

pub ordinary-at : (xs : List Float) (i : ℕ) → i < length xs → T (all_ordinary xs) → In 200 (get_or xs i nan)
unfolding all_ordinary
ordinary-at [] i l h = absurd (omega arith)
ordinary-at (x ∷ xs) zero l h = ordinary-in x (and_l (ordinary x) (all_ordinary xs) h)
ordinary-at (x ∷ xs) (suc i) l h = ordinary-at xs i (omega arith) (and_r (ordinary x) (all_ordinary xs) h)

pub ordinary-finite : (xs : List Float) → T (all_ordinary xs) → T (all_finite xs)
unfolding all_ordinary
ordinary-finite [] h = none
ordinary-finite (x ∷ xs) h =
    all_more x xs (in-finite 200 x (ordinary-in x (and_l (ordinary x) (all_ordinary xs) h))) (ordinary-finite xs (and_r (ordinary x) (all_ordinary xs) h))

-- finite, and not below 2 ^ -d
not-below : (d : ℕ) (x : Float) → T (finite x) → lt x (fin false 1 (negsuc d)) ≡ false → Beyond (2 ^ suc d) x
unfolding lt
not-below d nan f h = f
not-below d (inf s) f h = f
not-below d (fin false m e) f h =
    let k : 1 * 1 * down e ≤ m * up e * 2 ^ suc d = ltb-false (m * up e * 2 ^ suc d) (1 * 1 * down e) h in
    le_trans (le_of_eq (sym (one-mul (down e)))) (le_trans k (le_of_eq (mul_comm (m * up e) (2 ^ suc d))))
not-below d (fin true m e) f h = nothing-below (m * up e * 2 ^ suc d) (down e) (down_pos e) (ltb-false 0 (m * up e * 2 ^ suc d + 1 * 1 * down e) h)
  where
    nothing-below : (x y : ℕ) → 0 < y → x + 1 * 1 * y ≤ 0 → Beyond (2 ^ suc d) (fin true m e)
    nothing-below x y p k = absurd (omega arith)

pub ordinary-beyond : (x : Float) → T (finite x) → lt x ordinary_square ≡ false → Beyond (2 ^ 400) x
unfolding ordinary_square of_bits
ordinary-beyond x f h = not-below 399 x f h
