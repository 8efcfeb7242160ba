-- How large a rounded result can be. `Within B x`: x is finite, and at most B in size. B is a whole number that the format holds, q * 2 ^ j.
--     round-within   a fraction at most B rounds to a number within B, and so is finite
--     mul-within, add-within, sub_within, div-within   by the bounds of the operands
use mathlib.Core.Path.{◌≡◌, sym, ap, ◌∙◌, subst}
use mathlib.Core.Bool.{Bool, true, false, ◌&&◌, cond, beq}
use Prim.Native.Nat.compare
use Prim.Native.Nat.{ℕ, zero, suc, ◌+◌, ◌-◌, ◌*◌, ◌/◌, ◌%◌, ◌^◌, ◌≤◌, ◌<◌, compare, Ordering}
use native.Mathlib.Nat.{le_trans, le_of_eq, lt_of_le_of_lt, lt_irrefl, mul_comm, mul_assoc, mul_right_comm, mul-mul-mul_comm, mul-le-mul, mul-le-mul_right, le_of_mul-le-mul_right, mul-pos, add-mul, mul-div_cancel, mul-mod_left, mul-lt-mul_of_pos_right, lt_of_lt_of_le, zero-mul, mul-zero, zero-lt-suc}
use native.Mathlib.Omega.{arith}
use lib.Dec.{T, ltb, eqb-suc-zero}
use lib.Pow.{pow-add, pow_pos, shl_lt}
use lib.Ieee.{Float, nan, inf, fin, Format, prec, emax, low, up, down, unlike, size, nearest, units, round, sum, neg, add, sub, mul, div}
use lib.Ieee.Digits.{size-le, back}
use lib.Ieee.Fits.{round_is, up_pos, down_pos}
use lib.Ieee.Exact.{HasValue, units_val}
use lib.Ieee.Nearest.{closest, closest_mono, div_mono}
use lib.Ieee.Order.{drop, kept}
use lib.Ieee.Scale.{finite}

abbrev pub Within : ℕ → Float → Type 0
Within B nan = ⊥
Within B (inf s) = ⊥
Within B (fin s m e) = m * up e ≤ B * down e

pub within-finite : (B : ℕ) (x : Float) → Within B x → T (finite x)
within-finite B nan h = h
within-finite B (inf s) h = h
within-finite B (fin s m e) h = tt

-- a bound that the format holds: q * 2 ^ j, q of as many digits as it keeps, below its largest power of two
pub record Held (f : Format) (q j : ℕ) : Type 0 where
  pub few : q < 2 ^ prec f
  pub below : q * 2 ^ j < 2 ^ suc (emax f)

-- ---- rounding

above_zero : (u : ℕ) → 0 < u → compare 0 u ≡ Ordering.lt
above_zero zero h = absurd (lt_irrefl 0 h)
above_zero (suc u) h = compare.zero-suc u

closest-whole : (y u : ℕ) → 0 < u → closest (y * u) u ≡ y
closest-whole y u h =
    ap (λ (x : ℕ). nearest x (compare (y * u % u * 2) u)) (mul-div_cancel y h)
    ∙ ap (λ (x : ℕ). nearest y (compare (x * 2) u)) (mul-mod_left y u)
    ∙ ap (λ (o : Ordering). nearest y o) (above_zero u h)

spare : (z p l : ℕ) → z ≤ p + l → z - p ≤ l
spare z p l h = omega arith

-- in units of the smallest value: n / c at most q * 2 ^ i is rounded to at most that
kept-within : (p n c q i : ℕ) → 0 < c → q < 2 ^ p → n ≤ q * 2 ^ i * c → kept p n c * 2 ^ drop p n c ≤ q * 2 ^ i
kept-within p n c q i C few h =
    let whole : n / c ≤ q * 2 ^ i = le_trans (div_mono n c (q * 2 ^ i * c) c C C (mul-le-mul_right c h)) (le_of_eq (mul-div_cancel (q * 2 ^ i) C)) in
    let k = drop p n c in
    let k-le : k ≤ i = spare (size (n / c)) p i (size-le (n / c) (p + i) (lt_of_le_of_lt whole (shl_lt p i few))) in
    let y = q * 2 ^ (i - k) in
    let u = c * 2 ^ k in
    let U : 0 < u = mul-pos C (pow_pos k) in
    let e : y * 2 ^ k ≡ q * 2 ^ i = mul_assoc q (2 ^ (i - k)) (2 ^ k) ∙ ap (λ (x : ℕ). q * x) (sym (pow-add 2 (i - k) k) ∙ ap (λ (x : ℕ). 2 ^ x) (back i k k-le)) in
    let g : q * 2 ^ i * c ≡ y * u = ap (λ (x : ℕ). x * c) (sym e) ∙ mul_assoc y (2 ^ k) c ∙ ap (λ (x : ℕ). y * x) (mul_comm (2 ^ k) c) in
    let top : closest n u ≤ y = le_trans (closest_mono n u (y * u) u U U (mul-le-mul_right u (le_trans h (le_of_eq g)))) (le_of_eq (closest-whole y u U)) in
    le_trans (mul-le-mul_right (2 ^ k) top) (le_of_eq e)

within-value : (B l : ℕ) (x : Float) (s : Bool) (w : ℕ) → 0 < l → w ≤ B * l → HasValue x s w l → Within B x
within-value B l nan s w L h v = v
within-value B l (inf t) s w L h v = v
within-value B l (fin t m e) s w L h v =
    le_of_mul-le-mul_right (le_trans (le_of_eq v.1) (le_trans (mul-le-mul_right (down e) h) (le_of_eq (mul_right_comm B l (down e))))) L

pub round-within : (f : Format) (s : Bool) (a c q j : ℕ) → 0 < c → Held f q j → a ≤ q * 2 ^ j * c → Within (q * 2 ^ j) (round f s a c)
round-within f s a c q j C held h =
    let l = 2 ^ low f in
    let B = q * 2 ^ j in
    let e : q * 2 ^ (j + low f) ≡ B * l = ap (λ (x : ℕ). q * x) (pow-add 2 j (low f)) ∙ sym (mul_assoc q (2 ^ j) l) in
    let n : a * l ≤ q * 2 ^ (j + low f) * c = le_trans (mul-le-mul_right l h) (le_of_eq (mul_right_comm B c l ∙ ap (λ (x : ℕ). x * c) (sym e))) in
    let g : kept (prec f) (a * l) c * 2 ^ drop (prec f) (a * l) c ≤ B * l = le_trans (kept-within (prec f) (a * l) c q (j + low f) C held.few n) (le_of_eq e) in
    let fine : B * l < 2 ^ (low f + suc (emax f)) =
    subst (λ (x : ℕ). B * l < x) (sym (pow-add 2 (suc (emax f)) (low f)) ∙ ap (λ (x : ℕ). 2 ^ x) (plus (suc (emax f)) (low f))) (mul-lt-mul_of_pos_right held.below (pow_pos (low f))) in
    subst (Within B) (sym (round_is f s a c))
    (within-value B l (units f s (kept (prec f) (a * l) c) (drop (prec f) (a * l) c)) s (kept (prec f) (a * l) c * 2 ^ drop (prec f) (a * l) c) (pow_pos (low f)) g
    (units_val f s (kept (prec f) (a * l) c) (drop (prec f) (a * l) c) (lt_of_le_of_lt g fine)))
  where
    plus : (x y : ℕ) → x + y ≡ y + x
    plus x y = omega arith

-- ---- products

pub mul-within : (f : Format) (x y : Float) (A B q j : ℕ) → A * B ≡ q * 2 ^ j → Held f q j → Within A x → Within B y → Within (q * 2 ^ j) (mul f x y)
unfolding mul
mul-within f nan y A B q j p g h k = absurd h
mul-within f (inf s) y A B q j p g h k = absurd h
mul-within f (fin s m e) nan A B q j p g h k = absurd k
mul-within f (fin s m e) (inf t) A B q j p g h k = absurd k
mul-within f (fin s m e) (fin t n d) A B q j p g h k =
    round-within f (unlike s t) (m * up e * (n * up d)) (down e * down d) q j (mul-pos (down_pos e) (down_pos d)) g
    (le_trans (mul-le-mul h k) (le_of_eq (mul-mul-mul_comm A (down e) B (down d) ∙ ap (λ (z : ℕ). z * (down e * down d)) p)))

-- ---- sums and differences

within-cond : (B : ℕ) (b : Bool) (x y : Float) → Within B x → Within B y → Within B (cond b x y)
within-cond B true x y h k = h
within-cond B false x y h k = k

sum-within : (f : Format) (s : Bool) (a : ℕ) (t : Bool) (b c q j : ℕ) → 0 < c → Held f q j → a + b ≤ q * 2 ^ j * c → Within (q * 2 ^ j) (sum f s a t b c)
unfolding sum
sum-within f s a t b c q j C g h =
    within-cond (q * 2 ^ j) (beq s t) (round f s (a + b) c) (cond (ltb a b) (round f t (b - a) c) (round f (s && ltb b a) (a - b) c))
    (round-within f s (a + b) c q j C g h)
    (within-cond (q * 2 ^ j) (ltb a b) (round f t (b - a) c) (round f (s && ltb b a) (a - b) c)
    (round-within f t (b - a) c q j C g (omega arith)) (round-within f (s && ltb b a) (a - b) c q j C g (omega arith)))

pub add-within : (f : Format) (x y : Float) (A B q j : ℕ) → A + B ≡ q * 2 ^ j → Held f q j → Within A x → Within B y → Within (q * 2 ^ j) (add f x y)
unfolding add
add-within f nan y A B q j p g h k = absurd h
add-within f (inf s) y A B q j p g h k = absurd h
add-within f (fin s m e) nan A B q j p g h k = absurd k
add-within f (fin s m e) (inf t) A B q j p g h k = absurd k
add-within f (fin s m e) (fin t n d) A B q j p g h k =
    let c = down e * down d in
    let a : m * up e * down d ≤ A * c = le_trans (mul-le-mul_right (down d) h) (le_of_eq (mul_assoc A (down e) (down d))) in
    let b : n * up d * down e ≤ B * c = le_trans (mul-le-mul_right (down e) k) (le_of_eq (mul_right_comm B (down d) (down e) ∙ mul_assoc B (down e) (down d))) in
    let w : A * c + B * c ≡ q * 2 ^ j * c = sym (add-mul A B c) ∙ ap (λ (z : ℕ). z * c) p in
    sum-within f s (m * up e * down d) t (n * up d * down e) c q j (mul-pos (down_pos e) (down_pos d)) g (omega arith)

pub neg-within : (B : ℕ) (x : Float) → Within B x → Within B (neg x)
unfolding neg
neg-within B nan h = h
neg-within B (inf s) h = h
neg-within B (fin s m e) h = h

pub sub_within : (f : Format) (x y : Float) (A B q j : ℕ) → A + B ≡ q * 2 ^ j → Held f q j → Within A x → Within B y → Within (q * 2 ^ j) (sub f x y)
unfolding sub
sub_within f x y A B q j p g h k = add-within f x (neg y) A B q j p g h (neg-within B y k)

-- ---- quotients

-- finite, and at least 1 / D in size
abbrev pub Beyond : ℕ → Float → Type 0
Beyond D nan = ⊥
Beyond D (inf s) = ⊥
Beyond D (fin s m e) = down e ≤ D * (m * up e)

pub div-within : (f : Format) (x y : Float) (A D q j : ℕ) → A * D ≡ q * 2 ^ j → Held f q j → Within A x → Beyond D y → Within (q * 2 ^ j) (div f x y)
unfolding div
div-within f nan y A D q j p g h k = absurd h
div-within f (inf s) y A D q j p g h k = absurd h
div-within f (fin s m e) nan A D q j p g h k = absurd k
div-within f (fin s m e) (inf t) A D q j p g h k = absurd k
div-within f (fin s m e) (fin t zero d) A D q j p g h k = absurd (lt_irrefl 0 (lt_of_lt_of_le (down_pos d) (le_trans k (le_of_eq (ap (λ (z : ℕ). D * z) (zero-mul (up d)) ∙ mul-zero D)))))
div-within f (fin s m e) (fin t (suc n) d) A D q j p g h k =
    rw (eqb-suc-zero n)
    (round-within f (unlike s t) (m * up e * down d) (suc n * up d * down e) q j (mul-pos (mul-pos (zero-lt-suc n) (up_pos d)) (down_pos e)) g
    (le_trans (mul-le-mul h k) (le_of_eq (mul-mul-mul_comm A (down e) D (suc n * up d) ∙ ap (λ (z : ℕ). z * (down e * (suc n * up d))) p ∙ ap (λ (z : ℕ). q * 2 ^ j * z) (mul_comm (down e) (suc n * up d))))))
