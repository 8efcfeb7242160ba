-- Values that a format holds, up to the sign of a zero: x ≐ y where they are the same or both zero. The operations respect it.
-- `≐→eq` and `eq→≐`: between finite values that fit it is the machine's ==.
use Rattle.prelude.proofs.Prelude.{◌≡◌, refl, sym, ap, ◌∙◌, Bool, true, false, not, ◌&&◌, ◌||◌, ◌⊎◌, inl, inr, ℕ, zero, suc, ◌+◌, ◌-◌, ◌*◌, ◌≤◌, ◌<◌, arith, T, eqb, ltb, Float, nan, true≢false, ◌/◌, ◌%◌, ◌^◌, zero-mul, zero-add, add-zero, sub-zero, mul-pos, mul_comm, lt_irrefl, zero-lt-suc, not-le_of_lt, mul-lt-mul_of_pos_right, ℤ, leb, eqb→eq, ltb→lt, lt→ltb, leb→le, le-ltb, inf, fin, Format, up, down, round, sum, neg, add, sub, mul, div, eq, binary64, fits, to_bits, of_bits, and_i, and_l, and_r, down_pos, is_true, finite}
use mathlib.Core.Bool.{beq}
use native.Mathlib.Nat.{mul-zero, mul-one, one-mul, mul_assoc, mul_left_comm, mul_right_comm, lt_of_mul-lt-mul_right, sub-add_cancel}
use lib.IntN.{pos, negsuc}
use lib.Dec.{leb-suc-zero, eqb-suc-zero, eqb_refl}
use lib.Pow.{pow-add, pow_pos, pow-lt}
use lib.Ieee.{prec, emax, low, unlike, ne, is_nan, nan_bits}
use lib.Ieee.Fits.{up_pos, round-fits, neg-fits}
use lib.Ieee.Bits.{of_bits-to_bits, nan_bits_above}
use lib.Ieee.Exact.{HasValue, round_exact}
use lib.Ieee.Nearest.{div_same}
use lib.Ieee.Scale.{round_same}

-- ---- zero, of either sign

abbrev pub Zero : Float → Type 0
Zero nan = ⊥
Zero (inf s) = ⊥
Zero (fin s zero e) = Unit {0}
Zero (fin s (suc m) e) = ⊥

infix 40 ◌≐◌
pub data ◌≐◌ (x y : Float) : Type 0 where
  same : x ≡ y → x ≐ y
  zeros : Zero x → Zero y → x ≐ y

pub ≐-sym : {x y : Float} → x ≐ y → y ≐ x
≐-sym (same p) = same (sym p)
≐-sym (zeros a b) = zeros b a

pub ≐-trans : {x y z : Float} → x ≐ y → y ≐ z → x ≐ z
≐-trans {x} {y} {z} (same p) q = rw p q
≐-trans {x} {y} {z} (zeros a b) (same q) = zeros a (rw q at b)
≐-trans (zeros a b) (zeros c d) = zeros a d

-- ---- what is finite and fits is written in one way

pub one_way : (f : Format) (s : Bool) (m : ℕ) (e : ℤ) (n : ℕ) (d : ℤ) → T (fits f (fin s m e)) → T (fits f (fin s n d)) → m * up e * down d ≡ n * up d * down e → fin s m e ≡ fin s n d
one_way f s m e n d h k p = sym (of_bits-to_bits f (fin s m e) h) ∙ ap (of_bits f) bits ∙ of_bits-to_bits f (fin s n d) k
  where
    units-same : m * up e * 2 ^ low f / down e ≡ n * up d * 2 ^ low f / down d
    units-same = div_same (m * up e * 2 ^ low f) (down e) (n * up d * 2 ^ low f) (down d) (down_pos e) (down_pos d)
        (mul_right_comm (m * up e) (2 ^ low f) (down d) ∙ ap (λ (x : ℕ). x * 2 ^ low f) p ∙ mul_right_comm (n * up d) (down e) (2 ^ low f))

    bits : to_bits f (fin s m e) ≡ to_bits f (fin s n d)
    bits = unfold to_bits in rw units-same

pub zero-way : (f : Format) (s : Bool) (e : ℤ) → T (fits f (fin s zero e)) → fin s zero e ≡ fin s zero (pos 0)
zero-way f s e h = one_way f s zero e zero (pos 0) h (unfold fits in tt) (simp zero-mul)

-- ---- `round` at zero, and at a value that fits

pub positive : (m : ℕ) (e : ℤ) (c : ℕ) → 0 < c → suc m * up e * c ≡ 0 → ⊥
positive m e c h p = lt_irrefl 0 (rw p at (mul-pos (mul-pos (zero-lt-suc m) (up_pos e)) h))

zero-of-value : (x : Float) (s : Bool) (c : ℕ) → 0 < c → HasValue x s 0 c → Zero x
zero-of-value nan s c h v = v
zero-of-value (inf t) s c h v = v
zero-of-value (fin t zero e) s c h v = tt
zero-of-value (fin t (suc m) e) s c h v = absurd (positive m e c h (v.1 ∙ zero-mul (down e)))

round-zero : (f : Format) (s : Bool) (a c : ℕ) → 0 < c → a ≡ 0 → Zero (round f s a c)
round-zero f s a c h p = rw p (zero-of-value (round f s 0 c) s c h
    (round_exact f s 0 c 0 0 h (pow_pos (prec f)) (pow_pos (low f + suc (emax f))) (zero-mul (2 ^ low f) ∙ sym (zero-mul c))))

pub exponent : (e : ℤ) (l : ℕ) → down e ≤ 2 ^ l → (j : ℕ) × (up e * 2 ^ l ≡ 2 ^ j * down e)
exponent (pos k) l h = (k + l, sym (pow-add 2 k l) ∙ sym (mul-one (2 ^ (k + l))))
exponent (negsuc k) l h = (l - suc k, one-mul (2 ^ l) ∙ ap (λ (x : ℕ). 2 ^ x) (sym (sub-add_cancel fewer)) ∙ pow-add 2 (l - suc k) (suc k))
  where
    fewer : suc k ≤ l
    fewer =
        let n : ¬ (l < suc k) = λ (b : l < suc k). not-le_of_lt (pow-lt b) h in
        omega arith

pub same-value : (f : Format) (x : Float) (s : Bool) (m : ℕ) (e : ℤ) → T (fits f x) → T (fits f (fin s m e)) → HasValue x s (m * up e) (down e) → x ≡ fin s m e
same-value f nan s m e h k v = absurd v
same-value f (inf t) s m e h k v = absurd v
same-value f (fin t n d) s m e h k v = ap (λ (b : Bool). fin b n d) v.0 ∙ one_way f s n d m e (rw v.0 at h) k v.1

pub four : (a b c d : Bool) → T (a && b && c && d) → T b × T c × T d
four a b c d t =
    let u : T (a && b && c) = and_l (a && b && c) d t in
    (and_r a b (and_l (a && b) c u), and_r (a && b) c u, and_r (a && b && c) d t)

pub round-own : (f : Format) (s : Bool) (m : ℕ) (e : ℤ) → T (fits f (fin s (suc m) e)) → round f s (suc m * up e) (down e) ≡ fin s (suc m) e
unfolding fits
round-own f s m e h =
    let l = low f in
    let n = suc m * up e in
    let (small, not_low, not-high) = four (eqb (suc m % 2) 1) (ltb (suc m) (2 ^ prec f)) (leb (down e) (2 ^ l)) (ltb n (2 ^ suc (emax f) * down e)) h in
    let (j, p) = exponent e l (leb→le (down e) (2 ^ l) not_low) in
    let q : n * 2 ^ l ≡ suc m * 2 ^ j * down e = mul_assoc (suc m) (up e) (2 ^ l) ∙ ap (λ (x : ℕ). suc m * x) p ∙ sym (mul_assoc (suc m) (2 ^ j) (down e)) in
    let top : 2 ^ suc (emax f) * down e * 2 ^ l ≡ 2 ^ (l + suc (emax f)) * down e = rw pow-add (simp (mul_comm, mul_left_comm)) in
    let r : suc m * 2 ^ j * down e < 2 ^ (l + suc (emax f)) * down e = rw (← q, ← top) (mul-lt-mul_of_pos_right (ltb→lt n (2 ^ suc (emax f) * down e) not-high) (pow_pos l)) in
    same-value f (round f s n (down e)) s (suc m) e (round-fits f s n (down e)) h
    (round_exact f s n (down e) (suc m) j (down_pos e) (ltb→lt (suc m) (2 ^ prec f) small) (lt_of_mul-lt-mul_right (down e) r) q)

-- ---- a sum with a zero

sum_zeros : (f : Format) (s t : Bool) (c : ℕ) → 0 < c → Zero (sum f s 0 t 0 c)
unfolding sum
sum_zeros f true true c h = round-zero f true 0 c h refl
sum_zeros f true false c h = round-zero f false 0 c h refl
sum_zeros f false true c h = round-zero f false 0 c h refl
sum_zeros f false false c h = round-zero f false 0 c h refl

sum-right : (f : Format) (s : Bool) (a : ℕ) (t : Bool) (c : ℕ) → 0 < a → sum f s a t 0 c ≡ round f s a c
unfolding sum
sum-right f true a true c h = rw add-zero
sum-right f true a false c h = rw (leb-suc-zero, is_true (ltb 0 a) (lt→ltb 0 a h), sub-zero)
sum-right f false a true c h = rw (leb-suc-zero, sub-zero)
sum-right f false a false c h = rw add-zero

sum_left : (f : Format) (s t : Bool) (b c : ℕ) → 0 < b → sum f s 0 t b c ≡ round f t b c
unfolding sum
sum_left f true true b c h = rw zero-add
sum_left f true false b c h = rw (is_true (ltb 0 b) (lt→ltb 0 b h), sub-zero)
sum_left f false true b c h = rw (is_true (ltb 0 b) (lt→ltb 0 b h), sub-zero)
sum_left f false false b c h = rw zero-add

-- the fraction, with both parts scaled
scaled : (f : Format) (s : Bool) (m : ℕ) (e : ℤ) (k : ℕ) → 0 < k → T (fits f (fin s (suc m) e)) → round f s (suc m * up e * k) (down e * k) ≡ fin s (suc m) e
scaled f s m e k h t = round_same f s (suc m * up e * k) (down e * k) (suc m * up e) (down e) (mul-pos (down_pos e) h) (down_pos e)
    (simp (mul_assoc, mul_comm, mul_left_comm)) ∙ round-own f s m e t

no_part : (u d : ℕ) → 0 * u * d ≡ 0
no_part u d = simp zero-mul

pub add_right : (f : Format) (x y : Float) → T (fits f x) → Zero y → add f x y ≐ x
unfolding add
add_right f nan nan h z = same refl
add_right f nan (inf t) h z = same refl
add_right f nan (fin t n d) h z = same refl
add_right f (inf s) nan h z = absurd z
add_right f (inf s) (inf t) h z = absurd z
add_right f (inf s) (fin t n d) h z = same refl
add_right f (fin s m e) nan h z = absurd z
add_right f (fin s m e) (inf t) h z = absurd z
add_right f (fin s m e) (fin t (suc n) d) h z = absurd z
add_right f (fin s zero e) (fin t zero d) h z = zeros (simp no_part (sum_zeros f s t (down e * down d) (mul-pos (down_pos e) (down_pos d)))) tt
add_right f (fin s (suc m) e) (fin t zero d) h z =
    same (rw no_part (sum-right f s (suc m * up e * down d) t (down e * down d) (mul-pos (mul-pos (zero-lt-suc m) (up_pos e)) (down_pos d)) ∙ scaled f s m e (down d) (down_pos d) h))

pub add_left : (f : Format) (x y : Float) → Zero x → T (fits f y) → add f x y ≐ y
unfolding add
add_left f nan y z h = absurd z
add_left f (inf s) y z h = absurd z
add_left f (fin s (suc m) e) y z h = absurd z
add_left f (fin s zero e) nan z h = same refl
add_left f (fin s zero e) (inf t) z h = same refl
add_left f (fin s zero e) (fin t zero d) z h = zeros (simp no_part (sum_zeros f s t (down e * down d) (mul-pos (down_pos e) (down_pos d)))) tt
add_left f (fin s zero e) (fin t (suc n) d) z h =
    same (rw (no_part, mul_comm (down e) (down d)) (sum_left f s t (suc n * up d * down e) (down d * down e) (mul-pos (mul-pos (zero-lt-suc n) (up_pos d)) (down_pos e)) ∙ scaled f t n d (down e) (down_pos e) h))

-- ---- a product and a quotient with a zero

pub mul-zero-left : (f : Format) (x y : Float) → Zero x → T (finite y) → Zero (mul f x y)
unfolding mul
mul-zero-left f nan y z h = absurd z
mul-zero-left f (inf s) y z h = absurd z
mul-zero-left f (fin s (suc m) e) y z h = absurd z
mul-zero-left f (fin s zero e) nan z h = absurd h
mul-zero-left f (fin s zero e) (inf t) z h = absurd h
mul-zero-left f (fin s zero e) (fin t n d) z h = round-zero f (unlike s t) (0 * up e * (n * up d)) (down e * down d) (mul-pos (down_pos e) (down_pos d)) (no_part (up e) (n * up d))

pub mul-zero-right : (f : Format) (x y : Float) → T (finite x) → Zero y → Zero (mul f x y)
unfolding mul
mul-zero-right f nan y h z = absurd h
mul-zero-right f (inf s) y h z = absurd h
mul-zero-right f (fin s m e) nan h z = absurd z
mul-zero-right f (fin s m e) (inf t) h z = absurd z
mul-zero-right f (fin s m e) (fin t (suc n) d) h z = absurd z
mul-zero-right f (fin s m e) (fin t zero d) h z =
    round-zero f (unlike s t) (m * up e * (0 * up d)) (down e * down d) (mul-pos (down_pos e) (down_pos d)) (simp (zero-mul, mul-zero))

pub div-zero : (f : Format) (x y : Float) → Zero x → T (finite y) → (Zero y → ⊥) → Zero (div f x y)
unfolding div
div-zero f nan y z h n = absurd z
div-zero f (inf s) y z h n = absurd z
div-zero f (fin s (suc m) e) y z h n = absurd z
div-zero f (fin s zero e) nan z h n = absurd h
div-zero f (fin s zero e) (inf t) z h n = absurd h
div-zero f (fin s zero e) (fin t zero d) z h n = absurd (n tt)
div-zero f (fin s zero e) (fin t (suc n) d) z h k =
    rw eqb-suc-zero (round-zero f (unlike s t) (0 * up e * down d) (suc n * up d * down e) (mul-pos (mul-pos (zero-lt-suc n) (up_pos d)) (down_pos e)) (no_part (up e) (down d)))

-- ---- the operations respect ≐

pub neg-zero : (x : Float) → Zero x → Zero (neg x)
unfolding neg
neg-zero nan z = z
neg-zero (inf s) z = z
neg-zero (fin s zero e) z = z
neg-zero (fin s (suc m) e) z = z

neg-cong : {x y : Float} → x ≐ y → neg x ≐ neg y
neg-cong (same p) = same (ap neg p)
neg-cong {x} {y} (zeros a b) = zeros (neg-zero x a) (neg-zero y b)

pub mul-cong : (f : Format) {x x' y y' : Float} → T (finite x) → T (finite x') → T (finite y) → T (finite y') → x ≐ x' → y ≐ y' → mul f x y ≐ mul f x' y'
mul-cong f h h' k k' (same p) (same q) = same (rw (p, q))
mul-cong f {x} {x'} {y} {y'} h h' k k' (same p) (zeros a b) = zeros (mul-zero-right f x y h a) (mul-zero-right f x' y' h' b)
mul-cong f {x} {x'} {y} {y'} h h' k k' (zeros a b) q = zeros (mul-zero-left f x y a k) (mul-zero-left f x' y' b k')

pub add_cong : (f : Format) {x x' y y' : Float} → T (fits f x) → T (fits f x') → T (fits f y) → T (fits f y') → x ≐ x' → y ≐ y' → add f x y ≐ add f x' y'
add_cong f h h' k k' (same p) (same q) = same (rw (p, q))
add_cong f {x} {x'} {y} {y'} h h' k k' (same p) (zeros a b) = ≐-trans (add_right f x y h a) (≐-trans (same p) (≐-sym (add_right f x' y' h' b)))
add_cong f {x} {x'} {y} {y'} h h' k k' (zeros a b) q = ≐-trans (add_left f x y a k) (≐-trans q (≐-sym (add_left f x' y' b k')))

pub sub-cong : (f : Format) {x x' y y' : Float} → T (fits f x) → T (fits f x') → T (fits f y) → T (fits f y') → x ≐ x' → y ≐ y' → sub f x y ≐ sub f x' y'
unfolding sub
sub-cong f {x} {x'} {y} {y'} h h' k k' p q = add_cong f h h' (neg-fits f y k) (neg-fits f y' k') p (neg-cong q)

pub sub-right : (f : Format) (x y : Float) → T (fits f x) → Zero y → sub f x y ≐ x
unfolding sub
sub-right f x y h z = add_right f x (neg y) h (neg-zero y z)

pub zero_of : {x y : Float} → x ≐ y → Zero y → Zero x
zero_of (same p) z = rw p z
zero_of (zeros a b) z = a

pub div-cong : (f : Format) {x x' y y' : Float} → T (finite y) → T (finite y') → (Zero y → ⊥) → x ≐ x' → y ≐ y' → div f x y ≐ div f x' y'
div-cong f h h' n (same p) (same q) = same (rw (p, q))
div-cong f {x} {x'} {y} {y'} h h' n (zeros a b) (same q) = zeros (div-zero f x y a h n) (div-zero f x' y' b h' (λ (z : Zero y'). n (rw q z)))
div-cong f h h' n p (zeros c d) = absurd (n c)

-- ---- ≐ is the machine's ==

self : (x : Float) → T (finite x) → T (eq x x)
unfolding eq
self nan h = h
self (inf s) h = absurd h
self (fin true m e) h = and_i (eqb (m * up e * down e) (m * up e * down e)) true (eqb_refl (m * up e * down e)) tt
self (fin false m e) h = and_i (eqb (m * up e * down e) (m * up e * down e)) true (eqb_refl (m * up e * down e)) tt

zeros-eq : (x y : Float) → Zero x → Zero y → T (eq x y)
unfolding eq
zeros-eq nan y a b = absurd a
zeros-eq (inf s) y a b = absurd a
zeros-eq (fin s (suc m) e) y a b = absurd a
zeros-eq (fin s zero e) nan a b = absurd b
zeros-eq (fin s zero e) (inf t) a b = absurd b
zeros-eq (fin s zero e) (fin t (suc n) d) a b = absurd b
zeros-eq (fin s zero e) (fin t zero d) a b = simp no_part (last (beq s t))
  where
    last : (b : Bool) → T (b || true)
    last true = tt
    last false = tt

pub ≐→eq : {x y : Float} → T (finite x) → x ≐ y → T (eq x y)
≐→eq {x} h (same p) = rw (← p) (self x h)
≐→eq {x} {y} h (zeros a b) = zeros-eq x y a b

zero-fin : (s : Bool) (m : ℕ) (e : ℤ) (c : ℕ) → 0 < c → m * up e * c ≡ 0 → Zero (fin s m e)
zero-fin s zero e c h p = tt
zero-fin s (suc m) e c h p = absurd (positive m e c h p)

signs : (s t : Bool) (a : ℕ) → T (beq s t || eqb a 0) → (s ≡ t) ⊎ (a ≡ 0)
signs true true a h = inl refl
signs true false a h = inr (eqb→eq a 0 h)
signs false true a h = inr (eqb→eq a 0 h)
signs false false a h = inl refl

pub eq→≐ : (f : Format) (x y : Float) → T (fits f x) → T (fits f y) → T (finite x) → T (eq x y) → x ≐ y
unfolding eq
eq→≐ f nan y h k n t = absurd n
eq→≐ f (inf s) y h k n t = absurd n
eq→≐ f (fin s m e) nan h k n t = absurd t
eq→≐ f (fin s m e) (inf u) h k n t = absurd t
eq→≐ f (fin s m e) (fin u l d) h k n t =
    let a = m * up e * down d in
    let b = l * up d * down e in
    let p : a ≡ b = eqb→eq a b (and_l (eqb a b) (beq s u || eqb a 0) t) in
    elim (signs s u a (and_r (eqb a b) (beq s u || eqb a 0) t)) [
      | inl q ↦ same (ap (λ (v : Bool). fin v m e) q ∙ one_way f u m e l d (rw q at h) k p)
      | inr z ↦ zeros (zero-fin s m e (down d) (down_pos d) z) (zero-fin u l d (down e) (down_pos e) (sym p ∙ z))
    ]

-- ---- a zero, by the machine's test

pub eq-zero : (x : Float) → T (eq x (fin false 0 (pos 0))) → Zero x
unfolding eq
eq-zero nan t = t
eq-zero (inf s) t = t
eq-zero (fin s m e) t =
    let a = m * up e * 1 in
    let b = 0 * 1 * down e in
    zero-fin s m e 1 (zero-lt-suc 0) (eqb→eq a b (and_l (eqb a b) (beq s false || eqb a 0) t) ∙ zero-mul (down e))

pub zero-eq : (x : Float) → Zero x → T (eq x (fin false 0 (pos 0)))
zero-eq x z = zeros-eq x (fin false 0 (pos 0)) z tt

-- ---- bit patterns and NaN

pub not-nan-pattern : (n : ℕ) → n % 2 ^ 63 ≤ 0x7ff0000000000000 → T (not (nan_bits binary64 n))
not-nan-pattern n h = rw (nan_bits_above binary64 n, le-ltb 0x7ff0000000000000 (n % 2 ^ 63) h) tt

pub not-nan-value : (x : Float) → ne x x ≡ false → T (not (is_nan x))
unfolding ne is_nan
not-nan-value nan t = absurd (true≢false t)
not-nan-value (inf s) t = tt
not-nan-value (fin s m e) t = tt
