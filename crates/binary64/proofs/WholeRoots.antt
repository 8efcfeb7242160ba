-- The whole root of a natural number: there is one, `whole_root` computes it, and one division finds the second half of its digits.
use Rattle.prelude.proofs.Prelude.{◌≡◌, refl, ap, Bool, true, false, cond, ℕ, zero, suc, ◌+◌, ◌-◌, ◌*◌, ◌≤◌, ◌<◌, arith, ◌/◌, ◌%◌, ◌^◌, mul-le-mul, mul-le-mul_left, mul-le-mul_right, zero-lt-suc, leb}
use native.Mathlib.Nat.{le_of_lt, pow-suc, div-lt_iff_lt-mul, div-add-mod', mod-lt}
use borrow.Author.Tests.{leb-true, leb-false}
use Rattle.binary64.specs.Root.{square, last_digit, whole_root}
use Rattle.binary64.specs.Inner.RootDigits.{WholeRoot}

-- ---- there is one

no_less : (n q r p s : ℕ) → WholeRoot n q r → WholeRoot n p s → q < p → ⊥
no_less n q r p s v w h =
    let g : suc q * suc q ≤ p * p = mul-le-mul h h in
    omega arith

pub same-root : (n q r p s : ℕ) → WholeRoot n q r → WholeRoot n p s → q ≡ p
same-root n q r p s v w =
    let a : ¬ (q < p) = no_less n q r p s v w in
    let b : ¬ (p < q) = no_less n p s q r w v in
    omega arith

-- ---- `whole_root` computes it

last-digit : (n p : ℕ) (s : ℕ) → WholeRoot (n / 4) p s → WholeRoot n (last_digit n (2 * p)) (n - square (last_digit n (2 * p)))
last-digit n p s w = go (leb (square (2 * p + 1)) n) (leb-true (square (2 * p + 1)) n) (leb-false (square (2 * p + 1)) n)
  where
    digits : (n / 4 * 4 + n % 4 ≡ n) × (n % 4 < 4)
    digits = (div-add-mod' n 4, mod-lt n (zero-lt-suc 3))

    go : (b : Bool) → (b ≡ true → square (2 * p + 1) ≤ n) → (b ≡ false → n < square (2 * p + 1))
        → WholeRoot n (cond b (2 * p + 1) (2 * p)) (n - square (cond b (2 * p + 1) (2 * p)))
    go true h k = let g = h refl in omega (arith, digits)
    go false h k = let g = k refl in omega (arith, digits)

pub whole-root : (k n : ℕ) → n < 4 ^ k → WholeRoot n (whole_root k n) (n - square (whole_root k n))
unfolding whole_root
whole-root zero n h = omega arith
whole-root (suc k) n h =
    last-digit n (whole_root k (n / 4)) (n / 4 - square (whole_root k (n / 4)))
    (whole-root k (n / 4) ((div-lt_iff_lt-mul (zero-lt-suc 3)).1 (rw pow-suc at h)))

-- ---- its size

pub root_below : (n q r b : ℕ) → WholeRoot n q r → n < b * b → q < b
root_below n q r b w h =
    let no : ¬ (b ≤ q) = (λ (g : b ≤ q). let k : b * b ≤ q * q = mul-le-mul g g in omega arith) in
    omega arith

pub root-above : (n q r b : ℕ) → WholeRoot n q r → b * b ≤ n → b ≤ q
root-above n q r b w h =
    let no : ¬ (q < b) = (λ (g : suc q ≤ b). let k : suc q * suc q ≤ b * b = mul-le-mul g g in omega arith) in
    omega arith

-- ---- the root s of n, with remainder r, has 26 more digits for n * 2 ^ 52: those of r * 2 ^ 26 over 2 * s, or one less

-- one less, for a square that is too large
one_less : (n p q rest square : ℕ) → p + 1 ≡ q → n + square ≡ q * q + rest → rest < square → square ≤ rest + 2 * p → WholeRoot n p (rest + (2 * p + 1) - square)
one_less n p q rest square e v h k = let b : (p + 1) * (p + 1) ≡ q * q = ap (λ (x : ℕ). x * x) e in omega arith

module _ (s r : ℕ) (least : 2 ^ 26 ≤ s) (small : r ≤ 2 * s) where
  abbrev digits : ℕ
  digits = r * 2 ^ 26 / (2 * s)

  abbrev rest : ℕ
  rest = r * 2 ^ 26 % (2 * s)

  pub divided : (digits * (2 * s) + rest ≡ r * 2 ^ 26) × (rest < 2 * s)
  divided = (div-add-mod' (r * 2 ^ 26) (2 * s), mod-lt (r * 2 ^ 26) (omega arith))

  pub digits-few : (digits ≤ 2 ^ 26) × (digits * digits ≤ 2 ^ 26 * digits)
  digits-few =
      let (e, l) = divided in
      let no : ¬ (2 ^ 26 < digits) = (λ (g : suc (2 ^ 26) ≤ digits). let k : suc (2 ^ 26) * (2 * s) ≤ digits * (2 * s) = mul-le-mul_right (2 * s) g in omega arith) in
      let few : digits ≤ 2 ^ 26 = omega arith in
      (few, mul-le-mul_right digits few)

  pub digits-right : digits * digits ≤ rest * 2 ^ 26 → WholeRoot ((s * s + r) * 2 ^ 52) (s * 2 ^ 26 + digits) (rest * 2 ^ 26 - digits * digits)
  digits-right h = let (e, l) = divided in omega arith

  pub digits-over : rest * 2 ^ 26 < digits * digits
      → WholeRoot ((s * s + r) * 2 ^ 52) (s * 2 ^ 26 + digits - 1) (rest * 2 ^ 26 + (2 * (s * 2 ^ 26 + digits - 1) + 1) - digits * digits)
  digits-over h =
      let (e, l) = divided in
      let (few, f) = digits-few in
      one_less ((s * s + r) * 2 ^ 52) (s * 2 ^ 26 + digits - 1) (s * 2 ^ 26 + digits) (rest * 2 ^ 26) (digits * digits) (omega arith) (omega arith) h (omega arith)

-- ---- a product that fits

pub product-fits : (a b : ℕ) → a < 2 ^ 32 → b < 2 ^ 32 → a * b < 2 ^ 64
product-fits a b h k = let g : a * b ≤ a * 2 ^ 32 = mul-le-mul_left a (le_of_lt k) in omega arith
