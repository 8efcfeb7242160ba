-- The one rounding: the whole number nearest a root, and its bits put together.
use Rattle.prelude.proofs.Prelude.{◌≡◌, refl, sym, ap, ◌∙◌, Bool, true, false, not, cond, ◌⊎◌, inl, inr, ℕ, ◌+◌, ◌-◌, ◌*◌, ◌≤◌, ◌<◌, add-one, arith, T, ltb, Float, nan, ◌/◌, ◌^◌, add-zero, eq-or-lt_of_le, zero-add, lt_of_lt_of_le, le_trans, le_of_eq, ltb-true, ltb-false, lt-ltb, le-ltb, lit<, lit≤, inf, fin, binary64, up, down, size, odd, fits, to_bits, of_bits, down_pos}
use native.Mathlib.Nat.{pow-suc, lt_of_le_of_lt, div-eq_of_eq-mul_left}
use lib.Pow.{shl_lt, shl-shr, pow_mono}
use lib.Ieee.{nan_bits}
use lib.Ieee.Fits.{odd-fits}
use lib.Ieee.Bits.{of_bits-to_bits}
use lib.Ieee.Exact.{HasValue, odd_sign}
use Rattle.binary64.specs.Root.{square, nearest_whole, moved_back}
use Rattle.binary64.proofs.Floats.{not-nan-pattern}
use Rattle.binary64.proofs.RootDigits.{size-moved}

-- ---- the bits put together

bits_of_value : (x : Float) (a : ℕ) → HasValue x false a (2 ^ 1074) → to_bits binary64 x ≡ (size a - 53) * 2 ^ 52 + a / 2 ^ (size a - 53)
unfolding to_bits
bits_of_value nan a v = absurd v
bits_of_value (inf s) a v = absurd v
bits_of_value (fin s m e) a v =
    let n : m * up e * 2 ^ 1074 / down e ≡ a = div-eq_of_eq-mul_left (down_pos e) v.1 in
    rw (v.0, n, zero-add)

-- a whole number of 53 digits times 2 ^ k, and 2 ^ 53 too, which is a carry
together : (q k a : ℕ) → 2 ^ 52 ≤ q → q ≤ 2 ^ 53 → a ≡ q * 2 ^ k → (size a - 53) * 2 ^ 52 + a / 2 ^ (size a - 53) ≡ k * 2 ^ 52 + q
together q k a l h e = elim (eq-or-lt_of_le h) [
  | inr t ↦
      let s : size a - 53 ≡ k = ap (λ (x : ℕ). size x - 53) e ∙ ap (λ (x : ℕ). x - 53) (size-moved q 52 k l t) ∙ omega arith in
      rw (s, e, shl-shr)
  | inl c ↦
      let p : a ≡ 2 ^ 52 * 2 ^ (k + 1) = e ∙ rw (c, add-one, pow-suc 2 k) (omega arith) in
      let s : size a - 53 ≡ k + 1 = ap (λ (x : ℕ). size x - 53) p ∙ ap (λ (x : ℕ). x - 53) (size-moved (2 ^ 52) 52 (k + 1) (lit≤ tt) (lit< tt)) ∙ omega arith in
      let d : a / 2 ^ (k + 1) ≡ 2 ^ 52 = ap (λ (x : ℕ). x / 2 ^ (k + 1)) p ∙ shl-shr (2 ^ 52) (k + 1) in
      rw (s, d) (omega arith)
]

-- nothing is lost: the value is q * 2 ^ (h + 484) / 2 ^ 1074, and it is a number of binary64
pub moved_value : (q h : ℕ) → HasValue (moved_back q h) false (q * 2 ^ (h + 484)) (2 ^ 1074)
unfolding moved_back
moved_value q h = odd_sign 54 false q (h + 484) 1074

pub moved-fits : (q h : ℕ) → q ≤ 2 ^ 53 → h ≤ 1049 → T (fits binary64 (moved_back q h))
unfolding moved_back
moved-fits q h t few =
    let below : q < 2 ^ 54 = lt_of_le_of_lt t (lit< tt) in
    odd-fits binary64 54 false q (h + 484) below t (lt_of_lt_of_le (shl_lt 54 (h + 484) below) (pow_mono {i = 54 + (h + 484)} {j = 2098} (omega arith)))

pub bits_back : (q h : ℕ) → 2 ^ 52 ≤ q → q ≤ 2 ^ 53 → h ≤ 1049 → of_bits binary64 ((h + 484) * 2 ^ 52 + q) ≡ moved_back q h
unfolding moved_back
bits_back q h l t few =
    let k = h + 484 in
    let x = odd 54 false q k 1074 in
    let bits : to_bits binary64 x ≡ k * 2 ^ 52 + q = bits_of_value x (q * 2 ^ k) (moved_value q h) ∙ together q k (q * 2 ^ k) l t refl in
    ap (of_bits binary64) (sym bits) ∙ of_bits-to_bits binary64 x (moved-fits q h t few)

-- no pattern of a NaN
pub not-nan-bits : (b : ℕ) → b < 0x7ff0000000000000 → T (not (nan_bits binary64 b))
not-nan-bits b h = not-nan-pattern b (omega arith)

-- ---- the whole number nearest the root

pub nearest-is : (q r up : ℕ) → ((q < r) × (up ≡ 1)) ⊎ ((r ≤ q) × (up ≡ 0)) → (q + up ≡ nearest_whole q r) × (up ≤ 1)
nearest-is q r up (inl (h, e)) = (rw (e, lt-ltb q r h) refl, le_of_eq e)
nearest-is q r up (inr (h, e)) = (rw (e, le-ltb q r h) (add-zero q), le_trans (le_of_eq e) (lit≤ tt))

pub nearest-le : (q r : ℕ) → (q ≤ nearest_whole q r) × (nearest_whole q r ≤ q + 1)
nearest-le q r = go (ltb q r)
  where
    go : (b : Bool) → (q ≤ cond b (q + 1) q) × (cond b (q + 1) q ≤ q + 1)
    go true = omega arith
    go false = omega arith

-- the root of q * q + r lies less than 1/2 below it and less than 1/2 above it
pub nearest-whole : (q r : ℕ) → 0 < q → r ≤ 2 * q → (square (2 * nearest_whole q r - 1) < 4 * (square q + r)) × (4 * (square q + r) < square (2 * nearest_whole q r + 1))
nearest-whole q r p h = go (ltb q r) (ltb-true q r) (ltb-false q r)
  where
    one_less : (n : ℕ) → 0 < n → (2 * n - 1 + 1) * (2 * n - 1 + 1) ≡ 2 * n * (2 * n)
    one_less n p = ap (λ (y : ℕ). y * y) (omega arith)

    go : (b : Bool) → (b ≡ true → q < r) → (b ≡ false → r ≤ q)
        → (square (2 * cond b (q + 1) q - 1) < 4 * (square q + r)) × (4 * (square q + r) < square (2 * cond b (q + 1) q + 1))
    go true u d = let g = u refl in omega (arith, one_less (q + 1) (omega arith))
    go false u d = let g = d refl in omega (arith, one_less q p)
