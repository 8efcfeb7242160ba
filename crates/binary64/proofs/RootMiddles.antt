-- On whole numbers: of the root of M = q * q + r and multiples of t, where nothing lies strictly between q t and (q + 1) t, the one that `nearest_whole` picks is
-- on the root's side of every middle.
use Rattle.prelude.proofs.Prelude.{◌≡◌, refl, sym, Bool, true, false, cond, ◌⊎◌, inl, inr, ℕ, ◌+◌, ◌*◌, ◌≤◌, ◌<◌, arith, ltb, mul-pos, mul-le-mul, mul-le-mul_left, mul-le-mul_right, mul-lt-mul_of_pos_right, le_trans, le_of_eq, lt_of_lt_of_le, not-le_of_lt, ltb-true, ltb-false}
use native.Mathlib.Nat.{le_of_lt, lt_of_le_of_lt}
use Rattle.binary64.specs.Root.{square, nearest_whole}

square-lt : (a b : ℕ) → a < b → a * a < b * b
square-lt a b h = lt_of_le_of_lt (mul-le-mul_left a (le_of_lt h)) (mul-lt-mul_of_pos_right h (omega arith))

scaled-square : (a t : ℕ) → square (a * t) ≡ square a * square t
scaled-square a t = omega arith

-- c t less than the sum of two, and more, from the squares of c
less : (M c t z : ℕ) → square c ≤ 4 * M → z < c * t → square z < 4 * M * square t
less M c t z h l = lt_of_lt_of_le (square-lt z (c * t) l) (le_trans (le_of_eq (scaled-square c t)) (mul-le-mul_right (square t) h))

less-even : (M c t z : ℕ) → square c < 4 * M → 0 < t → z ≤ c * t → square z < 4 * M * square t
less-even M c t z h p l =
    lt_of_le_of_lt (mul-le-mul l l) (lt_of_le_of_lt (le_of_eq (scaled-square c t)) (mul-lt-mul_of_pos_right h (mul-pos p p)))

more : (M c t z : ℕ) → 4 * M ≤ square c → c * t < z → 4 * M * square t < square z
more M c t z h l = lt_of_le_of_lt (mul-le-mul_right (square t) h) (lt_of_le_of_lt (le_of_eq (sym (scaled-square c t))) (square-lt (c * t) z l))

more-even : (M c t z : ℕ) → 4 * M < square c → 0 < t → c * t ≤ z → 4 * M * square t < square z
more-even M c t z h p l =
    lt_of_lt_of_le (mul-lt-mul_of_pos_right h (mul-pos p p)) (le_trans (le_of_eq (sym (scaled-square c t))) (mul-le-mul l l))

-- nothing lies between q t and (q + 1) t
abbrev pub Apart : ℕ → ℕ → ℕ → Type 0
Apart q t y = (y ≤ q * t) ⊎ ((q + 1) * t ≤ y)

lower : (q t y : ℕ) → Apart q t y → y < (q + 1) * t → y ≤ q * t
lower q t y (inl h) l = h
lower q t y (inr h) l = absurd (not-le_of_lt l h)

upper : (q t y : ℕ) → Apart q t y → q * t < y → (q + 1) * t ≤ y
upper q t y (inl h) l = absurd (not-le_of_lt l h)
upper q t y (inr h) l = h

module _ (q r t y : ℕ) (small : r ≤ 2 * q) (p : 0 < t) (apart : Apart q t y) where
  abbrev M : ℕ
  M = square q + r

  below : (b : Bool) → (b ≡ true → q < r) → (b ≡ false → r ≤ q) → y < cond b (q + 1) q * t → square (y + cond b (q + 1) q * t) < 4 * M * square t
  below false up down h = less M (2 * q) t (y + q * t) (omega arith) (omega arith)
  below true up down h =
      let g = up refl in
      let l = lower q t y apart h in
      less-even M (2 * q + 1) t (y + (q + 1) * t) (omega arith) p (omega arith)

  above : (b : Bool) → (b ≡ true → q < r) → (b ≡ false → r ≤ q) → cond b (q + 1) q * t < y → 4 * M * square t < square (y + cond b (q + 1) q * t)
  above false up down h =
      let g = down refl in
      let l = upper q t y apart h in
      more-even M (2 * q + 1) t (y + q * t) (omega arith) p (omega arith)
  above true up down h = more M (2 * q + 2) t (y + (q + 1) * t) (omega arith) (omega arith)

  pub below-middle : y < nearest_whole q r * t → square (y + nearest_whole q r * t) < 4 * M * square t
  below-middle = below (ltb q r) (ltb-true q r) (ltb-false q r)

  pub above-middle : nearest_whole q r * t < y → 4 * M * square t < square (y + nearest_whole q r * t)
  above-middle = above (ltb q r) (ltb-true q r) (ltb-false q r)
