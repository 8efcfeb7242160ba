-- A number whose square is finite is at most 2 ^ 512 in size; and a count from 1 on is not below 1.
use Rattle.prelude.proofs.Prelude.{◌≡◌, refl, sym, subst, true, false, ℕ, ◌*◌, ◌^◌, ◌≤◌, ◌<◌, arith, T, Float, nan, inf, fin, binary64, up, down, mul, lt, eq, lit<, lit≤, le_trans, le_of_eq, lt_of_lt_of_le, mul_comm, mul-le-mul, mul-pos, finite, mul-lt-mul_of_pos_right, of_int, round, units, odd, size, span, climb, down_pos}
use native.Mathlib.Nat.{mul-one, mul-mul-mul_comm, le-mul_of_pos_right, lt_of_not-le, le_of_lt}
use lib.Count.{count_trailing_zeros}
use lib.IntN.{pos}
use lib.Pow.{pow-add, pow_pos}
use lib.Ieee.{le}
use lib.Ieee.Exact.{HasValue, round_exact}
use lib.Ieee.Order.{round_mono}
use Rattle.binary64.proofs.Magnitudes.{Within, Beyond}

pub beyond-finite : (D : ℕ) (x : Float) → Beyond D x → T (finite x)
beyond-finite D nan h = h
beyond-finite D (inf s) h = h
beyond-finite D (fin s m e) h = tt

-- 2 ^ 1024 and more round to an infinity
overflows : round binary64 false (2 ^ 1024) 1 ≡ inf false
unfolding round units odd size span climb count_trailing_zeros
overflows = refl

not_finite : (x : Float) → T (le (inf false) x) → T (finite x) → ⊥
unfolding le lt eq
not_finite nan h f = f
not_finite (inf s) h f = f
not_finite (fin s m e) h f = h

round-below : (a c : ℕ) → 0 < c → T (finite (round binary64 false a c)) → 2 ^ 1024 * c ≤ a → ⊥
round-below a c C f h =
    not_finite (round binary64 false a c)
    (subst (λ (x : Float). T (le x (round binary64 false a c))) overflows (round_mono binary64 (2 ^ 1024) 1 a c (lit< tt) C (le_trans h (le_of_eq (sym (mul-one a)))))) f

square-below : (a c : ℕ) → 0 < c → T (finite (round binary64 false (a * a) (c * c))) → a ≤ 2 ^ 512 * c
square-below a c C f = le_of_lt (lt_of_not-le (λ (h : 2 ^ 512 * c ≤ a).
    round-below (a * a) (c * c) (mul-pos C C) f (le_trans (le_of_eq (sym (mul-mul-mul_comm (2 ^ 512) c (2 ^ 512) c))) (mul-le-mul h h))))

pub square-within : (x : Float) → T (finite (mul binary64 x x)) → Within (2 ^ 512) x
unfolding mul
square-within nan h = h
square-within (inf true) h = h
square-within (inf false) h = h
square-within (fin true m e) h = square-below (m * up e) (down e) (down_pos e) h
square-within (fin false m e) h = square-below (m * up e) (down e) (down_pos e) h

-- a count from 1 on is held as it is, and so not below 1
pub count-beyond : (n : ℕ) → 1 ≤ n → n < 2 ^ 53 → Beyond 1 (of_int binary64 (pos n))
unfolding of_int
count-beyond n h few =
    let below : n < 2 ^ 1024 = lt_of_lt_of_le few (lit≤ tt) in
    go (round binary64 false n 1)
    (round_exact binary64 false n 1 n 1074 (lit< tt) few (subst (λ (z : ℕ). n * 2 ^ 1074 < z) (sym (pow-add 2 1024 1074)) (mul-lt-mul_of_pos_right below (pow_pos 1074))) (sym (mul-one (n * 2 ^ 1074))))
  where
    go : (x : Float) → HasValue x false n 1 → Beyond 1 x
    go nan v = v
    go (inf s) v = v
    go (fin s m e) v = let least = le-mul_of_pos_right (down e) h in let same = v.1 in omega (arith, mul_comm n (down e))
