-- How long a number's word can be: a number below 10^j has at most j digits.
use Rattle.prelude.proofs.Prelude.{◌≡◌, refl, sym, ap, ◌∙◌, Bool, true, false, ◌&&◌, cond, [], ◌∷◌, ℕ, suc, ◌+◌, ◌-◌, ◌*◌, ◌≤◌, ◌<◌, arith, length, ◌^◌, mul-le-mul, mul_comm, leb, lit<, lt-ltb, le-ltb, eq-eqb, ne_eqb}
use native.Mathlib.Nat.{mul_assoc, pow-succ', pow-le-pow_right, le_refl, one-mul}
use native.Mathlib.Decide.{dec_lt, ℕ_discrete}
use borrow.Author.Tests.{leb-true}
use Rattle.std.specs.Prelude.{Some, None}
use Rattle.text_numbers.specs.Bytes.{Bytes}
use Rattle.text_numbers.specs.Words.{digit, decimal_from, spare, decimal_of}

is_one : {j k : ℕ} → Some j ≡ Some k → j ≡ k
is_one e = cc

-- one digit more
module _ (v b k : ℕ) (bs : Bytes) (e : decimal_from v (b ∷ bs) ≡ Some k) where
  inverse : (digit b < 10) × (10 * v + digit b < 2 ^ 32) × (decimal_from (10 * v + digit b) bs ≡ Some k)
  unfolding decimal_from
  inverse = go (dec_lt (digit b) 10) (dec_lt (10 * v + digit b) (2 ^ 32))
    where
      go : Dec (digit b < 10) → Dec (10 * v + digit b < 2 ^ 32) → (digit b < 10) × (10 * v + digit b < 2 ^ 32) × (decimal_from (10 * v + digit b) bs ≡ Some k)
      go (yes p) (yes q) = (p, q, simp (lt-ltb _ _ p, lt-ltb _ _ q) at e)
      go (yes p) (no q) =
          let n : 2 ^ 32 ≤ 10 * v + digit b = omega arith in
          let z = simp (lt-ltb _ _ p, le-ltb _ _ n) at e in cc
      go (no p) d =
          let n : 10 ≤ digit b = omega arith in
          let z = simp (le-ltb _ _ n) at e in cc

-- digits behind v make it so many times larger
power : (w : Bytes) (v k : ℕ) → decimal_from v w ≡ Some k → v * 10 ^ length w ≤ k
unfolding decimal_from
power [] v k e = omega (arith, is_one e)
power (b ∷ bs) v k e =
    let i = inverse v b k bs e in
    let h : (10 * v + digit b) * 10 ^ length bs ≤ k = power bs (10 * v + digit b) k i.2 in
    let m : 10 * v * 10 ^ length bs ≤ (10 * v + digit b) * 10 ^ length bs =
    mul-le-mul (let z : 10 * v ≤ 10 * v + digit b = omega arith in z) (le_refl (10 ^ length bs)) in
    let q : v * 10 ^ suc (length bs) ≡ 10 * v * 10 ^ length bs =
    ap (λ (x : ℕ). v * x) (pow-succ' 10 (length bs))
    ∙ sym (mul_assoc v 10 (10 ^ length bs))
    ∙ ap (λ (x : ℕ). x * 10 ^ length bs) (mul_comm v 10) in
    omega (arith, h, m, q)

below : (w : Bytes) (v k : ℕ) → v < 2 ^ 32 → decimal_from v w ≡ Some k → k < 2 ^ 32
unfolding decimal_from
below [] v k h e = omega (arith, is_one e)
below (b ∷ bs) v k h e = let i = inverse v b k bs e in below bs (10 * v + digit b) k i.1 i.2

-- only `0` is worth nothing
zero-digit : (b : ℕ) → digit b ≡ 0 → b ≡ 48
unfolding digit
zero-digit b e = first_range (leb 48 b) refl (leb b 57) e
  where
    third : (s t : Bool) → leb 97 b ≡ s → cond (s && t) (b - 87) 16 ≡ 0 → b ≡ 48
    third true true p h = let g : 97 ≤ b = leb-true 97 b p in absurd (omega arith)
    third true false p h = absurd (omega arith)
    third false t p h = absurd (omega arith)

    second : (s t : Bool) → leb 65 b ≡ s → cond (s && t) (b - 55) (cond (leb 97 b && leb b 102) (b - 87) 16) ≡ 0 → b ≡ 48
    second true true p h = let g : 65 ≤ b = leb-true 65 b p in absurd (omega arith)
    second true false p h = third (leb 97 b) (leb b 102) refl h
    second false t p h = third (leb 97 b) (leb b 102) refl h

    first_range : (s : Bool) → leb 48 b ≡ s → (t : Bool)
        → cond (s && t) (b - 48) (cond (leb 65 b && leb b 70) (b - 55) (cond (leb 97 b && leb b 102) (b - 87) 16)) ≡ 0 → b ≡ 48
    first_range true p true h = let g : 48 ≤ b = leb-true 48 b p in omega arith
    first_range true p false h = second (leb 65 b) (leb b 70) refl h
    first_range false p t h = second (leb 65 b) (leb b 70) refl h

pub decimal-size : (w : Bytes) (k j : ℕ) → decimal_of w ≡ Some k → k < 10 ^ j → 1 ≤ j → length w ≤ j
unfolding decimal_of spare
decimal-size [] k j e h o = cc
decimal-size (b ∷ []) k j e h o = o
decimal-size (b ∷ (c ∷ bs)) k j e h o = go (ℕ_discrete b 48)
  where
    go : Dec (b ≡ 48) → length (b ∷ (c ∷ bs)) ≤ j
    go (yes p) = let z = simp (eq-eqb _ _ p) at e in cc
    go (no n) =
        let f : decimal_from 0 (b ∷ (c ∷ bs)) ≡ Some k = simp (ne_eqb _ _ n) at e in
        let i = inverse 0 b k (c ∷ bs) f in
        let g : (10 * 0 + digit b) * 10 ^ length (c ∷ bs) ≤ k = power (c ∷ bs) (10 * 0 + digit b) k i.2 in
        long (dec_lt (length (c ∷ bs)) j) g
      where
        one : 1 ≤ 10 * 0 + digit b
        one = nonzero (ℕ_discrete (digit b) 0)
          where
            nonzero : Dec (digit b ≡ 0) → 1 ≤ 10 * 0 + digit b
            nonzero (yes z) = absurd (n (zero-digit b z))
            nonzero (no z) = omega arith

        long : Dec (length (c ∷ bs) < j) → (10 * 0 + digit b) * 10 ^ length (c ∷ bs) ≤ k → length (b ∷ (c ∷ bs)) ≤ j
        long (yes l) g = l
        long (no l) g =
            let p : 10 ^ j ≤ 10 ^ length (c ∷ bs) = pow-le-pow_right (lit< tt) (omega arith) in
            let q : 1 * 10 ^ length (c ∷ bs) ≤ (10 * 0 + digit b) * 10 ^ length (c ∷ bs) = mul-le-mul one (le_refl (10 ^ length (c ∷ bs))) in
            absurd (omega (arith, p, q, one-mul (10 ^ length (c ∷ bs)), g, h))

pub decimal-below : (w : Bytes) (k : ℕ) → decimal_of w ≡ Some k → k < 2 ^ 32
unfolding decimal_of
decimal-below w k e = go (spare w) e
  where
    go : (t : Bool) → cond t None (decimal_from 0 w) ≡ Some k → k < 2 ^ 32
    go true h = cc
    go false h = below w 0 k (lit< tt) h
