-- The whole root and its remainder: how many digits a number has, those of a number of binary64 and its bits, how they are moved for the whole
-- root without loss, and what the second step promises by that (`rooted-of`, `rooted-only`).
use Rattle.prelude.proofs.Prelude.{◌≡◌, refl, sym, ap, ◌∙◌, Bool, true, false, not, ℕ, zero, suc, ◌+◌, ◌-◌, ◌*◌, ◌≤◌, ◌<◌, arith, T, eqb, ltb, Float, nan, ap₂, ◌/◌, ◌%◌, ◌^◌, zero-add, mul-pos, mul_comm, zero-lt-suc, not-le_of_lt, lt_of_lt_of_le, le_trans, le_of_eq, mul-le-mul_right, mul-lt-mul_of_pos_right, mul-le-mul, ℤ, lit<, lit≤, leb, ltb→lt, leb→le, inf, fin, binary64, up, down, size, fits, to_bits, down_pos}
use mathlib.Core.Path.{subst₂}
use native.Mathlib.Nat.{lt_trans, mod-eq_of_lt, pow-suc, one-le-pow, sub-add_cancel, mul_assoc, mul_right_comm, lt_of_le_of_lt, lt_of_mul-lt-mul_right, eq_of_mul-eq-mul_right, div-eq_of_eq-mul_left, le-div_iff_mul-le}
use lib.Count.{count_leading_zeros, leading_top}
use lib.Pow.{shl_lt, pow-add, pow_pos, pow_mono}
use lib.Ieee.{is_nan}
use lib.Ieee.Digits.{size-lt, size-le, size_reaches}
use lib.Ieee.Fits.{kept-lt}
use lib.Ieee.Positive.{num, den, positive, den_pos}
use Rattle.binary64.specs.Root.{square, Rooted, count, half, radicand}
use Rattle.binary64.specs.Inner.RootDigits.{Digits, Scaled, WholeRoot}
use Rattle.binary64.proofs.Floats.{exponent, four}
use Rattle.binary64.proofs.WholeRoots.{same-root, root_below, root-above}

-- ---- how many digits

size_is : (n j : ℕ) → 2 ^ j ≤ n → n < 2 ^ suc j → size n ≡ suc j
size_is n j h l =
    let no : ¬ (size n ≤ j) = (λ (g : size n ≤ j). not-le_of_lt (size-lt n) (le_trans (pow_mono g) h)) in
    let most : size n ≤ suc j = size-le n (suc j) l in
    omega arith

pub size-moved : (m j k : ℕ) → 2 ^ j ≤ m → m < 2 ^ suc j → size (m * 2 ^ k) ≡ suc (j + k)
size-moved m j k h l =
    size_is (m * 2 ^ k) (j + k)
    (rw pow-add (mul-le-mul_right (2 ^ k) h))
    (lt_of_lt_of_le (mul-lt-mul_of_pos_right l (pow_pos k)) (le_of_eq (sym (pow-add 2 (suc j) k) ∙ ap (λ (x : ℕ). 2 ^ x) (omega arith))))

pow_le_back : (i j : ℕ) → 2 ^ i < 2 ^ j → i < j
pow_le_back i j h =
    let no : ¬ (j ≤ i) = (λ (g : j ≤ i). not-le_of_lt h (pow_mono g)) in
    omega arith

-- ---- the digits of a number of binary64

-- m * 2 ^ e is m * 2 ^ j times the smallest positive value
pub moved : (s : Bool) (m : ℕ) (e : ℤ) → T (fits binary64 (fin s (suc m) e)) → (j : ℕ) × (suc m * up e * 2 ^ 1074 ≡ suc m * 2 ^ j * down e) × (suc m < 2 ^ 53) × (suc m * 2 ^ j < 2 ^ 2098)
unfolding fits
moved s m e h =
    let n = suc m * up e in
    let (small, not_low, not-high) = four (eqb (suc m % 2) 1) (ltb (suc m) (2 ^ 53)) (leb (down e) (2 ^ 1074)) (ltb n (2 ^ 1024 * down e)) h in
    let (j, p) = exponent e 1074 (leb→le (down e) (2 ^ 1074) not_low) in
    let q : n * 2 ^ 1074 ≡ suc m * 2 ^ j * down e = mul_assoc (suc m) (up e) (2 ^ 1074) ∙ ap (λ (x : ℕ). suc m * x) p ∙ sym (mul_assoc (suc m) (2 ^ j) (down e)) in
    let top : 2 ^ 1024 * down e * 2 ^ 1074 ≡ 2 ^ 2098 * down e = mul_right_comm (2 ^ 1024) (down e) (2 ^ 1074) in (
      j,
      q,
      ltb→lt (suc m) (2 ^ 53) small,
      lt_of_mul-lt-mul_right (down e) (rw (← q, ← top) (mul-lt-mul_of_pos_right (ltb→lt n (2 ^ 1024 * down e) not-high) (pow_pos 1074))),
    )

parted : (m j n : ℕ) → n ≡ m * 2 ^ j → 0 < m → m < 2 ^ 53 → n < 2 ^ 2098 → Digits n (n / 2 ^ (size n - 53)) (size n - 53)
parted m j n e p h t =
    let k = size n - 53 in
    let most : size n ≤ 53 + j = size-le n (53 + j) (rw (e, pow-add) (mul-lt-mul_of_pos_right h (pow_pos j))) in
    let fewer : k ≤ j = omega arith in
    let whole : n ≡ m * 2 ^ (j - k) * 2 ^ k = e ∙ ap (λ (x : ℕ). m * x) (ap (λ (x : ℕ). 2 ^ x) (sym (sub-add_cancel fewer)) ∙ pow-add 2 (j - k) k) ∙ sym (mul_assoc m (2 ^ (j - k)) (2 ^ k)) in
    let a : n / 2 ^ k ≡ m * 2 ^ (j - k) = div-eq_of_eq-mul_left (pow_pos k) whole in
    let high : size n ≤ 2098 = size-le n 2098 t in
    record { value = whole ∙ ap (λ (x : ℕ). x * 2 ^ k) (sym a); some = rw a (mul-pos p (pow_pos (j - k))); few = kept-lt 53 n; moved = omega arith }

-- x is a number of smallest positive values, exactly, and this number's digits
pub counted : (x : Float) → T (positive x) → T (fits binary64 x)
    → (num x * 2 ^ 1074 ≡ count x * den x) × Digits (count x) (count x / 2 ^ (size (count x) - 53)) (size (count x) - 53)
counted nan p h = absurd p
counted (inf s) p h = absurd p
counted (fin true m e) p h = absurd p
counted (fin false zero e) p h = absurd p
counted (fin false (suc m) e) p h =
    let (j, q, few, top) = moved false m e h in
    let n : count (fin false (suc m) e) ≡ suc m * 2 ^ j = div-eq_of_eq-mul_left (down_pos e) q in
    (q ∙ ap (λ (x : ℕ). x * down e) (sym n), parted (suc m) j (count (fin false (suc m) e)) n (zero-lt-suc m) few (rw n top))

-- ---- and its bits: the field is 0 or 1 where the number is its own digits

bits_are : (x : Float) → T (positive x) → to_bits binary64 x ≡ (size (count x) - 53) * 2 ^ 52 + count x / 2 ^ (size (count x) - 53)
unfolding to_bits
bits_are nan p = absurd p
bits_are (inf s) p = absurd p
bits_are (fin true m e) p = absurd p
bits_are (fin false m e) p = rw zero-add refl

leading : (n : ℕ) → 0 < size n - 53 → 2 ^ 52 ≤ n / 2 ^ (size n - 53)
leading n h =
    let k = size n - 53 in
    let e : size n - 1 ≡ 52 + k = omega arith in
    let g : 2 ^ (52 + k) ≤ n = rw (← e) (size_reaches n (size n - 1) (omega arith)) in
    (le-div_iff_mul-le (pow_pos k)).1 (rw pow-add at g)

own_bits : (b k a : ℕ) → b ≡ k * 2 ^ 52 + a → a < 2 ^ 53 → (0 < k → 2 ^ 52 ≤ a) → b < 2 ^ 53 → (k ≡ 0) × (a ≡ b)
own_bits b zero a e h l t = (refl, omega arith)
own_bits b (suc k) a e h l t = absurd (let g = l (zero-lt-suc k) in omega arith)

field-bits : (b k a : ℕ) → b ≡ k * 2 ^ 52 + a → a < 2 ^ 53 → (0 < k → 2 ^ 52 ≤ a) → 2 ^ 53 ≤ b → (b % 2 ^ 52 + 2 ^ 52 ≡ a) × (b / 2 ^ 52 - 1 ≡ k)
field-bits b zero a e h l t = absurd (omega arith)
field-bits b (suc k) a e h l t = let g = l (zero-lt-suc k) in omega arith

pub not-nan : (x : Float) → T (positive x) → T (not (is_nan x))
unfolding is_nan
not-nan nan p = p
not-nan (inf s) p = tt
not-nan (fin s m e) p = tt

module _ (x : Float) (p : T (positive x)) (h : T (fits binary64 x)) where
  -- its digits, where the bits b are below 2 ^ 53, and from there on
  pub own-digits : to_bits binary64 x < 2 ^ 53 → Digits (count x) (to_bits binary64 x) 0
  own-digits t =
      let d = (counted x p h).1 in
      let (k, a) = own_bits (to_bits binary64 x) (size (count x) - 53) (count x / 2 ^ (size (count x) - 53)) (bits_are x p) d.few (leading (count x)) t in
      subst₂ (λ (a k : ℕ). Digits (count x) a k) a k d

  pub field-digits : 2 ^ 53 ≤ to_bits binary64 x → Digits (count x) (to_bits binary64 x % 2 ^ 52 + 2 ^ 52) (to_bits binary64 x / 2 ^ 52 - 1)
  field-digits t =
      let d = (counted x p h).1 in
      let (a, k) = field-bits (to_bits binary64 x) (size (count x) - 53) (count x / 2 ^ (size (count x) - 53)) (bits_are x p) d.few (leading (count x)) t in
      subst₂ (λ (a k : ℕ). Digits (count x) a k) (sym a) (sym k) d

-- ---- the radicand

pub four_is : (h : ℕ) → 4 ^ h ≡ 2 ^ h * 2 ^ h
four_is zero = refl
four_is (suc h) = let e = four_is h in rw (pow-suc 4 h, pow-suc 2 h) (omega arith)

module _ (m j k : ℕ) (least : 2 ^ j ≤ m) (below : m < 2 ^ suc j) (few : j ≤ 52) (high : k ≤ 2045) where
  -- by how much the digits are moved, and how many digits the root has
  abbrev move : ℕ
  move = 53 - j - suc (j + k) % 2

  abbrev digits-of-root : ℕ
  digits-of-root = (suc (j + k) + 1) / 2

  halved : half (m * 2 ^ k) ≡ digits-of-root
  unfolding half
  halved = rw (size-moved m j k least below)

  moves : k + 106 ≡ move + 52 + (digits-of-root + digits-of-root)
  moves = omega arith

  powers : 2 ^ k * 2 ^ 106 ≡ 2 ^ move * 2 ^ 52 * 4 ^ digits-of-root
  powers =
      sym (pow-add 2 k 106) ∙ ap (λ (x : ℕ). 2 ^ x) moves ∙ pow-add 2 (move + 52) (digits-of-root + digits-of-root)
      ∙ ap₂ (λ (x y : ℕ). x * y) (pow-add 2 move 52) (pow-add 2 digits-of-root digits-of-root ∙ sym (four_is digits-of-root))

  exact : m * 2 ^ k * 4 ^ 53 ≡ m * 2 ^ move * 2 ^ 52 * 4 ^ digits-of-root
  exact = mul_assoc m (2 ^ k) (4 ^ 53) ∙ ap (λ (x : ℕ). m * x) powers ∙ simp (mul_assoc, mul_comm)

  scaled-is : Scaled (m * 2 ^ k) (m * 2 ^ move) digits-of-root
  scaled-is = record {
    exact = exact;
    enough = le_trans (pow_mono {i = 52} {j = j + move} (omega arith)) (le_trans (le_of_eq (pow-add 2 j move)) (mul-le-mul_right (2 ^ move) least));
    few = lt_of_lt_of_le (shl_lt (suc j) move below) (pow_mono {i = suc j + move} {j = 54} (omega arith));
    below = omega arith;
  }

  -- the radicand and the half of the definition
  radicand-of : (radicand (m * 2 ^ k) ≡ m * 2 ^ move * 2 ^ 52) × (half (m * 2 ^ k) ≡ digits-of-root)
  unfolding radicand
  radicand-of = (div-eq_of_eq-mul_left (one-le-pow (half (m * 2 ^ k)) 4 (zero-lt-suc 3)) (rw halved exact), halved)

-- the code counts the zeros before the digits
pub zeros-before : (m : ℕ) → 0 < m → m < 2 ^ 53 → (j : ℕ) × (count_leading_zeros 64 m ≡ 63 - j) × (2 ^ j ≤ m) × (m < 2 ^ suc j) × (j ≤ 52)
zeros-before m p h =
    let (j, e, l, t) = leading_top 64 m p (lt_of_lt_of_le h (lit≤ tt)) in
    let few : j < 53 = pow_le_back j 53 (lt_of_le_of_lt l h) in
    (j, omega arith, l, t, omega arith)

pub scaled-as : (m k z : ℕ) → 0 < m → m < 2 ^ 53 → k ≤ 2045 → count_leading_zeros 64 m ≡ z → Scaled (m * 2 ^ k) (m * 2 ^ (z - 10 - (64 - z + k) % 2) % 2 ^ 64) ((64 - z + k + 1) / 2)
scaled-as m k z p h high y =
    let (j, e, l, t, few) = zeros-before m p h in
    let s = scaled-is m j k l t few high in
    let d : suc (j + k) ≡ 64 - z + k = omega arith in
    let w : 53 - j ≡ z - 10 = omega arith in
    let u : m * 2 ^ (53 - j - suc (j + k) % 2) ≡ m * 2 ^ (z - 10 - (64 - z + k) % 2) % 2 ^ 64 =
    sym (mod-eq_of_lt (lt_trans s.few (lit< tt))) ∙ ap₂ (λ (x y : ℕ). m * 2 ^ (x - y % 2) % 2 ^ 64) w d in
    subst₂ (λ (x y : ℕ). Scaled (m * 2 ^ k) x y) u (ap (λ (x : ℕ). (x + 1) / 2) d) s

-- nothing is lost
pub radicand-is : (n m k : ℕ) → Digits n m k → (z : ℕ) × (radicand n ≡ z * 2 ^ 52) × Scaled n z (half n)
radicand-is n m k d =
    let (j, e, l, t, few) = zeros-before m d.some d.few in
    let (r, h) = radicand-of m j k l t few d.moved in
    rw d.value (m * 2 ^ move m j k l t few d.moved, r, rw h (scaled-is m j k l t few d.moved))

-- ---- what the second step promises, from a number n of smallest positive values and the whole root of its radicand

pub rooted-of : (x : Float) (n m h q r : ℕ) → num x * 2 ^ 1074 ≡ n * den x → Scaled n m h → WholeRoot (m * 2 ^ 52) q r → Rooted x q r h
rooted-of x n m h q r e s w =
    let M = m * 2 ^ 52 in
    let enough = s.enough in let few = s.few in let small = w.small in
    record {
      exact = exact (num x) (den x) M (4 ^ h) (2 ^ 1074) (4 ^ 53) (4 ^ 590) e s.exact refl ∙ ap (λ (y : ℕ). y * 4 ^ h * den x) (sym w.whole);
      rest = omega arith;
      least = root-above M q r (2 ^ 52) w (omega arith);
      most = root_below M q r (2 ^ 53) w (omega arith);
      few = s.below;
    }
  where
    exact : (a b M f v g z : ℕ) → a * v ≡ n * b → n * g ≡ M * f → z ≡ v * g → a * z ≡ M * f * b
    exact a b M f v g z e l p = omega (arith, ap (λ (y : ℕ). y * g) e, ap (λ (y : ℕ). y * b) l, ap (λ (y : ℕ). a * y) p)

-- ---- and it has one answer

scale-less : (M h N k : ℕ) → M < 2 ^ 106 → 2 ^ 104 ≤ N → h < k → M * 4 ^ h < N * 4 ^ k
scale-less M h N k a b l =
    let two : 2 * 2 ^ h ≤ 2 ^ k = le_trans (le_of_eq (omega (arith, pow-suc 2 h))) (pow_mono l) in
    let four : 4 * 4 ^ h ≤ 4 ^ k = rw (four_is h, four_is k) (omega (arith, mul-le-mul two two)) in
    lt_of_lt_of_le (mul-lt-mul_of_pos_right a (one-le-pow h 4 (zero-lt-suc 3))) (le_trans (omega arith) (mul-le-mul b four))

pub rooted-only : (x : Float) (q r h p s k : ℕ) → Rooted x q r h → Rooted x p s k → (q ≡ p) × (r ≡ s) × (h ≡ k)
rooted-only x q r h p s k v w =
    let M = square q + r in
    let N = square p + s in
    let e : M * 4 ^ h ≡ N * 4 ^ k = eq_of_mul-eq-mul_right (den x) (den_pos x) (M * 4 ^ h) (N * 4 ^ k) (sym v.exact ∙ w.exact) in
    let m = bounds q r h v in
    let n = bounds p s k w in
    let a : ¬ (h < k) = (λ (l : h < k). lt-ne (scale-less M h N k m.1 n.0 l) e) in
    let b : ¬ (k < h) = (λ (l : k < h). lt-ne (scale-less N k M h n.1 m.0 l) (sym e)) in
    let same : h ≡ k = omega arith in
    let f : M ≡ N = eq_of_mul-eq-mul_right (4 ^ k) (one-le-pow k 4 (zero-lt-suc 3)) M N (rw same at e) in
    let root : q ≡ p = same-root N q r p s (record { whole = f; small = v.rest }) (record { whole = refl; small = w.rest }) in
    (root, omega (arith, ap square root), same)
  where
    lt-ne : {a b : ℕ} → a < b → a ≡ b → ⊥
    lt-ne l e = omega arith

    bounds : (q r h : ℕ) → Rooted x q r h → (2 ^ 104 ≤ square q + r) × (square q + r < 2 ^ 106)
    bounds q r h w =
        let rest = w.rest in
        omega (arith, mul-le-mul w.least w.least, mul-le-mul w.most w.most)
