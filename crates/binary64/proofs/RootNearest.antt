-- The root is the binary64 nearest the exact root, and nothing else is: `root_is` and `root-only`. It follows from what the three steps promise:
-- `root-of-steps`.
use Rattle.prelude.proofs.Prelude.{◌≡◌, refl, sym, ap, ◌∙◌, subst, true, false, inl, inr, ℕ, zero, suc, ◌+◌, ◌-◌, ◌*◌, ◌≤◌, ◌<◌, arith, T, Float, nan, ◌^◌, zero-mul, mul-pos, mul_comm, mul-le-mul, mul-le-mul_left, mul-le-mul_right, mul-lt-mul_of_pos_right, le_trans, le_of_eq, not-le_of_lt, zero-lt-suc, lt_irrefl, ℤ, ltb→lt, lt→ltb, inf, fin, binary64, up, down, fits, lt, down_pos}
use Prim.Native.Nat.{zero-le}
use native.Mathlib.Nat.{mul_assoc, mul_left_comm, lt_of_mul-lt-mul_right, le_of_lt, lt_of_not-le, sub-add_cancel, pow-suc, lt_trans, add_comm, mul-mul-mul_comm}
use native.Mathlib.Decide.{dec_le}
use lib.Pow.{pow-add, pow_pos, pow_mono}
use lib.Ieee.Positive.{num, den, positive, den_pos, value→cross, positive_of_value}
use Rattle.binary64.specs.Root.{square, MiddleBelow, MiddleAbove, NearestRoot, Root, Rooted, RootSteps, first_alone, all_three, whole_root, count, half, radicand, nearest_whole, moved_back, root_of, root}
use Rattle.binary64.specs.Inner.RootDigits.{WholeRoot}
use Rattle.binary64.proofs.WholeRoots.{whole-root}
use Rattle.binary64.proofs.RootSpecial.{special-is, ordinary-is}
use Rattle.binary64.proofs.RootDigits.{moved, counted, four_is, radicand-is, rooted-of}
use Rattle.binary64.proofs.RootRounding.{moved_value, moved-fits, nearest-le}
use Rattle.binary64.proofs.RootMiddles.{Apart, below-middle, above-middle}
use Rattle.binary64.proofs.Floats.{one_way}

-- ---- binary64 has nothing between q and q + 1 times 2 ^ k, for a q of 53 digits or more

grid : (m j k d q : ℕ) → m < 2 ^ 53 → 2 ^ 52 ≤ q → Apart q (2 ^ k * d) (m * 2 ^ j * d)
grid m j k d q few least = go (dec_le k j)
  where
    go : Dec (k ≤ j) → Apart q (2 ^ k * d) (m * 2 ^ j * d)
    go (yes h) =
        let c = m * 2 ^ (j - k) in
        let e : m * 2 ^ j * d ≡ c * (2 ^ k * d) = ap (λ (x : ℕ). m * x * d) (ap (λ (x : ℕ). 2 ^ x) (sym (sub-add_cancel h)) ∙ pow-add 2 (j - k) k) ∙ omega arith in
        elim (dec_le c q) [
          | yes l ↦ inl (le_trans (le_of_eq e) (mul-le-mul_right (2 ^ k * d) l))
          | no l ↦ inr (le_trans (mul-le-mul_right (2 ^ k * d) (omega arith)) (le_of_eq (sym e)))
        ]
    go (no h) =
        let s : 2 ^ suc j ≤ 2 ^ k = pow_mono (lt_of_not-le h) in
        let t : m * 2 ^ j ≤ 2 ^ 53 * 2 ^ j = mul-le-mul_right (2 ^ j) (le_of_lt few) in
        let u : 2 ^ 52 * 2 ^ k ≤ q * 2 ^ k = mul-le-mul_right (2 ^ k) least in
        let v : m * 2 ^ j ≤ q * 2 ^ k = omega (arith, pow-suc 2 j) in
        inl (le_trans (mul-le-mul_right d v) (le_of_eq (mul_assoc q (2 ^ k) d)))

apart : (m : ℕ) (e : ℤ) → T (fits binary64 (fin false m e)) → (q k : ℕ) → 2 ^ 52 ≤ q → Apart q (2 ^ k * down e) (m * up e * 2 ^ 1074)
apart zero e h q k least = inl (le_trans (le_of_eq (simp zero-mul)) zero-le)
apart (suc m) e h q k least =
    let (j, p, few, top) = moved false m e h in
    subst (λ (y : ℕ). Apart q (2 ^ k * down e) y) (sym p) (grid (suc m) j k (down e) q few least)

-- ---- from multiples of u / v to fractions: x is M (u / v)², r is Q u / v, and y is whatever n / d

module _ (a b c d n k M Q u v : ℕ) (x : a * (v * v) ≡ M * (u * u) * b) (r : c * v ≡ Q * u * d) where
  sum_is : (n * d + c * k) * v ≡ (n * v + Q * (u * k)) * d
  sum_is = let e = ap (λ (z : ℕ). z * k) r in omega arith

  squares : square (n * d + c * k) * b * (v * v) ≡ square (n * v + Q * (u * k)) * (d * d * b)
  squares =
      let s = n * d + c * k in
      let t = n * v + Q * (u * k) in
      regroup s v b ∙ ap (λ (z : ℕ). z * z * b) sum_is ∙ sym (regroup' t d b)
    where
      regroup : (s v b : ℕ) → s * s * b * (v * v) ≡ s * v * (s * v) * b
      regroup s v b = simp (mul_assoc, mul_comm, mul_left_comm)

      regroup' : (t d b : ℕ) → t * t * (d * d * b) ≡ t * d * (t * d) * b
      regroup' t d b = simp (mul_assoc, mul_left_comm)

  four-times : 4 * square (k * d) * a * (v * v) ≡ 4 * M * square (u * k) * (d * d * b)
  four-times = mul_assoc (4 * square (k * d)) a (v * v) ∙ ap (λ (z : ℕ). 4 * square (k * d) * z) x ∙ simp (mul_assoc, mul_comm, mul_left_comm)

  module _ (some : 0 < d * d * b) where
    fraction-below : square (n * v + Q * (u * k)) < 4 * M * square (u * k) → square (n * d + c * k) * b < 4 * square (k * d) * a
    fraction-below h = lt_of_mul-lt-mul_right (v * v) (rw (squares, four-times) (mul-lt-mul_of_pos_right h some))

    fraction-above : 4 * M * square (u * k) < square (n * v + Q * (u * k)) → 4 * square (k * d) * a < square (n * d + c * k) * b
    fraction-above h = lt_of_mul-lt-mul_right (v * v) (rw (squares, four-times) (mul-lt-mul_of_pos_right h some))

in-units-less : (y d c k v Q u : ℕ) → 0 < v → c * v ≡ Q * u * d → y * d < c * k → y * v * d < Q * (u * k) * d
in-units-less y d c k v Q u p r l = omega (arith, mul-lt-mul_of_pos_right l p, ap (λ (z : ℕ). z * k) r)

in-units-more : (y d c k v Q u : ℕ) → 0 < v → c * v ≡ Q * u * d → c * k < y * d → Q * (u * k) * d < y * v * d
in-units-more y d c k v Q u p r l = omega (arith, mul-lt-mul_of_pos_right l p, ap (λ (z : ℕ). z * k) r)

-- ---- the order of fractions

below→cross : (m : ℕ) (e : ℤ) (r : Float) → T (positive r) → T (lt (fin false m e) r) → m * up e * den r < num r * down e
unfolding lt
below→cross m e nan p t = absurd p
below→cross m e (inf s) p t = absurd p
below→cross m e (fin true n d) p t = absurd p
below→cross m e (fin false n d) p t = ltb→lt (m * up e * down d) (n * up d * down e) t

above→cross : (m : ℕ) (e : ℤ) (r : Float) → T (positive r) → T (lt r (fin false m e)) → num r * down e < m * up e * den r
unfolding lt
above→cross m e nan p t = absurd p
above→cross m e (inf s) p t = absurd p
above→cross m e (fin true n d) p t = absurd p
above→cross m e (fin false n d) p t = ltb→lt (n * up d * down e) (m * up e * down d) t

-- ---- what the second and the third step promise is nearest the root

module _ (x : Float) (q s h : ℕ) (w : Rooted x q s h) where
  -- x is M (u / v)² and r is Q u / v, for v = 2 ^ 1074
  abbrev M : ℕ
  M = square q + s

  abbrev Q : ℕ
  Q = nearest_whole q s

  abbrev u : ℕ
  u = 2 ^ (h + 484)

  abbrev r : Float
  r = moved_back Q h

  units : u * u ≡ 4 ^ h * 2 ^ 968
  units = rw (pow-add, four_is) (mul-mul-mul_comm (2 ^ h) (2 ^ 484) (2 ^ h) (2 ^ 484))

  value : num x * (2 ^ 1074 * 2 ^ 1074) ≡ M * (u * u) * den x
  value = scale (num x) (den x) M (4 ^ h) (4 ^ 590) (2 ^ 968) (2 ^ 1074 * 2 ^ 1074) (u * u) w.exact refl (sym units)
    where
      scale : (a b M f g c v z : ℕ) → a * g ≡ M * f * b → v ≡ g * c → f * c ≡ z → a * v ≡ M * z * b
      scale a b M f g c v z e p t = omega (arith, ap (λ (y : ℕ). y * c) e, ap (λ (y : ℕ). a * y) p, ap (λ (y : ℕ). M * b * y) t)

  cross : num r * 2 ^ 1074 ≡ Q * u * den r
  cross = value→cross r (Q * u) (2 ^ 1074) (moved_value Q h)

  some : 0 < den r * den r * den x
  some = mul-pos (mul-pos (den_pos r) (den_pos r)) (den_pos x)

  module _ (m : ℕ) (e : ℤ) (f : T (fits binary64 (fin false m e))) where
    abbrev k : ℕ
    k = down e

    abbrev y : ℕ
    y = m * up e

    some-unit : 0 < u * k
    some-unit = mul-pos (pow_pos (h + 484)) (down_pos e)

    -- r and y in units of u / v
    less-unit : y * den r < num r * k → y * 2 ^ 1074 < Q * (u * k)
    less-unit l = lt_of_mul-lt-mul_right (den r) (in-units-less y (den r) (num r) k (2 ^ 1074) Q u (pow_pos 1074) cross l)

    more-unit : num r * k < y * den r → Q * (u * k) < y * 2 ^ 1074
    more-unit l = lt_of_mul-lt-mul_right (den r) (in-units-more y (den r) (num r) k (2 ^ 1074) Q u (pow_pos 1074) cross l)

    nearest-below : y * den r < num r * k → MiddleBelow x (fin false m e) r
    nearest-below l =
        fraction-below (num x) (den x) (num r) (den r) y k M Q u (2 ^ 1074) value cross some
        (below-middle q s (u * k) (y * 2 ^ 1074) w.rest some-unit (apart m e f q (h + 484) w.least) (less-unit l))

    nearest-above : num r * k < y * den r → MiddleAbove x (fin false m e) r
    nearest-above l =
        fraction-above (num x) (den x) (num r) (den r) y k M Q u (2 ^ 1074) value cross some
        (above-middle q s (u * k) (y * 2 ^ 1074) w.rest some-unit (apart m e f q (h + 484) w.least) (more-unit l))

  rooted-nearest : NearestRoot x r
  rooted-nearest =
      let (ge, le) = nearest-le q s in
      let least = w.least in let most = w.most in
      let p : T (positive r) = positive_of_value r (Q * u) (2 ^ 1074) (moved_value Q h) (mul-pos (omega arith) (pow_pos (h + 484))) in
      record {
        held = moved-fits Q h (omega arith) w.few;
        above = p;
        over = λ m e f l. nearest-below m e f (below→cross m e r p l);
        under = λ m e f l. nearest-above m e f (above→cross m e r p l);
      }

-- what the three steps promise is what is asked for
steps-are : (x r : Float) → RootSteps x r → Root x r
steps-are x r (first_alone e) = special-is x r e
steps-are x r (all_three e q s h w p) = ordinary-is x r e (subst (NearestRoot x) (sym p) (rooted-nearest x q s h w))

-- ---- `root` keeps the steps' promises

root-rooted : (x : Float) → T (positive x) → T (fits binary64 x)
    → Rooted x (whole_root 53 (radicand (count x))) (radicand (count x) - square (whole_root 53 (radicand (count x)))) (half (count x))
root-rooted x p f =
    let n = count x in
    let M = radicand n in
    let q = whole_root 53 M in
    let (units, d) = counted x p f in
    let (z, e, s) = radicand-is n _ _ d in
    let few = s.few in
    rooted-of x n z (half n) q (M - square q) units s (subst (λ (y : ℕ). WholeRoot y q (M - square q)) e (whole-root 53 M (omega arith)))

root-steps : (x : Float) → T (fits binary64 x) → RootSteps x (root x)
unfolding root root_of
root-steps nan f = first_alone refl
root-steps (inf true) f = first_alone refl
root-steps (inf false) f = first_alone refl
root-steps (fin s zero e) f = first_alone refl
root-steps (fin true (suc m) e) f = first_alone refl
root-steps (fin false (suc m) e) f = all_three refl _ _ _ (root-rooted (fin false (suc m) e) (lt→ltb 0 (suc m) (zero-lt-suc m)) f) refl

pub root_is : (x : Float) → T (fits binary64 x) → Root x (root x)
root_is x f = steps-are x (root x) (root-steps x f)

-- ---- and nothing else is

clash : (a b p q s t : ℕ) → 4 * square (t * q) * a < square (s * q + p * t) * b → square (p * t + s * q) * b < 4 * square (q * t) * a → ⊥
clash a b p q s t h l = lt_irrefl (4 * square (t * q) * a) (lt_trans h (rw (add_comm (p * t) (s * q), mul_comm q t) at l))

-- of two that are nearest neither is below the other
apart-never : (x : Float) (n k : ℕ) (d c : ℤ) → NearestRoot x (fin false n d) → NearestRoot x (fin false k c) → n * up d * down c < k * up c * down d → ⊥
unfolding lt
apart-never x n k d c v w h =
    clash (num x) (den x) (n * up d) (down d) (k * up c) (down c)
    (v.under k c w.held (lt→ltb (n * up d * down c) (k * up c * down d) h))
    (w.over n d v.held (lt→ltb (n * up d * down c) (k * up c * down d) h))

nearest-only : (x r z : Float) → NearestRoot x r → NearestRoot x z → r ≡ z
nearest-only x nan z v w = absurd v.above
nearest-only x (inf s) z v w = absurd v.above
nearest-only x (fin true n d) z v w = absurd v.above
nearest-only x (fin false n d) nan v w = absurd w.above
nearest-only x (fin false n d) (inf s) v w = absurd w.above
nearest-only x (fin false n d) (fin true k c) v w = absurd w.above
nearest-only x (fin false n d) (fin false k c) v w =
    let a : ¬ (n * up d * down c < k * up c * down d) = apart-never x n k d c v w in
    let b : ¬ (k * up c * down d < n * up d * down c) = apart-never x k n c d w v in
    one_way binary64 false n d k c v.held w.held (omega arith)

pub root-only : (x r : Float) → T (fits binary64 x) → Root x r → r ≡ root x
root-only nan r h e = e ∙ sym (root_is nan h)
root-only (inf true) r h e = e ∙ sym (root_is (inf true) h)
root-only (inf false) r h e = e ∙ sym (root_is (inf false) h)
root-only (fin s zero e) r h p = p ∙ sym (root_is (fin s zero e) h)
root-only (fin true (suc m) e) r h p = p ∙ sym (root_is (fin true (suc m) e) h)
root-only (fin false (suc m) e) r h p = nearest-only (fin false (suc m) e) r (root (fin false (suc m) e)) p (root_is (fin false (suc m) e) h)

-- ---- and it is not below a number whose square is at most x

middle-most : (a b c d n k : ℕ) → n * n * b ≤ a * (k * k) → c * k ≤ n * d → square (n * d + c * k) * b ≤ 4 * square (k * d) * a
middle-most a b c d n k h l =
    let s : n * d + c * k ≤ 2 * (n * d) = omega arith in
    omega (arith, mul-le-mul_right b (mul-le-mul s s), mul-le-mul_left (4 * (d * d)) h)

pub root-least : (x r : Float) (n : ℕ) (e : ℤ) → NearestRoot x r → T (fits binary64 (fin false n e)) → n * up e * (n * up e) * den x ≤ num x * (down e * down e) → T (lt r (fin false n e)) → ⊥
root-least x r n e v f h l =
    not-le_of_lt (v.under n e f l) (middle-most (num x) (den x) (num r) (den r) (n * up e) (down e) h (le_of_lt (above→cross n e r v.above l)))

-- ---- the root follows from what the three steps promise, and from nothing else

pub root-of-steps : (x r : Float) → T (fits binary64 x) → RootSteps x r → (r ≡ root x) × Root x r
root-of-steps x r f s = (root-only x r f (steps-are x r s), steps-are x r s)
