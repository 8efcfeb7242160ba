-- Numbers that are not negative, NaN among them or not: which they are, and their order.
--     square-not-negative, square-no-nan     squares, and those of finite numbers, are such numbers
--     sum-not-negative, sum-unsigned         sums of two such numbers are
--     lt-asym, lt_irrefl                     where x is below y, y is not below x; no x is below itself
--     lt-apart                               where x is below z, y is above x, below z, or NaN
use Rattle.prelude.proofs.Prelude.{◌≡◌, refl, sym, subst, Bool, true, false, not, cond, ◌⊎◌, inl, inr, ℕ, zero, suc, ◌+◌, ◌*◌, ◌≤◌, ◌<◌, T, ltb, Float, nan, ◌^◌, mul-le-mul_right, mul-lt-mul_of_pos_right, not-le_of_lt, ltb→lt, lt→ltb, inf, fin, Format, up, down, odd, units, round, sum, add, mul, lt, down_pos, finite}
use native.Mathlib.Nat.{mul_right_comm, lt_of_mul-lt-mul_right, lt_of_le_of_lt, le_of_lt}
use lib.Dec.{T_not, not_T, nltb→le}
use lib.Ieee.{low, prec, emax}
use lib.Ieee.Fits.{round_is}

-- not negative; of NaN what P says
abbrev pub Unsigned : Type 0 → Float → Type 0
Unsigned P nan = P
Unsigned P (inf s) = T (not s)
Unsigned P (fin s m e) = T (not s)

abbrev pub NotNegative : Float → Type 0
NotNegative x = Unsigned (Unit {0}) x

-- ---- squares and sums

module _ (P : Type 0) where
  odd-unsigned : (d q k l : ℕ) → Unsigned P (odd d false q k l)
  unfolding odd
  odd-unsigned d zero k l = tt
  odd-unsigned d (suc q) k l = tt

  pick : (b : Bool) (x y : Float) → Unsigned P x → Unsigned P y → Unsigned P (cond b x y)
  pick true x y h k = h
  pick false x y h k = k

  units-unsigned : (f : Format) (q k : ℕ) → Unsigned P (units f false q k)
  unfolding units
  units-unsigned f q k =
      pick (ltb (q * 2 ^ k) (2 ^ (low f + suc (emax f)))) (odd (suc (prec f)) false q k (low f)) (inf false) (odd-unsigned (suc (prec f)) q k (low f)) tt

  round-unsigned : (f : Format) (a c : ℕ) → Unsigned P (round f false a c)
  round-unsigned f a c = subst (Unsigned P) (sym (round_is f false a c)) (units-unsigned f _ _)

  pub sum-unsigned : (f : Format) (x y : Float) → Unsigned P x → Unsigned P y → Unsigned P (add f x y)
  unfolding add sum
  sum-unsigned f nan y h k = h
  sum-unsigned f (inf true) y h k = absurd h
  sum-unsigned f (inf false) nan h k = k
  sum-unsigned f (inf false) (inf true) h k = absurd k
  sum-unsigned f (inf false) (inf false) h k = tt
  sum-unsigned f (inf false) (fin t n d) h k = tt
  sum-unsigned f (fin s m e) nan h k = k
  sum-unsigned f (fin s m e) (inf t) h k = k
  sum-unsigned f (fin true m e) (fin t n d) h k = absurd h
  sum-unsigned f (fin false m e) (fin true n d) h k = absurd k
  sum-unsigned f (fin false m e) (fin false n d) h k = round-unsigned f _ _

pub square-not-negative : (f : Format) (x : Float) → NotNegative (mul f x x)
unfolding mul
square-not-negative f nan = tt
square-not-negative f (inf true) = tt
square-not-negative f (inf false) = tt
square-not-negative f (fin true m e) = round-unsigned _ f _ _
square-not-negative f (fin false m e) = round-unsigned _ f _ _

pub square-no-nan : (f : Format) (x : Float) → T (finite x) → Unsigned ⊥ (mul f x x)
unfolding mul
square-no-nan f nan h = h
square-no-nan f (inf s) h = absurd h
square-no-nan f (fin true m e) h = round-unsigned ⊥ f _ _
square-no-nan f (fin false m e) h = round-unsigned ⊥ f _ _

pub sum-not-negative : (f : Format) (x y : Float) → NotNegative x → NotNegative y → NotNegative (add f x y)
sum-not-negative f x y = sum-unsigned (Unit {0}) f x y

-- ---- the order

pub below_nan : (x : Float) → T (not (lt x nan))
unfolding lt
below_nan nan = tt
below_nan (inf s) = tt
below_nan (fin s m e) = tt

not-below : (a b : ℕ) → T (ltb a b) → T (not (ltb b a))
not-below a b h = not_T (ltb b a) (λ (t : T (ltb b a)). not-le_of_lt (ltb→lt a b h) (le_of_lt (ltb→lt b a t)))

pub lt-asym : (x y : Float) → NotNegative x → NotNegative y → T (lt x y) → T (not (lt y x))
unfolding lt
lt-asym nan y h k l = absurd l
lt-asym (inf true) y h k l = absurd h
lt-asym (inf false) nan h k l = absurd l
lt-asym (inf false) (inf t) h k l = absurd l
lt-asym (inf false) (fin t n d) h k l = absurd l
lt-asym (fin s m e) nan h k l = absurd l
lt-asym (fin s m e) (inf true) h k l = absurd k
lt-asym (fin s m e) (inf false) h k l = tt
lt-asym (fin true m e) (fin t n d) h k l = absurd h
lt-asym (fin false m e) (fin true n d) h k l = absurd k
lt-asym (fin false m e) (fin false n d) h k l = not-below (m * up e * down d) (n * up d * down e) l

pub lt_irrefl : (x : Float) → NotNegative x → T (not (lt x x))
lt_irrefl x h = not_T (lt x x) (λ (t : T (lt x x)). T_not (lt x x) (lt-asym x x h h t) t)

-- a/b < p/q has any c/d above the one or below the other
apart : (a b c d p q : ℕ) → 0 < d → a * q < p * b → T (ltb (a * d) (c * b)) ⊎ T (ltb (c * q) (p * d))
apart a b c d p q h l = go (ltb (a * d) (c * b)) (nltb→le (a * d) (c * b))
  where
    go : (t : Bool) → (T (not t) → c * b ≤ a * d) → T t ⊎ T (ltb (c * q) (p * d))
    go true f = inl tt
    go false f =
        let low : c * b * q ≤ a * d * q = mul-le-mul_right q (f tt) in
        let high : a * q * d < p * b * d = mul-lt-mul_of_pos_right l h in
        inr (lt→ltb (c * q) (p * d) (lt_of_mul-lt-mul_right b
        (rw (mul_right_comm c q b, mul_right_comm p d b) (lt_of_le_of_lt (rw (mul_right_comm a d q) at low) high))))

pub lt-apart : (x y z : Float) → NotNegative x → NotNegative y → NotNegative z → T (lt x z) → T (lt x y) ⊎ (T (lt y z) ⊎ (y ≡ nan))
unfolding lt
lt-apart nan y z h i j l = absurd l
lt-apart (inf true) y z h i j l = absurd h
lt-apart (inf false) y nan h i j l = absurd l
lt-apart (inf false) y (inf t) h i j l = absurd l
lt-apart (inf false) y (fin t k g) h i j l = absurd l
lt-apart (fin true m e) y z h i j l = absurd h
lt-apart (fin false m e) nan z h i j l = inr (inr refl)
lt-apart (fin false m e) (inf true) z h i j l = absurd i
lt-apart (fin false m e) (inf false) z h i j l = inl tt
lt-apart (fin false m e) (fin true n d) z h i j l = absurd i
lt-apart (fin false m e) (fin false n d) nan h i j l = absurd l
lt-apart (fin false m e) (fin false n d) (inf true) h i j l = absurd j
lt-apart (fin false m e) (fin false n d) (inf false) h i j l = inr (inl tt)
lt-apart (fin false m e) (fin false n d) (fin true k g) h i j l = absurd j
lt-apart (fin false m e) (fin false n d) (fin false k g) h i j l =
    elim (apart (m * up e) (down e) (n * up d) (down d) (k * up g) (down g) (down_pos d) (ltb→lt (m * up e * down g) (k * up g * down e) l)) [
      | inl t ↦ inl t
      | inr t ↦ inr (inl t)
    ]
