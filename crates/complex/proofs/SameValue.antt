-- Complex numbers with the same value: a ≋ b where each part is the same or both are zero. Products and quotients respect it, and a zero factor gives zero.
-- `≋→≈` and `≈→≋`: between finite numbers it is ≈, the machine's == part by part.
use Rattle.prelude.proofs.Prelude.{◌≡◌, refl, Bool, true, false, not, ◌&&◌, ◌⊎◌, inl, inr, ℕ, zero, suc, ◌+◌, ◌*◌, ◌<◌, T, Float, nan, zero-mul, zero-add, mul-pos, ℤ, lt→ltb, lit<, inf, fin, binary64, lt, fits, of_bits, up, down, down_pos, is_true, finite}
use lib.IntN.{negsuc}
use lib.Dec.{T_not}
use lib.Ieee.{below}
use lib.Ieee.Fits.{sub-fits, mul-fits, div-fits, up_pos}
use lib.Ieee.Bits.{is_false}
use Rattle.complex.specs.declared.Complex.{Complex}
use Rattle.complex.specs.Constants.{division_limit}
use Rattle.complex.specs.Arithmetic.{◌⊕◌, ◌⊖◌, ◌⊗◌, ◌⊘◌, cmul, cdiv, csub, sqmag}
use Rattle.complex.specs.Values.{◌≈◌, NonZero}
use Rattle.binary64.specs.Values.{is_zero}
use Rattle.binary64.proofs.Floats.{Zero, ◌≐◌, same, zeros, ≐-sym, ≐-trans, add_right, sub-right, mul-zero-left, mul-zero-right, div-zero, mul-cong, add_cong, sub-cong, div-cong, zero_of, ≐→eq, eq→≐, eq-zero, zero-eq}

abbrev pub Finite : Complex → Type 0
Finite c = T (finite c.re) × T (finite c.im)

-- a finite number of binary64: what two f64 that are no infinity and no NaN hold
abbrev pub Number : Complex → Type 0
Number c = Finite c × T (fits binary64 c.re) × T (fits binary64 c.im)

abbrev pub Fits : Complex → Type 0
Fits c = T (fits binary64 c.re) × T (fits binary64 c.im)

-- ---- the same value

infix 40 ◌≋◌
pub record ◌≋◌ (a b : Complex) : Type 0 where
  pub re : a.re ≐ b.re
  pub im : a.im ≐ b.im

pub ≋-refl : {a : Complex} → a ≋ a
≋-refl = record { re = same refl; im = same refl }

pub ≋-sym : {a b : Complex} → a ≋ b → b ≋ a
≋-sym p = record { re = ≐-sym p.re; im = ≐-sym p.im }

pub ≋-trans : {a b c : Complex} → a ≋ b → b ≋ c → a ≋ c
≋-trans p q = record { re = ≐-trans p.re q.re; im = ≐-trans p.im q.im }

pub ≋→≈ : {a b : Complex} → Finite a → a ≋ b → a ≈ b
≋→≈ h p = (≐→eq h.0 p.re, ≐→eq h.1 p.im)

pub ≈→≋ : {a b : Complex} → Number a → Number b → a ≈ b → a ≋ b
≈→≋ {a} {b} h k p = record {
  re = eq→≐ binary64 a.re b.re h.1 k.1 h.0.0 p.0;
  im = eq→≐ binary64 a.im b.im h.2 k.2 h.0.1 p.1;
}

-- ---- zero

pub record Null (a : Complex) : Type 0 where
  pub re : Zero a.re
  pub im : Zero a.im

pub nulls : {a b : Complex} → Null a → Null b → a ≋ b
nulls x y = record { re = zeros x.re y.re; im = zeros x.im y.im }

pub decide : (a : Complex) → Null a ⊎ NonZero a
decide a = go (is_zero a.re) (is_zero a.im) (eq-zero a.re) (eq-zero a.im)
  where
    go : (x y : Bool) → (T x → Zero a.re) → (T y → Zero a.im) → Null a ⊎ T (not (x && y))
    go true true f g = inl (record { re = f tt; im = g tt })
    go true false f g = inr tt
    go false true f g = inr tt
    go false false f g = inr tt

pub not-both : (a : Complex) → Null a → NonZero a → ⊥
not-both a z n = T_not (is_zero a.re && is_zero a.im) n (rw (is_true (is_zero a.re) (zero-eq a.re z.re)) (zero-eq a.im z.im))

pub null_of : {a b : Complex} → a ≋ b → Null b → Null a
null_of p z = record { re = zero_of p.re z.re; im = zero_of p.im z.im }

pub nonzero-of : {a b : Complex} → a ≋ b → NonZero b → NonZero a
nonzero-of {a} {b} p n = elim (decide a) [ inl z ↦ absurd (not-both b (null_of (≋-sym p) z) n) | inr m ↦ m ]

-- ---- x * y ± u * v

fit : (x y : Float) → T (fits binary64 (x ⊗ y))
fit x y = mul-fits binary64 x y

plus-zero : (x y u v : Float) → Zero (x ⊗ y) → Zero (u ⊗ v) → Zero (x ⊗ y ⊕ u ⊗ v)
plus-zero x y u v p q = zero_of (add_right binary64 (x ⊗ y) (u ⊗ v) (fit x y) q) p

minus-zero : (x y u v : Float) → Zero (x ⊗ y) → Zero (u ⊗ v) → Zero (x ⊗ y ⊖ u ⊗ v)
minus-zero x y u v p q = zero_of (sub-right binary64 (x ⊗ y) (u ⊗ v) (fit x y) q) p

-- ---- the products of the parts

pub record Congruent (a a' b b' : Complex) : Type 0 where
  pub re-re : a.re ⊗ b.re ≐ a'.re ⊗ b'.re
  pub im-im : a.im ⊗ b.im ≐ a'.im ⊗ b'.im
  pub re-im : a.re ⊗ b.im ≐ a'.re ⊗ b'.im
  pub im-re : a.im ⊗ b.re ≐ a'.im ⊗ b'.re

pub congruent : {a a' b b' : Complex} → Finite a → Finite a' → Finite b → Finite b' → a ≋ a' → b ≋ b' → Congruent a a' b b'
congruent h h' k k' p q = record {
  re-re = mul-cong binary64 h.0 h'.0 k.0 k'.0 p.re q.re;
  im-im = mul-cong binary64 h.1 h'.1 k.1 k'.1 p.im q.im;
  re-im = mul-cong binary64 h.0 h'.0 k.1 k'.1 p.re q.im;
  im-re = mul-cong binary64 h.1 h'.1 k.0 k'.0 p.im q.re;
}

pub record AllZero (a b : Complex) : Type 0 where
  pub re-re : Zero (a.re ⊗ b.re)
  pub im-im : Zero (a.im ⊗ b.im)
  pub re-im : Zero (a.re ⊗ b.im)
  pub im-re : Zero (a.im ⊗ b.re)

pub all-zero : (a b : Complex) → Finite a → Finite b → Null a ⊎ Null b → AllZero a b
all-zero a b h k (inl z) = record {
  re-re = mul-zero-left binary64 a.re b.re z.re k.0;
  im-im = mul-zero-left binary64 a.im b.im z.im k.1;
  re-im = mul-zero-left binary64 a.re b.im z.re k.1;
  im-re = mul-zero-left binary64 a.im b.re z.im k.0;
}
all-zero a b h k (inr z) = record {
  re-re = mul-zero-right binary64 a.re b.re h.0 z.re;
  im-im = mul-zero-right binary64 a.im b.im h.1 z.im;
  re-im = mul-zero-right binary64 a.re b.im h.0 z.im;
  im-re = mul-zero-right binary64 a.im b.re h.1 z.re;
}

-- ---- products

pub cmul-cong : {a a' b b' : Complex} → Congruent a a' b b' → cmul a b ≋ cmul a' b'
unfolding cmul
cmul-cong c = record {
  re = sub-cong binary64 (fit _ _) (fit _ _) (fit _ _) (fit _ _) c.re-re c.im-im;
  im = add_cong binary64 (fit _ _) (fit _ _) (fit _ _) (fit _ _) c.re-im c.im-re;
}

pub cmul-null : {a b : Complex} → AllZero a b → Null (cmul a b)
unfolding cmul
cmul-null {a} {b} z = record {
  re = minus-zero a.re b.re a.im b.im z.re-re z.im-im;
  im = plus-zero a.re b.im a.im b.re z.re-im z.im-re;
}

pub sqmag-cong : {b b' : Complex} → Congruent b b' b b' → sqmag b ≐ sqmag b'
unfolding sqmag
sqmag-cong c = add_cong binary64 (fit _ _) (fit _ _) (fit _ _) (fit _ _) c.re-re c.im-im

-- ---- quotients

-- what may be divided by
pub record Divisor (b : Complex) : Type 0 where
  pub number : Number b
  pub sum : T (finite (sqmag b))
  pub big : T (not (lt (sqmag b) division_limit))

limit_is : division_limit ≡ fin false 0x156e1fc2f8f359 (negsuc 1048)
unfolding division_limit of_bits
limit_is = refl

zero-lt : (x : Float) (n : ℕ) (d : ℤ) → 0 < n → Zero x → T (lt x (fin false n d))
unfolding lt
zero-lt nan n d h z = z
zero-lt (inf s) n d h z = absurd z
zero-lt (fin s (suc m) e) n d h z = absurd z
zero-lt (fin s zero e) n d h z = simp zero-mul (go s)
  where
    above : 0 < n * up d * down e
    above = mul-pos (mul-pos h (up_pos d)) (down_pos e)

    go : (s : Bool) → T (below s 0 false (n * up d * down e))
    go true = lt→ltb 0 (0 + n * up d * down e) (rw zero-add above)
    go false = lt→ltb 0 (n * up d * down e) above

zero-small : (x : Float) → Zero x → T (lt x division_limit)
zero-small x z = rw limit_is (zero-lt x 0x156e1fc2f8f359 (negsuc 1048) (lit< tt) z)

pub not-zero : {b : Complex} → Divisor b → Zero (sqmag b) → ⊥
not-zero {b} d z = T_not (lt (sqmag b) division_limit) d.big (zero-small (sqmag b) z)

quotient : Complex → Complex → Complex
quotient a b = record { re = (a.re ⊗ b.re ⊕ a.im ⊗ b.im) ⊘ sqmag b; im = (a.im ⊗ b.re ⊖ a.re ⊗ b.im) ⊘ sqmag b }

cdiv-is : (a b : Complex) → Divisor b → cdiv a b ≡ quotient a b
unfolding cdiv quotient
cdiv-is a b d = rw (is_false (lt (sqmag b) division_limit) d.big)

pub cdiv-cong : {a a' b b' : Complex} → Divisor b → Divisor b' → Congruent a a' b b' → sqmag b ≐ sqmag b' → cdiv a b ≋ cdiv a' b'
unfolding quotient
cdiv-cong {a} {a'} {b} {b'} d d' c p = rw (cdiv-is a b d, cdiv-is a' b' d') (record {
  re = div-cong binary64 d.sum d'.sum (not-zero d) (add_cong binary64 (fit _ _) (fit _ _) (fit _ _) (fit _ _) c.re-re c.im-im) p;
  im = div-cong binary64 d.sum d'.sum (not-zero d) (sub-cong binary64 (fit _ _) (fit _ _) (fit _ _) (fit _ _) c.im-re c.re-im) p;
})

pub cdiv-null : (a b : Complex) → Divisor b → AllZero a b → Null (cdiv a b)
unfolding quotient
cdiv-null a b d z = rw (cdiv-is a b d) (record {
  re = div-zero binary64 (a.re ⊗ b.re ⊕ a.im ⊗ b.im) (sqmag b) (plus-zero a.re b.re a.im b.im z.re-re z.im-im) d.sum (not-zero d);
  im = div-zero binary64 (a.im ⊗ b.re ⊖ a.re ⊗ b.im) (sqmag b) (minus-zero a.im b.re a.re b.im z.im-re z.re-im) d.sum (not-zero d);
})

-- a quotient's parts are numbers of binary64
pub cdiv-fits : (a b : Complex) → Divisor b → Fits (cdiv a b)
unfolding quotient
cdiv-fits a b d = rw (cdiv-is a b d) (div-fits binary64 _ _, div-fits binary64 _ _)

-- ---- differences

pub csub-null : (a b : Complex) → Number a → Null b → csub a b ≋ a
unfolding csub
csub-null a b h z = record { re = sub-right binary64 a.re b.re h.1 z.re; im = sub-right binary64 a.im b.im h.2 z.im }

pub csub-cong : {a a' b b' : Complex} → Number a → Number a' → Fits b → Fits b' → a ≋ a' → b ≋ b' → csub a b ≋ csub a' b'
unfolding csub
csub-cong h h' k k' p q = record {
  re = sub-cong binary64 h.1 h'.1 k.0 k'.0 p.re q.re;
  im = sub-cong binary64 h.2 h'.2 k.1 k'.1 p.im q.im;
}

pub csub-number : (a b : Complex) → Finite (csub a b) → Number (csub a b)
unfolding csub
csub-number a b h = (h, sub-fits binary64 _ _, sub-fits binary64 _ _)
