-- Laws of an f64's bits: a NaN is told by its bits or by itself, and printing what was read gives the same word, or 7ff8000000000000.
use Rattle.prelude.proofs.Prelude.{◌≡◌, refl, sym, ap, ◌∙◌, subst, Bool, true, false, not, ℕ, ◌≤◌, ◌<◌, T, Float, nan, ◌^◌, ◌%◌, true≢false, inf, fin, binary64, of_bits, to_bits, lt-ltb, le-ltb}
use mathlib.Core.Bool.{false≢true}
use lib.Ieee.{nan_bits, is_nan, ne}
use lib.Ieee.Bits.{nan_bits_is, nan_bits_above, to_bits-of_bits}
use lib.Ieee.Compare.{differs_from_itself, nan_differs}

abbrev pub nan_word : ℕ
nan_word = 0x7ff8000000000000

nan_is : (x : Float) → is_nan x ≡ true → x ≡ nan
unfolding is_nan
nan_is nan e = refl
nan_is (inf s) e = absurd (false≢true e)
nan_is (fin s m e) h = absurd (false≢true h)

is-nan-of : (w : ℕ) → nan_bits binary64 w ≡ true → of_bits binary64 w ≡ nan
is-nan-of w e = nan_is (of_bits binary64 w) (sym (nan_bits_is binary64 w) ∙ e)

-- by the bits
pub above-nan : (w : ℕ) → 0x7ff0000000000000 < w % 0x8000000000000000 → of_bits binary64 w ≡ nan
above-nan w h = is-nan-of w (nan_bits_above binary64 w ∙ lt-ltb _ _ h)

pub below_no_nan : (w : ℕ) → w % 0x8000000000000000 ≤ 0x7ff0000000000000 → nan_bits binary64 w ≡ false
below_no_nan w h = nan_bits_above binary64 w ∙ le-ltb _ _ h

-- by itself
pub differs-nan : (x : Float) → ne x x ≡ true → to_bits binary64 x ≡ nan_word
unfolding to_bits
differs-nan x e = ap (to_bits binary64) (differs_from_itself x (subst T (sym e) tt))

pub same-no-nan : (x : Float) → ne x x ≡ false → T (not (is_nan x))
unfolding is_nan
same-no-nan nan e = absurd (true≢false (sym nan_differs ∙ e))
same-no-nan (inf s) e = tt
same-no-nan (fin s m e) h = tt

-- what is printed of a word that was read
pub word_back : (w : ℕ) → w < 2 ^ 64 → nan_bits binary64 w ≡ false → to_bits binary64 (of_bits binary64 w) ≡ w
word_back w h e = to_bits-of_bits binary64 w h (subst (λ (b : Bool). T (not b)) (sym e ∙ nan_bits_is binary64 w) tt)

pub nan-back : (w : ℕ) → nan_bits binary64 w ≡ true → to_bits binary64 (of_bits binary64 w) ≡ nan_word
unfolding to_bits
nan-back w e = ap (to_bits binary64) (is-nan-of w e)
