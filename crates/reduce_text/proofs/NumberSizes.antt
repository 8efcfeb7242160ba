-- How long a line with a keyword and a number can be: a line of 34 bytes says no number.
use Rattle.prelude.proofs.Prelude.{◌≡◌, refl, sym, ◌∙◌, Bool, true, false, ℕ, ◌+◌, ◌≤◌, ◌<◌, arith, length, drop, ◌^◌, le_trans, lit≤, length-drop}
use Rattle.std.specs.Prelude.{Option, Some, None}
use Rattle.text_numbers.specs.Bytes.{Bytes}
use Rattle.text_numbers.proofs.WordSizes.{decimal-size, decimal-below}
use Rattle.reduce_text.specs.Lines.{starts_with, number_after, number_of}
use Rattle.reduce_text.proofs.LineLaws.{starts-length, number-no, number-yes}

pub number_size : (key l : Bytes) (k j : ℕ) → number_after key l ≡ Some k → k < 10 ^ j → 1 ≤ j → length l ≤ length key + j
number_size key l k j e h o = go (starts_with key l) refl
  where
    go : (t : Bool) → starts_with key l ≡ t → length l ≤ length key + j
    go true p =
        omega (arith, decimal-size (drop (length key) l) k j (sym (number-yes key l p) ∙ e) h o, length-drop (length key) l, starts-length key l p)
    go false p = let z = sym (number-no key l p) ∙ e in cc

pub number-below : (key l : Bytes) (k : ℕ) → number_after key l ≡ Some k → k < 2 ^ 32
number-below key l k e = go (starts_with key l) refl
  where
    go : (t : Bool) → starts_with key l ≡ t → k < 2 ^ 32
    go true p = decimal-below (drop (length key) l) k (sym (number-yes key l p) ∙ e)
    go false p = let z = sym (number-no key l p) ∙ e in cc

pub number-long : (key l : Bytes) → length key ≤ 6 → 34 ≤ length l → number_after key l ≡ None
number-long key l a b = go (number_after key l) refl
  where
    go : (w : Option ℕ) → number_after key l ≡ w → w ≡ None
    go (Some k) e =
        let s : length l ≤ length key + 10 = number_size key l k 10 e (le_trans (number-below key l k e) (lit≤ tt)) (lit≤ tt) in
        absurd (omega arith)
    go None e = refl

-- a number alone
pub word_size : (l : Bytes) (k : ℕ) → number_of l ≡ Some k → length l ≤ 10
word_size l k e = decimal-size l k 10 e (le_trans (decimal-below l k e) (lit≤ tt)) (lit≤ tt)

pub word-long : (l : Bytes) → 34 ≤ length l → number_of l ≡ None
word-long l b = go (number_of l) refl
  where
    go : (w : Option ℕ) → number_of l ≡ w → w ≡ None
    go (Some k) e = absurd (omega (arith, word_size l k e))
    go None e = refl
