-- Laws of words: what one more digit does where they are read, and how long they are where they are printed.
use Rattle.prelude.proofs.Prelude.{◌≡◌, refl, ap, ◌∙◌, Bool, true, false, cond, [], ◌∷◌, ℕ, zero, suc, ◌+◌, ◌*◌, ◌≤◌, ◌<◌, add-one, arith, eqb, ltb, length, get_or, drop, ◌/◌, ◌%◌, ◌^◌, length-append, drop-cons, lt-ltb, le-ltb, eq-eqb, ne_eqb, eqb-true}
use lib.Seq.{drop-length}
use Rattle.std.specs.Char.{digit_value}
use Rattle.std.proofs.lemmas.Bool.Decides.{nat_tests}
use Rattle.std.specs.Prelude.{Some, None}
use Rattle.text_numbers.specs.Bytes.{Bytes}
use Rattle.text_numbers.specs.Words.{digit, decimal_from, spare, decimal_of, hex_from, hex_of, glyph, digits, places, decimal, hex}

-- std's value d of the character c in a base up to 16 is that of the byte b; where it has none, the byte is no digit
pub digit-some : (b c d radix : ℕ) → c ≡ b → radix ≤ 16 → (digit_value c < radix) × (d ≡ digit_value c) → digit b ≡ d
unfolding digit
digit-some b c d radix e h l = grind (arith, nat_tests)

pub digit-none : (b c radix : ℕ) → c ≡ b → radix ≤ 16 → (digit_value c < radix → ⊥) → radix ≤ digit b
unfolding digit
digit-none b c radix e h n = grind (arith, nat_tests)

module _ (word : Bytes) (i v : ℕ) (h : i < length word) where
  decimal-at : decimal_from v (drop i word) ≡ decimal_from v (get_or word i 0 ∷ drop (suc i) word)
  decimal-at = ap (decimal_from v) (drop-cons word i 0 h)

  pub decimal-no : 10 ≤ digit (get_or word i 0) → decimal_from v (drop i word) ≡ None
  unfolding decimal_from
  decimal-no n = decimal-at ∙ simp (le-ltb _ _ n)

  pub decimal-over : digit (get_or word i 0) < 10 → 2 ^ 32 ≤ 10 * v + digit (get_or word i 0) → decimal_from v (drop i word) ≡ None
  unfolding decimal_from
  decimal-over n m = decimal-at ∙ simp (lt-ltb _ _ n, le-ltb _ _ m)

  pub decimal-more : digit (get_or word i 0) < 10 → 10 * v + digit (get_or word i 0) < 2 ^ 32
      → decimal_from v (drop i word) ≡ decimal_from (10 * v + digit (get_or word i 0)) (drop (i + 1) word)
  unfolding decimal_from
  decimal-more n m = decimal-at ∙ rw (add-one) (simp (lt-ltb _ _ n, lt-ltb _ _ m))

  hex-at : hex_from v (drop i word) ≡ hex_from v (get_or word i 0 ∷ drop (suc i) word)
  hex-at = ap (hex_from v) (drop-cons word i 0 h)

  pub hex-no : 16 ≤ digit (get_or word i 0) → hex_from v (drop i word) ≡ None
  unfolding hex_from
  hex-no n = hex-at ∙ simp (le-ltb _ _ n)

  pub hex-more : digit (get_or word i 0) < 16 → hex_from v (drop i word) ≡ hex_from (16 * v + digit (get_or word i 0)) (drop (i + 1) word)
  unfolding hex_from
  hex-more n = hex-at ∙ rw (add-one) (simp (lt-ltb _ _ n))

-- where a word ends, the number is read
pub decimal-end : (word : Bytes) (i v : ℕ) → i ≤ length word → length word ≤ i → decimal_from v (drop i word) ≡ Some v
unfolding decimal_from
decimal-end word i v a b = let e : i ≡ length word = omega arith in rw (e, drop-length)

pub hex-end : (word : Bytes) (i v : ℕ) → i ≤ length word → length word ≤ i → hex_from v (drop i word) ≡ Some v
unfolding hex_from
hex-end word i v a b = let e : i ≡ length word = omega arith in rw (e, drop-length)

pub decimal-spare : (word : Bytes) → spare word ≡ true → decimal_of word ≡ None
unfolding decimal_of
decimal-spare word e = rw e

pub decimal-plain : (word : Bytes) → spare word ≡ false → decimal_of word ≡ decimal_from 0 word
unfolding decimal_of
decimal-plain word e = rw e

pub hex-short : (word : Bytes) → (length word ≡ 16 → ⊥) → hex_of word ≡ None
unfolding hex_of
hex-short word n = rw (ne_eqb _ _ n)

pub hex-long : (word : Bytes) → length word ≡ 16 → hex_of word ≡ hex_from 0 word
unfolding hex_of
hex-long word e = rw (eq-eqb _ _ e)

-- ---- spare digits

pub spare-none : (word : Bytes) → eqb (length word) 0 ≡ true → spare word ≡ true
unfolding spare
spare-none [] e = refl
spare-none (b ∷ bs) e = absurd (omega (arith, eqb-true _ _ e))

pub spare-one : (word : Bytes) → eqb (length word) 0 ≡ false → length word ≤ 1 → spare word ≡ false
unfolding spare
spare-one [] e h = cc
spare-one (b ∷ []) e h = refl
spare-one (b ∷ (c ∷ bs)) e h = absurd (omega arith)

pub spare_more : (word : Bytes) → 1 < length word → spare word ≡ eqb (get_or word 0 0) 48
unfolding spare
spare_more [] h = absurd (omega arith)
spare_more (b ∷ []) h = absurd (omega arith)
spare_more (b ∷ (c ∷ bs)) h = refl

-- ---- printing

pub places-stop : (k n : ℕ) → n < 10 → places (suc k) n ≡ 1
unfolding places
places-stop k n h = simp (lt-ltb _ _ h)

pub places-more : (k n : ℕ) → 10 ≤ n → places (suc k) n ≡ suc (places k (n / 10))
unfolding places
places-more k n h = simp (le-ltb _ _ h)

pub places-last : (n : ℕ) → places 1 n ≡ 1
unfolding places
places-last n = go (ltb n 10)
  where
    go : (t : Bool) → ◌≡◌ {A = ℕ} (cond t 1 1) 1
    go true = refl
    go false = refl

pub length_digits : (b k n : ℕ) → length (digits b k n) ≡ k
unfolding digits
length_digits b zero n = refl
length_digits b (suc k) n =
    length-append (digits b k (n / b)) (glyph (n % b) ∷ []) ∙ ap (λ (m : ℕ). m + 1) (length_digits b k (n / b)) ∙ add-one k

pub length-hex : (n : ℕ) → length (hex n) ≡ 16
unfolding hex
length-hex n = length_digits 16 16 n

pub length-decimal : (n : ℕ) → length (decimal n) ≡ places 20 n
unfolding decimal
length-decimal n = length_digits 10 (places 20 n) n
