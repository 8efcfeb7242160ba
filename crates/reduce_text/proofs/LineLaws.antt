-- Laws of lines: where the first line ends, what is behind it, and a keyword compared byte by byte.
use Rattle.prelude.proofs.Prelude.{◌≡◌, refl, ap, ◌∙◌, subst, Bool, true, false, ◌&&◌, cond, [], ◌∷◌, ℕ, suc, ◌+◌, ◌-◌, ◌≤◌, ◌<◌, add-one, arith, T, eqb, length, get_or, take, drop, length-drop, drop_of_length-le, drop-cons, eq-eqb, ne_eqb}
use Rattle.std.specs.Prelude.{Option, Some, None, min, position}
use Rattle.std.specs.List.{position_or_len}
use Rattle.std.specs.Cmp.Lexicographic.{pointwise}
use Rattle.std.specs.Option.{unwrap_or}
use Rattle.prelude.proofs.Prelude.{sym, take_all, lt-ltb, le-ltb, not, ap₂}
use native.Mathlib.Decide.{dec_lt, ℕ_discrete}
use mathlib.Core.Bool.{false≢true}
use Rattle.text_numbers.specs.Bytes.{Bytes, line_feed, space}
use Rattle.text_numbers.specs.Words.{decimal_of, hex_of}
use Rattle.reduce_text.specs.Lines.{in_front, lines, span, line_at, starts_with, number_after, finite_word, both, entry_of}

-- ---- the span of a line

module _ (s : Bytes) (i : ℕ) (h : i < length s) where
  span-at : span (drop i s) ≡ span (get_or s i 0 ∷ drop (suc i) s)
  span-at = ap span (drop-cons s i 0 h)

  pub span-stop : get_or s i 0 ≡ line_feed → span (drop i s) ≡ 0
  unfolding span
  span-stop e = span-at ∙ simp (eq-eqb _ _ e)

  pub span_more : (get_or s i 0 ≡ line_feed → ⊥) → span (drop i s) ≡ suc (span (drop (i + 1) s))
  unfolding span
  span_more n = span-at ∙ rw add-one (simp (ne_eqb _ _ n))

pub span-end : (s : Bytes) (i : ℕ) → length s ≤ i → span (drop i s) ≡ 0
unfolding span
span-end s i h = ap span (drop_of_length-le s h)

pub span-le : (bs : Bytes) → span bs ≤ length bs
unfolding span
span-le [] = omega arith
span-le (b ∷ bs) = go (eqb b line_feed) (span-le bs)
  where
    go : (t : Bool) → span bs ≤ length bs → cond t 0 (suc (span bs)) ≤ suc (length bs)
    go true h = omega arith
    go false h = omega arith

-- the line at an index ends within the text
pub span-behind : (s : Bytes) (at : ℕ) → span (drop at s) ≤ length s - at
span-behind s at = omega (arith, span-le (drop at s), length-drop at s)

-- as std finds it
span-position : (bs : Bytes) → span bs ≡ position_or_len (λ b. eqb b line_feed) bs
unfolding span
span-position [] = refl
span-position (b ∷ bs) = rw (span-position bs) (go (eqb b line_feed) (position_or_len (λ b. eqb b line_feed) bs))
  where
    go : (t : Bool) (m : ℕ) → cond t 0 (suc m) ≡ cond (not t) (1 + m) 0
    go true m = refl
    go false m = omega arith

pub span-is : (bs : Bytes) (r : Option ℕ) → r ≡ position (λ b. eqb b line_feed) bs → unwrap_or r (length bs) ≡ span bs
span-is bs r e = ap (λ (o : Option ℕ). unwrap_or o (length bs)) e ∙ go (dec_lt (position_or_len (λ b. eqb b line_feed) bs) (length bs)) ∙ sym (span-position bs)
  where
    go : Dec (position_or_len (λ b. eqb b line_feed) bs < length bs) → unwrap_or (position (λ b. eqb b line_feed) bs) (length bs) ≡ position_or_len (λ b. eqb b line_feed) bs
    go (yes h) = simp (lt-ltb _ _ h)
    go (no n) =
        let m : length bs ≤ position_or_len (λ b. eqb b line_feed) bs = omega arith in
        simp (le-ltb _ _ m) (omega (arith, span-position bs, span-le bs))

-- what is left from an index on, and its first line
rest-is : (s : Bytes) (at a : ℕ) → a ≡ min at (length s) → take (length s - a) (drop a s) ≡ drop at s
rest-is s at a e = take_all (length s - a) (drop a s) (omega (arith, length-drop a s)) ∙ go (dec_lt at (length s))
  where
    go : Dec (at < length s) → drop a s ≡ drop at s
    go (yes h) = ap (λ (k : ℕ). drop k s) (omega arith)
    go (no n) = drop_of_length-le s (omega arith) ∙ sym (drop_of_length-le s (omega arith))

pub line-is : (s : Bytes) (at a : ℕ) (r : Option ℕ) → a ≡ min at (length s)
    → r ≡ position (λ b. eqb b line_feed) (take (length s - a) (drop a s))
    → take (unwrap_or r (length (take (length s - a) (drop a s)))) (take (length s - a) (drop a s)) ≡ line_at s at
unfolding line_at
line-is s at a r e p =
    let d = rest-is s at a e in
    rw d (ap (λ (k : ℕ). take k (drop at s)) (span-is (drop at s) r (rw d at p)))

-- ---- the first line, and those behind it

pub lines-first : (b : ℕ) (bs : Bytes) → lines (b ∷ bs) ≡ take (span (b ∷ bs)) (b ∷ bs) ∷ lines (drop (suc (span (b ∷ bs))) (b ∷ bs))
unfolding lines span
lines-first b [] = go (eqb b line_feed)
  where
    go : (t : Bool) → cond t ([] ∷ []) ((b ∷ []) ∷ []) ≡ take (cond t 0 1) (b ∷ []) ∷ lines (drop (suc (cond t 0 1)) (b ∷ []))
    go true = refl
    go false = refl
lines-first b (c ∷ cs) = go (eqb b line_feed) (lines-first c cs)
  where
    go : (t : Bool) → lines (c ∷ cs) ≡ take (span (c ∷ cs)) (c ∷ cs) ∷ lines (drop (suc (span (c ∷ cs))) (c ∷ cs))
        → cond t ([] ∷ lines (c ∷ cs)) (in_front b (lines (c ∷ cs)))
        ≡ take (cond t 0 (suc (span (c ∷ cs)))) (b ∷ (c ∷ cs)) ∷ lines (drop (suc (cond t 0 (suc (span (c ∷ cs))))) (b ∷ (c ∷ cs)))
    go true e = refl
    go false e = ap (in_front b) e

-- ---- a keyword

same-test : (a b : ℕ) → eqb a b ≡ eqb b a
same-test a b = go (ℕ_discrete a b)
  where
    go : Dec (a ≡ b) → eqb a b ≡ eqb b a
    go (yes e) = eq-eqb a b e ∙ sym (eq-eqb b a (sym e))
    go (no n) = ne_eqb a b n ∙ sym (ne_eqb b a (λ e. n (sym e)))

-- as std tells it of a prefix
starts-is : (key line : Bytes) → starts_with key line ≡ pointwise eqb (take (length key) line) key
unfolding starts_with
starts-is [] line = refl
starts-is (k ∷ ks) [] = refl
starts-is (k ∷ ks) (b ∷ bs) = ap₂ ◌&&◌ (same-test k b) (starts-is ks bs)

pub starts-length : (key line : Bytes) → starts_with key line ≡ true → length key ≤ length line
unfolding starts_with
starts-length [] line e = omega arith
starts-length (k ∷ ks) [] e = absurd (false≢true e)
starts-length (k ∷ ks) (b ∷ bs) e = go (eqb k b) (starts-length ks bs) e
  where
    go : (t : Bool) → (starts_with ks bs ≡ true → length ks ≤ length bs) → (t && starts_with ks bs) ≡ true → suc (length ks) ≤ suc (length bs)
    go true f h = let m : length ks ≤ length bs = f h in omega arith
    go false f h = absurd (false≢true h)

pub number-unlike : (key line : Bytes) → pointwise eqb (take (length key) line) key ≡ false → number_after key line ≡ None
unfolding number_after
number-unlike key line e = rw (starts-is key line, e)

pub number-behind : (key line rest : Bytes) → pointwise eqb (take (length key) line) key ≡ true → rest ≡ drop (length key) line → decimal_of rest ≡ number_after key line
unfolding number_after
number-behind key line rest e d = rw (starts-is key line, e, d)

pub number-no : (key line : Bytes) → starts_with key line ≡ false → number_after key line ≡ None
unfolding number_after
number-no key line e = rw e

pub number-yes : (key line : Bytes) → starts_with key line ≡ true → number_after key line ≡ decimal_of (drop (length key) line)
unfolding number_after
number-yes key line e = rw e

-- ---- an entry line

pub entry_length : (l : Bytes) → (length l ≡ 33 → ⊥) → entry_of l ≡ None
unfolding entry_of
entry_length l n = simp (ne_eqb _ _ n)

pub entry-space : (l : Bytes) → length l ≡ 33 → (get_or l 16 0 ≡ space → ⊥) → entry_of l ≡ None
unfolding entry_of
entry-space l e n = simp (eq-eqb _ _ e, ne_eqb _ _ n)

pub entry-both : (l : Bytes) → length l ≡ 33 → get_or l 16 0 ≡ space → entry_of l ≡ both (hex_of (take 16 l)) (hex_of (drop 17 l))
unfolding entry_of
entry-both l e s = simp (eq-eqb _ _ e, eq-eqb _ _ s)

pub both_none : (v w : Option ℕ) → w ≡ None → both v w ≡ None
both_none (Some a) w e = rw e
both_none None w e = refl

-- the second word is the rest of the line
second : (l : Bytes) → hex_of (take (length l - 17) (drop 17 l)) ≡ hex_of (drop 17 l)
second l = ap hex_of (take_all (length l - 17) (drop 17 l) (omega (arith, length-drop 17 l)))

module _ (l : Bytes) (e : length l ≡ 33) (s : get_or l 16 0 ≡ space) where
  pub entry-no-first : None ≡ hex_of (take 16 l) → entry_of l ≡ None
  entry-no-first f = entry-both l e s ∙ ap (λ (v : Option ℕ). both v (hex_of (drop 17 l))) (sym f)

  pub entry-no-second : None ≡ hex_of (take (length l - 17) (drop 17 l)) → entry_of l ≡ None
  entry-no-second f = entry-both l e s ∙ both_none (hex_of (take 16 l)) (hex_of (drop 17 l)) (sym (f ∙ second l))

  pub entry-words : (a b : ℕ) → Some a ≡ hex_of (take 16 l) → Some b ≡ hex_of (take (length l - 17) (drop 17 l)) → entry_of l ≡ both (Some a) (Some b)
  entry-words a b f g = entry-both l e s ∙ ap₂ both (sym f) (sym (g ∙ second l))

-- ---- two words

pub both-finite : (a b : ℕ) → true ≡ finite_word a → true ≡ finite_word b → both (Some a) (Some b) ≡ Some (a, b)
both-finite a b e f = rw (← e, ← f) refl

pub both_first : (a b : ℕ) → false ≡ finite_word a → both (Some a) (Some b) ≡ None
both_first a b e = rw (← e) refl

pub both-second : (a b : ℕ) → true ≡ finite_word a → false ≡ finite_word b → both (Some a) (Some b) ≡ None
both-second a b e f = rw (← e, ← f) refl

-- an entry that is read has finite numbers
FiniteWords : Option (ℕ × ℕ) → Type 0
FiniteWords (Some (a, b)) = T (finite_word a) × T (finite_word b)
FiniteWords None = Unit {0}

words-finite : (v w : Option ℕ) → FiniteWords (both v w)
unfolding FiniteWords
words-finite (Some a) (Some b) = go (finite_word a) (finite_word b) (λ (t : T (finite_word a)). t) (λ (t : T (finite_word b)). t)
  where
    go : (x y : Bool) → (T x → T (finite_word a)) → (T y → T (finite_word b)) → FiniteWords (cond (x && y) (Some (a, b)) None)
    go true true f g = (f tt, g tt)
    go true false f g = tt
    go false y f g = tt
words-finite (Some a) None = tt
words-finite None w = tt

line-finite : (l : Bytes) → FiniteWords (entry_of l)
unfolding entry_of FiniteWords
line-finite l = go (eqb (length l) 33 && eqb (get_or l 16 0) space)
  where
    go : (t : Bool) → FiniteWords (cond t (both (hex_of (take 16 l)) (hex_of (drop 17 l))) None)
    go true = words-finite (hex_of (take 16 l)) (hex_of (drop 17 l))
    go false = tt

pub entry-finite : (l : Bytes) (a b : ℕ) → entry_of l ≡ Some (a, b) → T (finite_word a) × T (finite_word b)
unfolding FiniteWords
entry-finite l a b e = subst FiniteWords e (line-finite l)
