-- The complex entry at an index, after a store, in a part of a list, and in a list whose part came back.
-- Two lists of 2 n numbers with the same n entries are the same list.
use Rattle.prelude.proofs.Prelude.{◌≡◌, refl, sym, ap, ◌∙◌, List, [], ◌∷◌, ◌++◌, ℕ, zero, suc, ◌+◌, ◌-◌, ◌*◌, ◌≤◌, ◌<◌, arith, length, get_or, take, drop, Float, nan, set, length-set, List·getD-append, get_or-set_same, get_or-set_other, get_or-take, get_or-drop}
use native.Mathlib.Nat.{mul-add}
use lib.Seq.{get_or-append-add}
use Rattle.complex.specs.declared.Complex.{Complex}
use Rattle.complex.specs.Entries.{entry, put}
use Rattle.lists.proofs.Parts.{back, get_or-back-before, get_or-back-in, get_or-back-after}

-- two complex numbers with the same parts
pub parts_same : {a b : Complex} → a.re ≡ b.re → a.im ≡ b.im → a ≡ b
parts_same p q = λ i. record { re = p i; im = q i }

-- ---- a store

pub length-put : (ys : List Float) (i : ℕ) (c : Complex) → length (put ys i c) ≡ length ys
unfolding put
length-put ys i c = simp length-set

pub entry-put-same : (ys : List Float) (i : ℕ) (c : Complex) → 2 * i + 1 < length ys → entry (put ys i c) i ≡ c
unfolding entry put
entry-put-same ys i c h =
    parts_same
    (get_or-set_other (set ys (2 * i) c.re) (2 * i + 1) (2 * i) c.im nan (λ (e : 2 * i ≡ 2 * i + 1). omega arith)
    ∙ get_or-set_same ys (2 * i) c.re nan (omega arith))
    (get_or-set_same (set ys (2 * i) c.re) (2 * i + 1) c.im nan (simp length-set h))

pub entry-put-other : (ys : List Float) (i : ℕ) (c : Complex) (j : ℕ) → (j ≡ i → ⊥) → entry (put ys i c) j ≡ entry ys j
unfolding entry put
entry-put-other ys i c j n =
    parts_same
    (get_or-set_other (set ys (2 * i) c.re) (2 * i + 1) (2 * j) c.im nan (λ (e : 2 * j ≡ 2 * i + 1). omega arith)
    ∙ get_or-set_other ys (2 * i) (2 * j) c.re nan (λ (e : 2 * j ≡ 2 * i). n (omega arith)))
    (get_or-set_other (set ys (2 * i) c.re) (2 * i + 1) (2 * j + 1) c.im nan (λ (e : 2 * j + 1 ≡ 2 * i + 1). n (omega arith))
    ∙ get_or-set_other ys (2 * i) (2 * j + 1) c.re nan (λ (e : 2 * j + 1 ≡ 2 * i). omega arith))

-- ---- a part

twice : (a j : ℕ) → 2 * a + 2 * j ≡ 2 * (a + j)
twice a j = sym (mul-add 2 a j)

twice-one : (a j : ℕ) → 2 * a + (2 * j + 1) ≡ 2 * (a + j) + 1
twice-one a j = omega arith

pub entry-take : (n : ℕ) (ys : List Float) (j : ℕ) → j < n → entry (take (2 * n) ys) j ≡ entry ys j
unfolding entry
entry-take n ys j h = parts_same (get_or-take (2 * n) ys (2 * j) nan (omega arith)) (get_or-take (2 * n) ys (2 * j + 1) nan (omega arith))

pub entry-drop : (n : ℕ) (ys : List Float) (j : ℕ) → entry (drop (2 * n) ys) j ≡ entry ys (n + j)
unfolding entry
entry-drop n ys j =
    parts_same
    (get_or-drop (2 * n) ys (2 * j) nan ∙ ap (λ (k : ℕ). get_or ys k nan) (twice n j))
    (get_or-drop (2 * n) ys (2 * j + 1) nan ∙ ap (λ (k : ℕ). get_or ys k nan) (twice-one n j))

-- ---- joined lists

pub entry-append-left : (xs ys : List Float) (j : ℕ) → 2 * j + 1 < length xs → entry (xs ++ ys) j ≡ entry xs j
unfolding entry
entry-append-left xs ys j h =
    parts_same (List·getD-append xs ys nan (2 * j) (omega arith)) (List·getD-append xs ys nan (2 * j + 1) h)

pub entry-append-right : (n : ℕ) (xs ys : List Float) → length xs ≡ 2 * n → (j : ℕ) → entry (xs ++ ys) (n + j) ≡ entry ys j
unfolding entry
entry-append-right n xs ys e j =
    parts_same
    (ap (λ (k : ℕ). get_or (xs ++ ys) k nan) (sym (twice n j) ∙ ap (λ (k : ℕ). k + 2 * j) (sym e)) ∙ get_or-append-add xs ys (2 * j) nan)
    (ap (λ (k : ℕ). get_or (xs ++ ys) k nan) (sym (twice-one n j) ∙ ap (λ (k : ℕ). k + (2 * j + 1)) (sym e)) ∙ get_or-append-add xs ys (2 * j + 1) nan)

-- ---- a part that came back: w entries from the entry b on

module _ (b w : ℕ) (xs ys : List Float) (fits : 2 * (b + w) ≤ length xs) (long : length ys ≡ 2 * w) where
  pub entry-back-before : (j : ℕ) → j < b → entry (back (2 * b) (2 * w) xs ys) j ≡ entry xs j
  unfolding entry
  entry-back-before j h =
      parts_same
      (get_or-back-before (2 * b) (2 * w) xs ys nan (omega arith) (2 * j) (omega arith))
      (get_or-back-before (2 * b) (2 * w) xs ys nan (omega arith) (2 * j + 1) (omega arith))

  pub entry-back-in : (j : ℕ) → j < w → entry (back (2 * b) (2 * w) xs ys) (b + j) ≡ entry ys j
  unfolding entry
  entry-back-in j h =
      parts_same
      (ap (λ (k : ℕ). get_or (back (2 * b) (2 * w) xs ys) k nan) (sym (twice b j))
      ∙ get_or-back-in (2 * b) (2 * w) xs ys nan (omega arith) (2 * j) (omega arith))
      (ap (λ (k : ℕ). get_or (back (2 * b) (2 * w) xs ys) k nan) (sym (twice-one b j))
      ∙ get_or-back-in (2 * b) (2 * w) xs ys nan (omega arith) (2 * j + 1) (omega arith))

  pub entry-back-after : (j : ℕ) → b + w ≤ j → entry (back (2 * b) (2 * w) xs ys) j ≡ entry xs j
  unfolding entry
  entry-back-after j h =
      let at : 2 * b + (2 * w + (2 * j - (2 * b + 2 * w))) ≡ 2 * j = omega arith in
      let at1 : 2 * b + (2 * w + (2 * j + 1 - (2 * b + 2 * w))) ≡ 2 * j + 1 = omega arith in
      parts_same
      (ap (λ (k : ℕ). get_or (back (2 * b) (2 * w) xs ys) k nan) (sym at)
      ∙ get_or-back-after (2 * b) (2 * w) xs ys nan (omega arith) long (2 * j - (2 * b + 2 * w))
      ∙ ap (λ (k : ℕ). get_or xs k nan) at)
      (ap (λ (k : ℕ). get_or (back (2 * b) (2 * w) xs ys) k nan) (sym at1)
      ∙ get_or-back-after (2 * b) (2 * w) xs ys nan (omega arith) long (2 * j + 1 - (2 * b + 2 * w))
      ∙ ap (λ (k : ℕ). get_or xs k nan) at1)

-- ---- the same entries

next-re : (a b : Float) (ys : List Float) (i : ℕ) → get_or (a ∷ b ∷ ys) (2 * suc i) nan ≡ get_or ys (2 * i) nan
next-re a b ys i = ap (λ (k : ℕ). get_or (a ∷ b ∷ ys) k nan) (two i)
  where
    two : (i : ℕ) → 2 * suc i ≡ suc (suc (2 * i))
    two i = omega arith

next-im : (a b : Float) (ys : List Float) (i : ℕ) → get_or (a ∷ b ∷ ys) (2 * suc i + 1) nan ≡ get_or ys (2 * i + 1) nan
next-im a b ys i = ap (λ (k : ℕ). get_or (a ∷ b ∷ ys) k nan) (two i)
  where
    two : (i : ℕ) → 2 * suc i + 1 ≡ suc (suc (2 * i + 1))
    two i = omega arith

pub entry_next : (a b : Float) (ys : List Float) (i : ℕ) → entry (a ∷ b ∷ ys) (suc i) ≡ entry ys i
unfolding entry
entry_next a b ys i = parts_same (next-re a b ys i) (next-im a b ys i)

pub ext_entry : (n : ℕ) (xs ys : List Float) → length xs ≡ 2 * n → length ys ≡ 2 * n → ((i : ℕ) → i < n → entry xs i ≡ entry ys i) → xs ≡ ys
unfolding entry
ext_entry zero [] [] p q h = refl
ext_entry zero (x ∷ xs) ys p q h = absurd (omega arith)
ext_entry zero [] (y ∷ ys) p q h = absurd (omega arith)
ext_entry (suc n) [] ys p q h = absurd (omega arith)
ext_entry (suc n) (x ∷ []) ys p q h = absurd (omega arith)
ext_entry (suc n) (x ∷ (x' ∷ xs)) [] p q h = absurd (omega arith)
ext_entry (suc n) (x ∷ (x' ∷ xs)) (y ∷ []) p q h = absurd (omega arith)
ext_entry (suc n) (x ∷ (x' ∷ xs)) (y ∷ (y' ∷ ys)) p q h =
    let e : xs ≡ ys = ext_entry n xs ys (omega arith) (omega arith) (λ (i : ℕ) (l : i < n). sym (entry_next x x' xs i) ∙ h (suc i) (omega arith) ∙ entry_next y y' ys i) in
    let z : entry (x ∷ x' ∷ xs) 0 ≡ entry (y ∷ y' ∷ ys) 0 = h 0 (omega arith) in
    let a : x ≡ y = ap (λ (c : Complex). c.re) z in
    let b : x' ≡ y' = ap (λ (c : Complex). c.im) z in
    cc
