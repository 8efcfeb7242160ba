-- Laws of what removal by rows and columns cites: testing a record's buses, and which row stands where when one drops out.
use Rattle.prelude.proofs.Prelude.{◌≡◌, refl, sym, ap, ◌∙◌, Bool, true, false, ◌&&◌, inl, inr, List, [], ◌∷◌, ℕ, suc, ◌+◌, ◌-◌, ◌*◌, ◌≤◌, ◌<◌, add-one, arith, ltb, length, get_or, take, drop, Float, mul-le-mul, lt-ltb, le-ltb, le-leb, lt-leb, leb, length-drop, set, length-take-le, drop-cons, get_or-set_same, get_or-set_other}
use Rattle.complex.specs.{Complex, entry, put}
use Rattle.lists.proofs.Parts.{back}
use Rattle.complex.proofs.Entries.{entry-put-same, entry-put-other, entry-take, entry-append-left}
use native.Mathlib.Nat.{add-sub_cancel_left}
use Rattle.lists.proofs.Order.{lt-or-ge}
use Rattle.complex.proofs.Matrices.{row_within}
use Rattle.refusals.specs.Refusals.{limit}
use borrow.Author.Count.{below_more}
use lib.Dec.{leb-zero}
use Rattle.lists.specs.Buses.{rising, all_below}
use Rattle.kron_reduction.specs.Inner.Removal.{old_row}

-- ---- the record's tests, a bus at a time

-- rising from low up, and below n
unfoldable pub rises_from : ℕ → ℕ → List ℕ → Bool
rises_from low n [] = true
rises_from low n (x ∷ xs) = leb low x && (ltb x n && rises_from (x + 1) n xs)

and-mix : (a b c d : Bool) → ((a && b) && (c && d)) ≡ (c && (a && (b && d)))
and-mix true true true d = refl
and-mix true true false d = refl
and-mix true false true d = refl
and-mix true false false d = refl
and-mix false b true d = refl
and-mix false b false d = refl

and-true : (a : Bool) → (true && (a && true)) ≡ (a && true)
and-true true = refl
and-true false = refl

ltb-leb : (x y : ℕ) → ltb x y ≡ leb (x + 1) y
ltb-leb x y = rw add-one

rises-tail : (n x : ℕ) (xs : List ℕ) → (rising (x ∷ xs) && all_below n (x ∷ xs)) ≡ (ltb x n && rises_from (x + 1) n xs)
unfolding rising rises_from
rises-tail n x [] = and-true (ltb x n)
rises-tail n x (y ∷ ys) =
    and-mix (ltb x y) (rising (y ∷ ys)) (ltb x n) (all_below n (y ∷ ys))
    ∙ ap (λ (b : Bool). ltb x n && (ltb x y && b)) (rises-tail n y ys)
    ∙ ap (λ (b : Bool). ltb x n && (b && (ltb y n && rises_from (y + 1) n ys))) (ltb-leb x y)

pub rises-from : (n : ℕ) (xs : List ℕ) → (rising xs && all_below n xs) ≡ rises_from 0 n xs
unfolding rising rises_from
rises-from n [] = refl
rises-from n (x ∷ xs) = rises-tail n x xs ∙ ap (λ (b : Bool). b && (ltb x n && rises_from (x + 1) n xs)) (sym (leb-zero x))

-- the bus at i passes, or one of the tests fails
module _ (n low : ℕ) (xs : List ℕ) (i : ℕ) (h : i < length xs) where
  at_i : rises_from low n (drop i xs) ≡ (leb low (get_or xs i 0) && (ltb (get_or xs i 0) n && rises_from (get_or xs i 0 + 1) n (drop (i + 1) xs)))
  unfolding rises_from
  at_i = rw (add-one i, drop-cons xs i 0)

  pub rises-on : low ≤ get_or xs i 0 → get_or xs i 0 < n → rises_from low n (drop i xs) ≡ rises_from (get_or xs i 0 + 1) n (drop (i + 1) xs)
  rises-on a b = at_i ∙ simp (le-leb _ _ a, lt-ltb _ _ b)

  pub rises-low : get_or xs i 0 < low → rises_from low n (drop i xs) ≡ false
  rises-low a = at_i ∙ simp (lt-leb _ _ a)

  pub rises-high : low ≤ get_or xs i 0 → n ≤ get_or xs i 0 → rises_from low n (drop i xs) ≡ false
  rises-high a b = at_i ∙ simp (le-leb _ _ a, le-ltb _ _ b)

-- ---- when row k drops out

pub kept-before : (k p : ℕ) → p < k → old_row k p ≡ p
unfolding old_row
kept-before k p h = simp (lt-ltb _ _ h)

pub kept-after : (k p : ℕ) → k ≤ p → old_row k p ≡ suc p
unfolding old_row
kept-after k p h = simp (le-ltb _ _ h)

pub kept-lt : (k p n : ℕ) → p < n - 1 → old_row k p < n
kept-lt k p n h = elim (lt-or-ge p k) [ inl l ↦ rw (kept-before k p l) (omega arith) | inr l ↦ rw (kept-after k p l) (omega arith) ]

-- ---- a store at the first index not yet passed

pub written-more : {A : Type 0} (d : A) (f : ℕ → A) (xs : List A) (i : ℕ) (a : A) → i < length xs
    → ((k : ℕ) → k < i → get_or xs k d ≡ f k) → a ≡ f i → (k : ℕ) → k < i + 1 → get_or (set xs i a) k d ≡ f k
written-more d f xs i a l h e = below_more _ i (λ (k : ℕ) (m : k < i). get_or-set_other xs i k a d (λ (q : k ≡ i). omega arith) ∙ h k m) (get_or-set_same xs i a d l ∙ e)

pub put-more : (f : ℕ → Complex) (xs : List Float) (first j : ℕ) (a : Complex) → 2 * j + 1 < length xs
    → ((i : ℕ) → first ≤ i → i < j → entry xs i ≡ f i) → a ≡ f j → (i : ℕ) → first ≤ i → i < j + 1 → entry (put xs j a) i ≡ f i
put-more f xs first j a l h e i u v =
    below_more (λ (i : ℕ). first ≤ i → entry (put xs j a) i ≡ f i) j
    (λ (i : ℕ) (m : i < j) (u : first ≤ i). entry-put-other xs j a i (λ (q : i ≡ j). omega arith) ∙ h i u m)
    (λ (u : first ≤ j). entry-put-same xs j a l ∙ e) i v u

-- ---- rows of a matrix within the limit

-- where row i of n lies
abbrev pub RowRoom : ℕ → ℕ → Type 0
RowRoom n i = (i * n + n ≤ n * n) × (n * n ≤ limit * limit)

pub row_room : (n i : ℕ) → n ≤ limit → i < n → RowRoom n i
row_room n i a b = (row_within n n i b, mul-le-mul a a)

-- where row i of n and row p of n - 1 lie
abbrev pub Room : ℕ → ℕ → ℕ → Type 0
Room n i p = (i * n + n ≤ n * n) × (p * (n - 1) ≤ i * n) × (n * n ≤ limit * limit)

pub room : (n i p : ℕ) → n ≤ limit → i < n → p ≤ i → Room n i p
room n i p a b d = (row_within n n i b, mul-le-mul d (omega arith), mul-le-mul a a)

-- the front of a list, after its front came back
pub entry-front : (n w : ℕ) (xs ys : List Float) → w ≡ 2 * n → 2 * n ≤ length xs → length ys ≡ 2 * n → (j : ℕ) → j < n
    → entry (take w (drop 0 (back 0 w xs ys))) j ≡ entry ys j
entry-front n w xs ys e fits long j h =
    ap (λ (v : ℕ). entry (take v (back 0 v xs ys)) j) e
    ∙ entry-take n (back 0 (2 * n) xs ys) j h
    ∙ entry-append-left ys (drop (2 * n) xs) j (omega arith)

pub length_part : (a w : ℕ) (xs : List Float) → a + w ≤ length xs → length (take (a + w - a) (drop a xs)) ≡ w
length_part a w xs h = length-take-le (a + w - a) (drop a xs) (rw length-drop (omega arith)) ∙ add-sub_cancel_left a w
