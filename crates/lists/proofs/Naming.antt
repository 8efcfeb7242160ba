-- Numbers name rows: where no number stands twice, each row has one number and each number one row. What is asked of buses by number is asked of their rows.
use Rattle.prelude.proofs.Prelude.{◌≡◌, refl, sym, ap, ◌∙◌, subst, Bool, true, false, ◌&&◌, ◌||◌, inl, inr, List, [], ◌∷◌, ◌++◌, ℕ, arith, T, eqb, ltb, length, get_or, ap₂, eqb→eq, and_l, and_r, is_true, ne_eqb, lt-ltb, le-ltb}
use lib.Ieee.Fits.{eq→eqb}
use Rattle.lists.specs.Buses.{mem, ◌is_one_of◌, place, all_below, repeats, within, rows_in}
use Rattle.lists.proofs.Buses.{failed, neither, in-or-out, place-lt, place_none, get_or-place}
pub use Rattle.lists.proofs.Buses.{place-number}

-- ---- a list that repeats none

-- one number more at the end, which is not there yet
pub repeats-more : (ns : List ℕ) (k : ℕ) → repeats ns ≡ false → mem k ns ≡ false → repeats (ns ++ (k ∷ [])) ≡ false
unfolding repeats
repeats-more [] k d e = refl
repeats-more (x ∷ ns) k d e =
    let parts = neither (mem x ns) (repeats ns) d in
    let (differ, rest) = neither (eqb k x) (mem k ns) e in
    ap₂ (λ (a b : Bool). a || b) (mem-more x ns k parts.0 differ) (repeats-more ns k parts.1 rest)
  where
    turned : (a b : ℕ) → eqb a b ≡ false → eqb b a ≡ false
    turned a b h = ne_eqb b a (λ (p : b ≡ a). subst T h (eq→eqb (sym p)))

    mem-more : (x : ℕ) (ns : List ℕ) (k : ℕ) → mem x ns ≡ false → eqb k x ≡ false → mem x (ns ++ (k ∷ [])) ≡ false
    mem-more x [] k h d = rw (turned k x d)
    mem-more x (y ∷ ns) k h d =
        let (a, b) = neither (eqb x y) (mem x ns) h in
        ap₂ (λ (p q : Bool). p || q) a (mem-more x ns k b d)

-- ---- numbers and their rows

pub rows_in-append : (ns ks ls : List ℕ) → rows_in ns (ks ++ ls) ≡ rows_in ns ks ++ rows_in ns ls
unfolding rows_in
rows_in-append ns [] ls = refl
rows_in-append ns (k ∷ ks) ls = ap (λ (l : List ℕ). place k ns ∷ l) (rows_in-append ns ks ls)

-- a bus has a row exactly where its number is there
pub place-below : (k : ℕ) (ns : List ℕ) → ltb (place k ns) (length ns) ≡ mem k ns
place-below k ns = elim (in-or-out k ns) [
  | inl m ↦ lt-ltb (place k ns) (length ns) (place-lt k ns m) ∙ sym (is_true (mem k ns) m)
  | inr m ↦ ap (λ (p : ℕ). ltb p (length ns)) (place_none k ns m) ∙ not-below (length ns) ∙ sym (failed (mem k ns) m)
]
  where
    not-below : (n : ℕ) → ltb n n ≡ false
    not-below n = le-ltb n n (omega arith)

pub below-within : (ns ks : List ℕ) → all_below (length ns) (rows_in ns ks) ≡ within ns ks
unfolding all_below within rows_in
below-within ns [] = refl
below-within ns (k ∷ ks) = ap₂ (λ (a b : Bool). a && b) (place-below k ns) (below-within ns ks)

-- two numbers that are there and have one row are the same
place_same : (a b : ℕ) (ns : List ℕ) → a is_one_of ns → b is_one_of ns → place a ns ≡ place b ns → a ≡ b
place_same a b ns m l e = sym (get_or-place a ns m) ∙ ap (λ (i : ℕ). get_or ns i 0) e ∙ get_or-place b ns l

eqb-place : (a b : ℕ) (ns : List ℕ) → a is_one_of ns → b is_one_of ns → eqb (place a ns) (place b ns) ≡ eqb a b
eqb-place a b ns m l = go (eqb a b) (eqb→eq a b) (λ (p : a ≡ b). eq→eqb p)
  where
    go : (c : Bool) → (T c → a ≡ b) → (a ≡ b → T c) → eqb (place a ns) (place b ns) ≡ c
    go true f g = is_true (eqb (place a ns) (place b ns)) (eq→eqb (ap (λ (k : ℕ). place k ns) (f tt)))
    go false f g = ne_eqb (place a ns) (place b ns) (λ (p : place a ns ≡ place b ns). g (place_same a b ns m l p))

mem-rows : (ns : List ℕ) (k : ℕ) (ks : List ℕ) → k is_one_of ns → T (within ns ks) → mem (place k ns) (rows_in ns ks) ≡ mem k ks
unfolding within rows_in
mem-rows ns k [] m w = refl
mem-rows ns k (l ∷ ks) m w =
    ap₂ (λ (a b : Bool). a || b) (eqb-place k l ns m (and_l (mem l ns) (within ns ks) w)) (mem-rows ns k ks m (and_r (mem l ns) (within ns ks) w))

pub repeats-rows : (ns ks : List ℕ) → T (within ns ks) → repeats (rows_in ns ks) ≡ repeats ks
unfolding repeats within rows_in
repeats-rows ns [] w = refl
repeats-rows ns (k ∷ ks) w =
    ap₂ (λ (a b : Bool). a || b) (mem-rows ns k ks (and_l (mem k ns) (within ns ks) w) (and_r (mem k ns) (within ns ks) w)) (repeats-rows ns ks (and_r (mem k ns) (within ns ks) w))
