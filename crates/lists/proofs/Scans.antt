-- A loop that looks through a list from its front: what it asks of the list it asks of the rest. `search scanning` proves its steps.
use Rattle.prelude.proofs.Prelude.{◌≡◌, refl, sym, ap, ◌∙◌, Bool, true, false, List, [], ◌∷◌, ◌++◌, ℕ, ◌+◌, ◌-◌, ◌≤◌, ◌<◌, add-one, arith, length, get_or, take, drop, append_assoc, length-append, length-drop, drop_of_length-le, drop-cons, take_all, take_at, eq-eqb, ne_eqb, lt-ltb, le-ltb}
use Rattle.lists.proofs.Parts.{back}
use Rattle.lists.specs.Buses.{mem, all_below, repeats}

-- what f asks of the list it asks of what stands from i on
pub record Scan (f : List ℕ → Bool) (xs : List ℕ) (i : ℕ) : Type 0 where
  pub asks : f xs ≡ f (drop i xs)

pub scan-start : (f : List ℕ → Bool) (xs : List ℕ) → Scan f xs 0
scan-start f xs = record { asks = refl }

module _ (f : List ℕ → Bool) (xs : List ℕ) (i : ℕ) where
  split : i < length xs → f (drop i xs) ≡ f (get_or xs i 0 ∷ drop (i + 1) xs)
  split h = ap f (rw (add-one, drop-cons xs i 0))

  pub scan-more : i < length xs → Scan f xs i → f (get_or xs i 0 ∷ drop (i + 1) xs) ≡ f (drop (i + 1) xs) → Scan f xs (i + 1)
  scan-more h s e = record { asks = s.asks ∙ split h ∙ e }

  pub scan-stop : i < length xs → Scan f xs i → (b : Bool) → f (get_or xs i 0 ∷ drop (i + 1) xs) ≡ b → b ≡ f xs
  scan-stop h s b e = sym (s.asks ∙ split h ∙ e)

  pub scan-end : length xs ≤ i → Scan f xs i → f [] ≡ f xs
  scan-end h s = sym (s.asks ∙ ap f (drop_of_length-le xs h))

-- ---- whether a bus is in the list, and whether all are below n

module _ (k : ℕ) (xs : List ℕ) (i : ℕ) where
  pub mem-stop : Scan (mem k) xs i → i < length xs → get_or xs i 0 ≡ k → true ≡ mem k xs
  mem-stop s h e = scan-stop (mem k) xs i h s true (rw (eq-eqb k (get_or xs i 0) (sym e)))

  pub mem-more : Scan (mem k) xs i → i < length xs → (get_or xs i 0 ≡ k → ⊥) → Scan (mem k) xs (i + 1)
  mem-more s h n = scan-more (mem k) xs i h s (rw (ne_eqb k (get_or xs i 0) (λ e. n (sym e))))

  pub mem-none : Scan (mem k) xs i → length xs ≤ i → false ≡ mem k xs
  mem-none s h = scan-end (mem k) xs i h s

  pub below-stop : Scan (all_below k) xs i → i < length xs → k ≤ get_or xs i 0 → false ≡ all_below k xs
  unfolding all_below
  below-stop s h l = scan-stop (all_below k) xs i h s false (rw (le-ltb (get_or xs i 0) k l))

  pub below_on : Scan (all_below k) xs i → i < length xs → get_or xs i 0 < k → Scan (all_below k) xs (i + 1)
  unfolding all_below
  below_on s h l = scan-more (all_below k) xs i h s (rw (lt-ltb (get_or xs i 0) k l))

  pub below_end : Scan (all_below k) xs i → length xs ≤ i → true ≡ all_below k xs
  unfolding all_below
  below_end s h = scan-end (all_below k) xs i h s

-- ---- whether a bus stands twice

pub repeats-here : (x : ℕ) (xs : List ℕ) → mem x xs ≡ true → repeats (x ∷ xs) ≡ true
unfolding repeats
repeats-here x xs e = rw e

pub repeats-past : (x : ℕ) (xs : List ℕ) → mem x xs ≡ false → repeats (x ∷ xs) ≡ repeats xs
unfolding repeats
repeats-past x xs e = rw e

-- the part from i to the end
pub rest-is : (xs : List ℕ) (i : ℕ) → take (length xs - i) (drop i xs) ≡ drop i xs
rest-is xs i = take_all (length xs - i) (drop i xs) (rw length-drop (omega arith))

-- at the next bus, of which it was answered whether it stands in the part behind
module _ (xs : List ℕ) (i : ℕ) (s : Scan repeats xs i) where
  module _ (h : i < length xs) (answer : Bool) (e : answer ≡ mem (get_or xs i 0) (take (length xs - (i + 1)) (drop (i + 1) xs))) where
    behind : mem (get_or xs i 0) (drop (i + 1) xs) ≡ answer
    behind = ap (mem (get_or xs i 0)) (sym (rest-is xs (i + 1))) ∙ sym e

    pub twice-stop : answer ≡ true → true ≡ repeats xs
    twice-stop a = scan-stop repeats xs i h s true (repeats-here (get_or xs i 0) (drop (i + 1) xs) (behind ∙ a))

    pub twice-more : answer ≡ false → Scan repeats xs (i + 1)
    twice-more a = scan-more repeats xs i h s (repeats-past (get_or xs i 0) (drop (i + 1) xs) (behind ∙ a))

  pub twice-none : length xs ≤ i → false ≡ repeats xs
  unfolding repeats
  twice-none h = scan-end repeats xs i h s

pub ruleset scanning = (scan-start, mem-stop, mem-more, mem-none, below-stop, below_on, below_end, twice-stop, twice-more, twice-none)

-- ---- three lists put one after the other at the front of a longer one

pub joined : (E I B X : List ℕ) (e i b k l : ℕ) → length E ≡ e → length I ≡ i → length B ≡ b → take e X ≡ E
    → take (e + (i + b)) (back (e + i) l (back e k X I) B) ≡ E ++ (I ++ B)
joined E I B X e i b k l he hi hb h =
    let R : List ℕ = drop k (drop e X) in
    let first : back e k X I ≡ (E ++ I) ++ R = ap (λ (F : List ℕ). F ++ (I ++ R)) h ∙ sym (append_assoc E I R) in
    let long : length (E ++ I) ≡ e + i = length-append E I ∙ rw (he, hi) in
    let two : take (e + i) (back e k X I) ≡ E ++ I = ap (take (e + i)) first ∙ take_at (E ++ I) R (e + i) long in
    let Q : List ℕ = drop l (drop (e + i) (back e k X I)) in
    let whole : back (e + i) l (back e k X I) B ≡ (E ++ (I ++ B)) ++ Q =
    ap (λ (F : List ℕ). F ++ (B ++ Q)) two ∙ sym (append_assoc (E ++ I) B Q) ∙ ap (λ (F : List ℕ). F ++ Q) (append_assoc E I B) in
    ap (take (e + (i + b))) whole ∙ take_at (E ++ (I ++ B)) Q (e + (i + b)) (length-append E (I ++ B) ∙ rw (he, length-append I B, hi, hb))
