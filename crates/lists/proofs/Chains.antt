-- What the library's methods answer of a list, in the words of specs/Buses.
use Rattle.prelude.proofs.Prelude.{◌≡◌, refl, sym, subst, ◌∙◌, Bool, true, false, not, cond, List, [], ◌∷◌, ℕ, suc, ◌+◌, ◌-◌, ◌<◌, ◌≤◌, add-one, arith, get_or, take, drop, drop-cons, take_all, length-drop, drop_of_length-le, T, length, eqb, ltb, lt-ltb, le-ltb}
use Rattle.std.specs.List.{list_any, prefix_len}
use Rattle.std.proofs.Common.{Some, None, unwrap_or}
use Rattle.lists.specs.Buses.{mem, ◌is_one_of◌, place, found_in, repeats, repeats_by}
use Rattle.lists.proofs.Buses.{place-lt, place_none}
use Rattle.lists.proofs.Lookups.{eqb-turned}

-- `contains`
pub mem-is : (k : ℕ) (xs : List ℕ) → list_any (λ (y : ℕ). eqb y k) xs ≡ mem k xs
mem-is k [] = refl
mem-is k (x ∷ xs) = rw (eqb-turned x k, mem-is k xs)

pub repeats-is : (xs : List ℕ) → repeats_by eqb xs ≡ repeats xs
unfolding repeats repeats_by
repeats-is [] = refl
repeats-is (x ∷ xs) = rw (mem-is x xs, repeats-is xs)

-- the part from i to the end
pub rest-is : {A : Type 0} (xs : List A) (i : ℕ) → take (length xs - i) (drop i xs) ≡ drop i xs
rest-is xs i = take_all (length xs - i) (drop i xs) (rw length-drop (omega arith))

-- A list of which the part from i on is looked at: whether the first of it, x, stands once more behind, was answered. `search twice` proves the
-- steps of the loop.
module _ {A : Type 0} (same : A → A → Bool) (xs : List A) (i : ℕ) (at : repeats_by same xs ≡ repeats_by same (drop i xs)) where
  module _ (x : A) (is : x ≡ get_or xs i x) (h : i < length xs) (answer : Bool) (e : answer ≡ list_any (λ (y : A). same y x) (take (length xs - (i + 1)) (drop (i + 1) xs))) where
    part : drop i xs ≡ x ∷ take (length xs - (i + 1)) (drop (i + 1) xs)
    part = rw (rest-is, drop-cons xs i x h, ← is, add-one)

    pub twice-here : answer ≡ true → true ≡ repeats_by same xs
    unfolding repeats_by
    twice-here t = rw (at, part, ← e, t)

    pub twice-later : answer ≡ false → repeats_by same xs ≡ repeats_by same (drop (i + 1) xs)
    unfolding repeats_by
    twice-later f = at ∙ rw (part, ← e, f, rest-is)

  pub twice-none : length xs ≤ i → false ≡ repeats_by same xs
  unfolding repeats_by
  twice-none h = rw (at, drop_of_length-le xs h)

pub ruleset twice = (twice-here, twice-later, twice-none)

-- `position`
before : ℕ → List ℕ → ℕ
before k xs = prefix_len (λ (y : ℕ). not (eqb y k)) xs

place-is : (k : ℕ) (xs : List ℕ) → before k xs ≡ place k xs
unfolding before place
place-is k [] = refl
place-is k (x ∷ xs) = rw (eqb-turned x k) (go (place-is k xs) (eqb k x))
  where
    go : before k xs ≡ place k xs → (b : Bool) → cond (not b) (1 + before k xs) 0 ≡ cond b 0 (suc (place k xs))
    go e true = refl
    go e false = omega arith

pub found-is : (k : ℕ) (xs : List ℕ) → found_in k xs ≡ cond (mem k xs) (Some (place k xs)) None
unfolding before
found-is k xs = rw (place-is k xs) (go (mem k xs) (place-lt k xs) (place_none k xs))
  where
    go : (b : Bool) → (T b → place k xs < length xs) → ((T b → ⊥) → place k xs ≡ length xs)
        → cond (ltb (place k xs) (length xs)) (Some (place k xs)) None ≡ cond b (Some (place k xs)) None
    go true h n = rw (lt-ltb (place k xs) (length xs) (h tt))
    go false h n = rw (le-ltb (place k xs) (length xs) (let e = n (λ t. t) in omega arith))

-- ---- a bus that was found, or not

pub found_at : (k : ℕ) (xs : List ℕ) (p : ℕ) → found_in k xs ≡ Some p → (k is_one_of xs) × (place k xs ≡ p)
found_at k xs p e = go (mem k xs) (sym (found-is k xs) ∙ e)
  where
    go : (b : Bool) → cond b (Some (place k xs)) None ≡ Some p → T b × (place k xs ≡ p)
    go true e = (tt, cc)
    go false e = absurd (cc)

pub found-not : (k : ℕ) (xs : List ℕ) → found_in k xs ≡ None → mem k xs ≡ false
found-not k xs e = go (mem k xs) (sym (found-is k xs) ∙ e)
  where
    go : (b : Bool) → cond b (Some (place k xs)) None ≡ None → b ≡ false
    go true e = absurd (cc)
    go false e = refl

-- its row is then the count of rows
pub found_nowhere : (k : ℕ) (xs : List ℕ) → found_in k xs ≡ None → place k xs ≡ length xs
found_nowhere k xs e = place_none k xs (λ (m : k is_one_of xs). subst T (found-not k xs e) m)

pub place-or : (k : ℕ) (xs : List ℕ) → unwrap_or (found_in k xs) (length xs) ≡ place k xs
place-or k xs = rw (found-is k xs) (go (mem k xs) (place_none k xs))
  where
    go : (b : Bool) → ((T b → ⊥) → place k xs ≡ length xs) → unwrap_or (cond b (Some (place k xs)) None) (length xs) ≡ place k xs
    go true n = refl
    go false n = sym (n (λ t. t))
