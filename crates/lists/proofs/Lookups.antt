-- Numbers looked up from the front of a list: where one stands, and whether the rest is zero. `search seeking` and `search passing` prove the
-- steps of the loops.
use Rattle.prelude.proofs.Prelude.{◌≡◌, refl, sym, ◌∙◌, Bool, true, false, ◌&&◌, ◌||◌, List, [], ◌∷◌, ℕ, zero, suc, ◌+◌, ◌≤◌, ◌<◌, add-one, arith, T, eqb, length, get_or, drop, map, eqb→eq, length-map, drop_of_length-le, drop-cons, eq-eqb, ne_eqb}
use lib.Ieee.Fits.{eq→eqb}
use Rattle.lists.specs.Buses.{mem, place, all_zero, rows_in}
use Rattle.lists.proofs.Buses.{or_assoc}
use Rattle.lists.proofs.Ends.{mem-end}

-- ---- a list looked through to its end: whether all is zero, and whether a number is in it, of what was passed and of the rest

and_assoc : (a b c : Bool) → (a && (b && c)) ≡ (a && b && c)
and_assoc true b c = refl
and_assoc false b c = refl

pub and-true : (a : Bool) → (a && true) ≡ a
and-true true = refl
and-true false = refl

pub or-none : (f : Bool) → (f || false) ≡ f
or-none true = refl
or-none false = refl

pub eqb-turned : (a b : ℕ) → eqb a b ≡ eqb b a
eqb-turned a b = go (eqb b a) (eqb→eq b a) (λ (p : b ≡ a). eq→eqb p)
  where
    go : (c : Bool) → (T c → b ≡ a) → (b ≡ a → T c) → eqb a b ≡ c
    go true f g = eq-eqb a b (sym (f tt))
    go false f g = ne_eqb a b (λ (p : a ≡ b). g (sym p))

module _ (xs : List ℕ) (i : ℕ) (f : Bool) where
  module _ (e : all_zero xs ≡ (f && all_zero (drop i xs))) where
    pub zero_more : i < length xs → all_zero xs ≡ (f && eqb (get_or xs i 0) 0 && all_zero (drop (i + 1) xs))
    unfolding all_zero
    zero_more h = e ∙ rw (drop-cons xs i 0, and_assoc, add-one)

    pub zero-end : length xs ≤ i → f ≡ all_zero xs
    unfolding all_zero
    zero-end h = sym (e ∙ rw (drop_of_length-le xs h) (and-true f))

  module _ (k : ℕ) (e : mem k xs ≡ (f || mem k (drop i xs))) where
    pub seen_more : i < length xs → mem k xs ≡ (f || eqb (get_or xs i 0) k || mem k (drop (i + 1) xs))
    seen_more h = e ∙ rw (drop-cons xs i 0, or_assoc, eqb-turned k (get_or xs i 0), add-one)

    pub seen_end : length xs ≤ i → f ≡ mem k xs
    seen_end h = sym (e ∙ rw (mem-end k i xs h) (or-none f))

pub ruleset passing = (zero_more, zero-end, seen_more, seen_end)

-- ---- the rows of a list of buses

pub length-rows_in : (ns ks : List ℕ) → length (rows_in ns ks) ≡ length ks
unfolding rows_in
length-rows_in ns ks = length-map ks (λ (k : ℕ). place k ns)

pub get_or_map : {A B : Type 0} (f : A → B) (d : A) (e : B) (xs : List A) (i : ℕ) → i < length xs → get_or (map f xs) i e ≡ f (get_or xs i d)
get_or_map f d e [] i h = absurd (omega arith)
get_or_map f d e (x ∷ xs) zero h = refl
get_or_map f d e (x ∷ xs) (suc i) h = get_or_map f d e xs i (omega arith)

pub get_or-rows_in : (ns ks : List ℕ) (i : ℕ) → i < length ks → get_or (rows_in ns ks) i 0 ≡ place (get_or ks i 0) ns
unfolding rows_in
get_or-rows_in ns = get_or_map (λ (k : ℕ). place k ns) 0 0
