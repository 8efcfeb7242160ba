-- Laws about lists of buses: membership, the buses left when some are taken out, rows by place, and rising lists.
use Rattle.prelude.proofs.Prelude.{◌≡◌, refl, sym, ap, ◌∙◌, subst, Bool, true, false, ◌||◌, cond, ◌⊎◌, inl, inr, List, [], ◌∷◌, ◌++◌, ℕ, zero, suc, ◌+◌, ◌≤◌, ◌<◌, arith, T, eqb, ltb, length, get_or, take, drop, lt_irrefl, lt_of_lt_of_le, eq-or-lt_of_le, zero-lt-suc, eqb→eq, ltb→lt, lt→ltb, and_i, and_l, and_r, is_true, true≢false}
use native.Mathlib.Nat.{le_refl, le-suc, lt_trans, le_of_suc-le-suc, not-suc-le-zero}
use lib.Dec.{eqb_refl}
use lib.Ieee.Fits.{eq→eqb}
use Rattle.lists.specs.Buses.{up_to, mem, ◌is_one_of◌, others, place, rising, all_below, repeats}

-- ---- membership

pub failed : (b : Bool) → (T b → ⊥) → b ≡ false
failed true f = absurd (f tt)
failed false f = refl

pub neither : (a b : Bool) → (a || b) ≡ false → (a ≡ false) × (b ≡ false)
neither true b e = absurd (true≢false e)
neither false b e = (refl, e)

pub or_cases : (a b : Bool) → T (a || b) → T a ⊎ T b
or_cases true b t = inl t
or_cases false b t = inr t

pub or_left : (a b : Bool) → T a → T (a || b)
or_left true b t = tt
or_left false b t = absurd t

pub or_right : (a b : Bool) → T b → T (a || b)
or_right true b t = tt
or_right false b t = t

pub in_head : (k : ℕ) (xs : List ℕ) → k is_one_of k ∷ xs
in_head k xs = or_left (eqb k k) (mem k xs) (eqb_refl k)

pub in_tail : (k x : ℕ) (xs : List ℕ) → k is_one_of xs → k is_one_of x ∷ xs
in_tail k x xs m = or_right (eqb k x) (mem k xs) m

pub in-cases : (k x : ℕ) (xs : List ℕ) → k is_one_of x ∷ xs → (k ≡ x) ⊎ (k is_one_of xs)
in-cases k x xs m = elim (or_cases (eqb k x) (mem k xs) m) [ inl t ↦ inl (eqb→eq k x t) | inr t ↦ inr t ]

pub in-or-out : (k : ℕ) (xs : List ℕ) → (k is_one_of xs) ⊎ (k is_one_of xs → ⊥)
in-or-out k xs = go (mem k xs)
  where
    go : (b : Bool) → T b ⊎ (T b → ⊥)
    go true = inl tt
    go false = inr (λ (t : ⊥). t)

pub or_assoc : (a b c : Bool) → (a || b || c) ≡ (a || (b || c))
or_assoc true b c = refl
or_assoc false b c = refl

mem-append : (k : ℕ) (xs ys : List ℕ) → mem k (xs ++ ys) ≡ (mem k xs || mem k ys)
mem-append k [] ys = refl
mem-append k (x ∷ xs) ys = ap (λ (b : Bool). eqb k x || b) (mem-append k xs ys) ∙ sym (or_assoc (eqb k x) (mem k xs) (mem k ys))

pub in-append : (k : ℕ) (xs ys : List ℕ) → (k is_one_of xs) ⊎ (k is_one_of ys) → k is_one_of xs ++ ys
in-append k xs ys (inl m) = rw mem-append (or_left (mem k xs) (mem k ys) m)
in-append k xs ys (inr m) = rw mem-append (or_right (mem k xs) (mem k ys) m)

pub append_cases : (k : ℕ) (xs ys : List ℕ) → k is_one_of xs ++ ys → (k is_one_of xs) ⊎ (k is_one_of ys)
append_cases k xs ys m = or_cases (mem k xs) (mem k ys) (rw mem-append at m)

pub get_or-in : (xs : List ℕ) (i : ℕ) → i < length xs → get_or xs i 0 is_one_of xs
get_or-in [] i h = absurd (not-suc-le-zero h)
get_or-in (x ∷ xs) zero h = in_head x xs
get_or-in (x ∷ xs) (suc i) h = in_tail (get_or xs i 0) x xs (get_or-in xs i (le_of_suc-le-suc h))

-- ---- others

-- what is left was there, and is none of those taken out
pub stays : (a : ℕ) (ks xs : List ℕ) → a is_one_of others ks xs → (a is_one_of xs) × (a is_one_of ks → ⊥)
unfolding others
stays a ks [] h = absurd h
stays a ks (x ∷ xs) h = go (mem x ks) (λ (t : x is_one_of ks). t) (λ (t : a is_one_of others ks xs). stays a ks xs t) h
  where
    go : (b : Bool) → (x is_one_of ks → T b) → (a is_one_of others ks xs → (a is_one_of xs) × (a is_one_of ks → ⊥)) → a is_one_of cond b (others ks xs) (x ∷ others ks xs) → (a is_one_of x ∷ xs) × (a is_one_of ks → ⊥)
    go true g ih h = (in_tail a x xs (ih h).0, (ih h).1)
    go false g ih h = elim (or_cases (eqb a x) (mem a (others ks xs)) h) [
      | inl t ↦ (or_left (eqb a x) (mem a xs) t, λ (m : a is_one_of ks). g (subst (λ (z : ℕ). z is_one_of ks) (eqb→eq a x t) m))
      | inr t ↦ (in_tail a x xs (ih t).0, (ih t).1)
    ]

pub others-nil : (xs : List ℕ) → others [] xs ≡ xs
unfolding others
others-nil [] = refl
others-nil (x ∷ xs) = ap (λ (l : List ℕ). x ∷ l) (others-nil xs)

-- where none of ks is there
pub others-none : (ks xs : List ℕ) → ((k : ℕ) → k is_one_of xs → k is_one_of ks → ⊥) → others ks xs ≡ xs
unfolding others
others-none ks [] h = refl
others-none ks (x ∷ xs) h = rw (failed (mem x ks) (h x (in_head x xs)), others-none ks xs (λ (k : ℕ) (m : k is_one_of xs). h k (in_tail k x xs m)))

-- first some, then others
pub others-append : (ks ls xs : List ℕ) → others ls (others ks xs) ≡ others (ks ++ ls) xs
unfolding others
others-append ks ls [] = refl
others-append ks ls (x ∷ xs) = rw mem-append (go (mem x ks) (mem x ls) refl (others-append ks ls xs))
  where
    go : (b c : Bool) → mem x ls ≡ c → others ls (others ks xs) ≡ others (ks ++ ls) xs
        → others ls (cond b (others ks xs) (x ∷ others ks xs)) ≡ cond (b || c) (others (ks ++ ls) xs) (x ∷ others (ks ++ ls) xs)
    go true c e ih = ih
    go false c e ih = rw (e, ih)

-- ---- all below a number

pub below_all : (n : ℕ) (xs : List ℕ) → T (all_below n xs) → (k : ℕ) → k is_one_of xs → k < n
unfolding all_below
below_all n [] h k m = absurd m
below_all n (x ∷ xs) h k m = elim (in-cases k x xs m) [
  | inl p ↦ rw p (ltb→lt x n (and_l (ltb x n) (all_below n xs) h))
  | inr t ↦ below_all n xs (and_r (ltb x n) (all_below n xs) h) k t
]

pub all-below : (n : ℕ) (xs : List ℕ) → ((k : ℕ) → k is_one_of xs → k < n) → T (all_below n xs)
unfolding all_below
all-below n [] h = tt
all-below n (x ∷ xs) h = and_i (ltb x n) (all_below n xs) (lt→ltb x n (h x (in_head x xs))) (all-below n xs (λ (k : ℕ) (m : k is_one_of xs). h k (in_tail k x xs m)))

pub all-below-others : (n : ℕ) (ks xs : List ℕ) → T (all_below n xs) → T (all_below n (others ks xs))
all-below-others n ks xs h = all-below n (others ks xs) (λ (k : ℕ) (m : k is_one_of others ks xs). below_all n xs h k (stays k ks xs m).0)

-- ---- rising

pub rising-tail : (x : ℕ) (xs : List ℕ) → T (rising (x ∷ xs)) → T (rising xs)
unfolding rising
rising-tail x [] h = tt
rising-tail x (y ∷ xs) h = and_r (ltb x y) (rising (y ∷ xs)) h

pub rising-above : (x : ℕ) (xs : List ℕ) → T (rising (x ∷ xs)) → (k : ℕ) → k is_one_of xs → x < k
unfolding rising
rising-above x [] h k m = absurd m
rising-above x (y ∷ xs) h k m =
    let first = ltb→lt x y (and_l (ltb x y) (rising (y ∷ xs)) h) in
    elim (in-cases k y xs m) [ inl p ↦ rw p first | inr t ↦ lt_trans first (rising-above y xs (and_r (ltb x y) (rising (y ∷ xs)) h) k t) ]

pub rising-cons : (x : ℕ) (xs : List ℕ) → ((k : ℕ) → k is_one_of xs → x < k) → T (rising xs) → T (rising (x ∷ xs))
unfolding rising
rising-cons x [] h r = tt
rising-cons x (y ∷ xs) h r = and_i (ltb x y) (rising (y ∷ xs)) (lt→ltb x y (h y (in_head y xs))) r

pub rising-others : (ks xs : List ℕ) → T (rising xs) → T (rising (others ks xs))
unfolding others
rising-others ks [] h = h
rising-others ks (x ∷ xs) h = go (mem x ks) (rising-others ks xs (rising-tail x xs h))
  where
    go : (b : Bool) → T (rising (others ks xs)) → T (rising (cond b (others ks xs) (x ∷ others ks xs)))
    go true ih = ih
    go false ih = rising-cons x (others ks xs) (λ (k : ℕ) (m : k is_one_of others ks xs). rising-above x xs h k (stays k ks xs m).0) ih

pub rising_snoc : (xs : List ℕ) (n : ℕ) → T (rising xs) → ((k : ℕ) → k is_one_of xs → k < n) → T (rising (xs ++ (n ∷ [])))
unfolding rising
rising_snoc [] n r h = tt
rising_snoc (x ∷ xs) n r h = rising-cons x (xs ++ (n ∷ [])) above (rising_snoc xs n (rising-tail x xs r) (λ (k : ℕ) (m : k is_one_of xs). h k (in_tail k x xs m)))
  where
    above : (k : ℕ) → k is_one_of xs ++ (n ∷ []) → x < k
    above k m = elim (append_cases k xs (n ∷ []) m) [
      | inl t ↦ rising-above x xs r k t
      | inr t ↦ elim (in-cases k n [] t) [ inl p ↦ rw p (h x (in_head x xs)) | inr u ↦ absurd u ]
    ]

-- rising buses from lo up, below n
rising-room : (lo n : ℕ) (xs : List ℕ) → lo ≤ n → T (rising xs) → ((k : ℕ) → k is_one_of xs → lo ≤ k) → T (all_below n xs) → length xs + lo ≤ n
rising-room lo n [] l r up b = omega arith
rising-room lo n (x ∷ xs) l r up b =
    let here : x < n = below_all n (x ∷ xs) b x (in_head x xs) in
    let low : lo ≤ x = up x (in_head x xs) in
    let ih = rising-room (suc x) n xs here (rising-tail x xs r) (rising-above x xs r) (all-below n xs (λ (k : ℕ) (m : k is_one_of xs). below_all n (x ∷ xs) b k (in_tail k x xs m))) in
    omega arith

pub rising-length : (n : ℕ) (xs : List ℕ) → T (rising xs) → T (all_below n xs) → length xs ≤ n
rising-length n xs r b =
    let h = rising-room 0 n xs (omega arith) r (λ (k : ℕ) (m : k is_one_of xs). omega arith) b in
    omega arith

-- ---- place

pub place-lt : (k : ℕ) (xs : List ℕ) → k is_one_of xs → place k xs < length xs
unfolding place
place-lt k [] m = absurd m
place-lt k (x ∷ xs) m = go (eqb k x) (λ (t : T (mem k xs)). place-lt k xs t) m
  where
    go : (b : Bool) → (k is_one_of xs → place k xs < length xs) → T (b || mem k xs) → cond b 0 (suc (place k xs)) < suc (length xs)
    go true ih m = zero-lt-suc (length xs)
    go false ih m = let h = ih m in omega arith

pub place_none : (k : ℕ) (xs : List ℕ) → (k is_one_of xs → ⊥) → place k xs ≡ length xs
unfolding place
place_none k [] m = refl
place_none k (x ∷ xs) m =
    rw (failed (eqb k x) (λ (t : T (eqb k x)). m (or_left (eqb k x) (mem k xs) t)), place_none k xs (λ (t : k is_one_of xs). m (in_tail k x xs t)))

pub get_or-place : (k : ℕ) (xs : List ℕ) → k is_one_of xs → get_or xs (place k xs) 0 ≡ k
unfolding place
get_or-place k [] m = absurd m
get_or-place k (x ∷ xs) m = go (eqb k x) (eqb→eq k x) (λ (t : k is_one_of xs). get_or-place k xs t) m
  where
    go : (b : Bool) → (T b → k ≡ x) → (k is_one_of xs → get_or xs (place k xs) 0 ≡ k) → T (b || mem k xs) → get_or (x ∷ xs) (cond b 0 (suc (place k xs))) 0 ≡ k
    go true f ih m = sym (f tt)
    go false f ih m = ih m

-- where no bus stands twice, the one in row i has row i
pub place-number : (xs : List ℕ) (i : ℕ) → repeats xs ≡ false → i < length xs → place (get_or xs i 0) xs ≡ i
unfolding repeats place
place-number [] i d h = absurd (not-suc-le-zero h)
place-number (x ∷ xs) zero d h = rw (is_true (eqb x x) (eqb_refl x))
place-number (x ∷ xs) (suc i) d h =
    let (new, rest) = neither (mem x xs) (repeats xs) d in
    let l : i < length xs = le_of_suc-le-suc h in
    let k : ℕ = get_or xs i 0 in
    let other : T (eqb k x) → ⊥ = λ t. subst T new (subst (λ (z : ℕ). z is_one_of xs) (eqb→eq k x t) (get_or-in xs i l)) in
    rw (failed (eqb k x) other, place-number xs i rest l)

-- nor does one in a rising list
rising-distinct : (xs : List ℕ) → T (rising xs) → repeats xs ≡ false
unfolding repeats
rising-distinct [] r = refl
rising-distinct (x ∷ xs) r = rw (failed (mem x xs) (λ (m : x is_one_of xs). lt_irrefl x (rising-above x xs r x m)), rising-distinct xs (rising-tail x xs r))

pub place-get_or : (xs : List ℕ) (i : ℕ) → T (rising xs) → i < length xs → place (get_or xs i 0) xs ≡ i
place-get_or xs i r h = place-number xs i (rising-distinct xs r) h

-- ---- one bus taken out

pub others-one : (k : ℕ) (xs : List ℕ) → T (rising xs) → k is_one_of xs → others (k ∷ []) xs ≡ take (place k xs) xs ++ drop (suc (place k xs)) xs
unfolding others place
others-one k [] r m = absurd m
others-one k (x ∷ xs) r m = go (eqb k x) (eqb x k) (eqb→eq k x) (λ (t : T (eqb k x)). eq→eqb (sym (eqb→eq k x t))) (λ (t : T (eqb x k)). eq→eqb (sym (eqb→eq x k t))) (λ (t : k is_one_of xs). others-one k xs (rising-tail x xs r) t) m
  where
    away : k ≡ x → others (k ∷ []) xs ≡ xs
    away p = others-none (k ∷ []) xs (λ (y : ℕ) (m : y is_one_of xs) (t : y is_one_of k ∷ []). elim (in-cases y k [] t) [
      | inl q ↦ lt_irrefl x (subst (λ (z : ℕ). x < z) (q ∙ p) (rising-above x xs r y m))
      | inr u ↦ u
    ])

    go : (b c : Bool) → (T b → k ≡ x) → (T b → T c) → (T c → T b) → (k is_one_of xs → others (k ∷ []) xs ≡ take (place k xs) xs ++ drop (suc (place k xs)) xs) → T (b || mem k xs)
        → cond (c || false) (others (k ∷ []) xs) (x ∷ others (k ∷ []) xs) ≡ take (cond b 0 (suc (place k xs))) (x ∷ xs) ++ drop (suc (cond b 0 (suc (place k xs)))) (x ∷ xs)
    go true true e f g ih m = away (e tt)
    go true false e f g ih m = absurd (f tt)
    go false true e f g ih m = absurd (g tt)
    go false false e f g ih m = ap (λ (l : List ℕ). x ∷ l) (ih m)

-- ---- 0, 1, .. n - 1

pub below-up_to : (n k : ℕ) → k is_one_of up_to n → k < n
unfolding up_to
below-up_to zero k h = absurd h
below-up_to (suc n) k h = elim (append_cases k (up_to n) (n ∷ []) h) [
  | inl t ↦ lt_of_lt_of_le (below-up_to n k t) (le-suc n)
  | inr t ↦ elim (in-cases k n [] t) [ inl p ↦ rw p (le_refl (suc n)) | inr u ↦ absurd u ]
]

pub in-up_to : (n k : ℕ) → k < n → k is_one_of up_to n
unfolding up_to
in-up_to zero k h = absurd (not-suc-le-zero h)
in-up_to (suc n) k h = in-append k (up_to n) (n ∷ [])
    (elim (eq-or-lt_of_le (le_of_suc-le-suc h)) [ inl p ↦ inr (or_left (eqb k n) false (eq→eqb p)) | inr l ↦ inl (in-up_to n k l) ])

pub rising-up_to : (n : ℕ) → T (rising (up_to n))
unfolding up_to rising
rising-up_to zero = tt
rising-up_to (suc n) = rising_snoc (up_to n) n (rising-up_to n) (below-up_to n)

pub all-below-up_to : (n : ℕ) → T (all_below n (up_to n))
all-below-up_to n = all-below n (up_to n) (below-up_to n)
