-- The refusal of a removal, told of the n rows at the front of a slice, and the same of the state that they hold.
use Rattle.std.proofs.Common.{Ok, Err}
use Rattle.refusals.specs.declared.Refusal.TheVariants.{SmallEntry, ComputedNotFinite}
use Rattle.refusals.proofs.Answering.{refused-by, none}
use Rattle.prelude.proofs.Prelude.{◌≡◌, refl, sym, ap, ◌∙◌, subst, Bool, true, false, cond, List, [], ◌∷◌, inl, inr, ℕ, ◌*◌, ◌≤◌, ◌<◌, T, length, get_or, take, Float, finite, ap₂, is_true, lt}
use Rattle.binary64.specs.Values.{all_finite}
use Rattle.complex.specs.{Matrix, entry_at, division_limit, sqmag, too_small}
use Rattle.complex.specs.Inner.Ordinary.{ordinary_square, all_ordinary}
use Rattle.complex.proofs.Sticky.{same_test}
use Rattle.lists.specs.Buses.{mem, ◌is_one_of◌, up_to, others, place, rising}
use Rattle.lists.proofs.Buses.{failed, in_head, in_tail, in-cases, stays, get_or-in, place-lt, get_or-place, place-get_or, below-up_to, in-up_to}
use Rattle.refusals.specs.Refusals.{outcome}
use Rattle.kron_reduction.specs.Kron.{kron, State, start, of_new_entry, of_removal, removal_refusal}
use Rattle.kron_reduction.specs.Inner.Removal.{of_entry, Fine}
use Rattle.kron_reduction.specs.Reducer.{state_in}
use Rattle.kron_reduction.proofs.Numbers.{removal-finite, removal-square, removal-at}
use Rattle.kron_reduction.proofs.Sizes.{ordinary-square, ordinary-entry}
use Rattle.kron_reduction.proofs.States.{refusal_of, refusal_is}

-- what is there, and is none of those taken out, is left
remains : (a : ℕ) (ks xs : List ℕ) → a is_one_of xs → (a is_one_of ks → ⊥) → a is_one_of others ks xs
unfolding others
remains a ks [] h n = h
remains a ks (x ∷ xs) h n = go (mem x ks) (λ (t : T (mem x ks)). t) (λ (t : a is_one_of xs). remains a ks xs t n)
  where
    go : (b : Bool) → (T b → x is_one_of ks) → (a is_one_of xs → a is_one_of others ks xs) → a is_one_of cond b (others ks xs) (x ∷ others ks xs)
    go true f ih = elim (in-cases a x xs h) [ inl e ↦ absurd (n (subst (λ (z : ℕ). z is_one_of ks) (sym e) (f tt))) | inr t ↦ ih t ]
    go false f ih = elim (in-cases a x xs h) [ inl e ↦ subst (λ (z : ℕ). z is_one_of x ∷ others ks xs) (sym e) (in_head x (others ks xs)) | inr t ↦ in_tail a x (others ks xs) (ih t) ]

one_of : (a k : ℕ) → a is_one_of k ∷ [] → a ≡ k
one_of a k m = elim (in-cases a k [] m) [ inl e ↦ e | inr t ↦ absurd t ]

left_over : (a k : ℕ) (xs : List ℕ) → a is_one_of xs → (a ≡ k → ⊥) → a is_one_of others (k ∷ []) xs
left_over a k xs m n = remains a (k ∷ []) xs m (λ (t : a is_one_of k ∷ []). n (one_of a k t))

other-than : (a k : ℕ) (xs : List ℕ) → a is_one_of others (k ∷ []) xs → (a is_one_of xs) × (a ≡ k → ⊥)
other-than a k xs m = let (here, out) = stays a (k ∷ []) xs m in (here, λ (e : a ≡ k). out (rw e (in_head k [])))

-- ---- the n rows of a slice

module _ (n : ℕ) (Y : Matrix) (k : ℕ) (l : k < n) where
  active : mem k (up_to n) ≡ true
  active = is_true (mem k (up_to n)) (in-up_to n k l)

  pub all-fine : T (all_finite (of_removal (start n Y) k)) → (i : ℕ) → i < n → (j : ℕ) → j < n → Fine k Y i j
  all-fine h i u j v p q = removal-at (start n Y) k h i j (left_over i k (up_to n) (in-up_to n i u) p) (left_over j k (up_to n) (in-up_to n j v) q)

  pub fine-all : T (finite (sqmag (Y k k))) → ((i : ℕ) → i < n → (j : ℕ) → j < n → Fine k Y i j) → T (all_finite (of_removal (start n Y) k))
  fine-all d h =
      removal-finite (start n Y) k d
      (λ (i j : ℕ) (x : i is_one_of others (k ∷ []) (up_to n)) (y : j is_one_of others (k ∷ []) (up_to n)).
      let (a, p) = other-than i k (up_to n) x in
      let (b, q) = other-than j k (up_to n) y in
      h i (below-up_to n i a) j (below-up_to n j b) p q)

  pub row_small : lt (sqmag (Y k k)) division_limit ≡ true → Err SmallEntry ≡ outcome (removal_refusal (start n Y) k)
  row_small small = refused-by (tt {0}) SmallEntry _ (refusal_is (start n Y) k ∙ rw (active, small))

  module _ (big : lt (sqmag (Y k k)) division_limit ≡ false) where
    pub row_done : T (all_finite (of_removal (start n Y) k)) → Ok tt ≡ outcome (removal_refusal (start n Y) k)
    row_done h = none (tt {0}) _ (refusal_is (start n Y) k ∙ rw (active, big, is_true (all_finite (of_removal (start n Y) k)) h))

    pub row-not : (T (all_finite (of_removal (start n Y) k)) → ⊥) → Err ComputedNotFinite ≡ outcome (removal_refusal (start n Y) k)
    row-not h = refused-by (tt {0}) ComputedNotFinite _ (refusal_is (start n Y) k ∙ rw (active, big, failed (all_finite (of_removal (start n Y) k)) h))

    pub row-square : finite (sqmag (Y k k)) ≡ false → Err ComputedNotFinite ≡ outcome (removal_refusal (start n Y) k)
    row-square e = row-not (λ (h : T (all_finite (of_removal (start n Y) k))). subst T e (removal-square (start n Y) k h))

-- rows of ordinary size, and a divisor that is not small
pub row-ordinary : (n : ℕ) (ys : List Float) (k : ℕ) → k < n → 2 * (n * n) ≤ length ys → T (all_ordinary (take (2 * (n * n)) ys))
    → lt (sqmag (entry_at n ys k k)) division_limit ≡ false → lt (sqmag (entry_at n ys k k)) ordinary_square ≡ false → Ok tt ≡ outcome (removal_refusal (start n (entry_at n ys)) k)
row-ordinary n ys k l fits all big far =
    row_done n (entry_at n ys) k l big
    (fine-all n (entry_at n ys) k l (ordinary-square n ys k l fits all big far)
    (λ (i : ℕ) (u : i < n) (j : ℕ) (v : j < n) (p : i ≡ k → ⊥) (q : j ≡ k → ⊥). unfold kron in ordinary-entry n ys k l fits all big far i j u v))

-- ---- the state that they hold

module _ (n : ℕ) (xs : List ℕ) (ys : List Float) (rises : T (rising xs)) (long : length xs ≡ n) (k : ℕ) (m : k is_one_of xs) where
  abbrev Y : Matrix
  Y = entry_at n ys

  abbrev K : ℕ
  K = place k xs

  abbrev s : State
  s = state_in n xs ys

  below : K < n
  below = subst (λ (w : ℕ). K < w) long (place-lt k xs m)

  -- the numbers of the entry that rows i and j make
  numbers_at : ℕ → ℕ → List Float
  numbers_at i j = of_entry (Y i j) (Y i K) (Y K j) (Y K K)

  by-bus : (a b : ℕ) → of_new_entry k s.entries a b ≡ numbers_at (place a xs) (place b xs)
  unfolding kron numbers_at
  by-bus a b = refl

  by_row : (i j : ℕ) → of_new_entry K Y i j ≡ numbers_at i j
  unfolding kron numbers_at
  by_row i j = refl

  -- the bus of another row, and the row of another bus
  bus-of : (i : ℕ) → i is_one_of others (K ∷ []) (up_to n) → (get_or xs i 0 is_one_of others (k ∷ []) xs) × (place (get_or xs i 0) xs ≡ i)
  bus-of i x =
      let (a, p) = other-than i K (up_to n) x in
      let l : i < length xs = subst (λ (w : ℕ). i < w) (sym long) (below-up_to n i a) in
      let e = place-get_or xs i rises l in
      (left_over (get_or xs i 0) k xs (get_or-in xs i l) (λ (q : get_or xs i 0 ≡ k). p (sym e ∙ ap (λ (b : ℕ). place b xs) q)), e)

  row_of : (a : ℕ) → a is_one_of others (k ∷ []) xs → place a xs is_one_of others (K ∷ []) (up_to n)
  row_of a x =
      let (h, p) = other-than a k xs x in
      let l : place a xs < n = subst (λ (w : ℕ). place a xs < w) long (place-lt a xs h) in
      left_over (place a xs) K (up_to n) (in-up_to n (place a xs) l) (λ (q : place a xs ≡ K). p (sym (get_or-place a xs h) ∙ ap (λ (i : ℕ). get_or xs i 0) q ∙ get_or-place k xs m))

  same_numbers : all_finite (of_removal s k) ≡ all_finite (of_removal (start n Y) K)
  same_numbers =
      same_test _ _
      (λ (h : T (all_finite (of_removal s k))).
      removal-finite (start n Y) K (removal-square s k h)
      (λ (i j : ℕ) (x : i is_one_of others (K ∷ []) (up_to n)) (y : j is_one_of others (K ∷ []) (up_to n)).
      let (a, e) = bus-of i x in
      let (b, f) = bus-of j y in
      subst (λ (l : List Float). T (all_finite l)) (by-bus (get_or xs i 0) (get_or xs j 0) ∙ ap₂ numbers_at e f ∙ sym (by_row i j)) (removal-at s k h (get_or xs i 0) (get_or xs j 0) a b)))
      (λ (h : T (all_finite (of_removal (start n Y) K))).
      removal-finite s k (removal-square (start n Y) K h)
      (λ (a b : ℕ) (x : a is_one_of others (k ∷ []) xs) (y : b is_one_of others (k ∷ []) xs).
      subst (λ (l : List Float). T (all_finite l)) (by_row (place a xs) (place b xs) ∙ sym (by-bus a b)) (removal-at (start n Y) K h (place a xs) (place b xs) (row_of a x) (row_of b y))))

  pub refusal-by-row : removal_refusal s k ≡ removal_refusal (start n Y) K
  refusal-by-row =
      refusal_is s k
      ∙ ap₂ (λ (a f : Bool). refusal_of a (too_small (Y K K)) f) (is_true (mem k xs) m ∙ sym (is_true (mem K (up_to n)) (in-up_to n K below))) same_numbers
      ∙ sym (refusal_is (start n Y) K)
