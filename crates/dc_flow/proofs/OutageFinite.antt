-- Which numbers of `lodf_matrix` tell that all are finite: of two branches or more the denominators and the factors; of one, none; and where the PTDF is
-- of ordinary size, all are.
use Rattle.prelude.proofs.Prelude.{◌≡◌, refl, sym, ap, subst, ◌∙◌, Bool, true, false, ◌&&◌, cond, List, [], ◌∷◌, ◌++◌, inl, inr, ℕ, zero, suc, ◌+◌, ◌*◌, ◌≤◌, ◌<◌, arith, T, eqb, length, get_or, Float, binary64, lt, neg, of_bits, and_i, and_l, and_r, finite, eq-eqb, ne_eqb, lit≤}
use Rattle.binary64.specs.Values.{all_finite}
use Rattle.binary64.proofs.Operands.{sub-operands, dividend}
use Rattle.complex.proofs.Sizes.{In, in-finite, larger-in, sub_in, ordinary-at}
use Rattle.complex.proofs.SmallMagnitude.{over-strong}
use Rattle.complex.specs.{plus0, one, small_magnitude, abs, ◌⊖◌, ◌⊘◌}
use Rattle.complex.specs.Inner.Ordinary.{all_ordinary}
use Rattle.complex.proofs.Finite.{none, all_more, all_join, all_left, all_right, first_of, rest_of}
use Rattle.complex.proofs.Sticky.{same_test}
use Rattle.complex.proofs.Matrices.{entry-within}
use Rattle.lists.specs.Buses.{all_below}
use Rattle.lists.proofs.Order.{lt-or-ge}
use Rattle.lists.proofs.Ends.{below_at}
use Rattle.dc_flow.specs.Dc.{each, transfer, branch_transfer, denominator, outage_factor, outage, real_row, real_grid, of_factor, of_outage, of_lodf}
use Rattle.dc_flow.proofs.OutageLaws.{to_below, real_grid-next}

-- ---- lists one behind the other

module _ (F : ℕ → List Float) where
  pub each-finite : (m : ℕ) → ((k : ℕ) → k < m → T (all_finite (F k))) → T (all_finite (each F m))
  unfolding each
  each-finite zero h = none
  each-finite (suc m) h = all_join (each F m) (F m) (each-finite m (λ k l. h k (omega arith))) (h m (omega arith))

  pub each_at : (m k : ℕ) → k < m → T (all_finite (each F m)) → T (all_finite (F k))
  unfolding each
  each_at zero k l h = absurd (omega arith)
  each_at (suc m) k l h =
      elim (lt-or-ge k m) [
        | inl less ↦ each_at m k less (all_left (each F m) (F m) h)
        | inr more ↦ let e : k ≡ m = omega arith in rw e (all_right (each F m) (F m) h)
      ]

pub row_is : (F : ℕ → Float) (m : ℕ) → real_row F m ≡ each (λ (k : ℕ). F k ∷ []) m
unfolding real_row each
row_is F zero = refl
row_is F (suc m) = ap (λ (xs : List Float). xs ++ (F m ∷ [])) (row_is F m)

pub grid-is : (F : ℕ → ℕ → Float) (m l : ℕ) → real_grid F m l ≡ each (λ (i : ℕ). real_row (F i) m) l
unfolding real_grid each
grid-is F m zero = refl
grid-is F m (suc l) = ap (λ (xs : List Float). xs ++ real_row (F l) m) (grid-is F m l)

pub row-finite : (F : ℕ → Float) (m : ℕ) → ((k : ℕ) → k < m → T (finite (F k))) → T (all_finite (real_row F m))
row-finite F m h = rw row_is (each-finite (λ (k : ℕ). F k ∷ []) m (λ k l. all_more (F k) [] (h k l) none))

pub row_at : (F : ℕ → Float) (m k : ℕ) → k < m → T (all_finite (real_row F m)) → T (finite (F k))
row_at F m k l h = first_of (F k) [] (each_at (λ (k : ℕ). F k ∷ []) m k l (rw row_is at h))

pub grid-finite : (F : ℕ → ℕ → Float) (m r : ℕ) → ((l k : ℕ) → l < r → k < m → T (finite (F l k))) → T (all_finite (real_grid F m r))
grid-finite F m r h = rw grid-is (each-finite (λ (l : ℕ). real_row (F l) m) r (λ l i. row-finite (F l) m (λ k j. h l k i j)))

pub grid-at : (F : ℕ → ℕ → Float) (m r l k : ℕ) → l < r → k < m → T (all_finite (real_grid F m r)) → T (finite (F l k))
grid-at F m r l k i j h = row_at (F l) m k j (each_at (λ (l : ℕ). real_row (F l) m) r l i (rw grid-is at h))

-- as a loop tells it
pub tested : (b : Bool) → T b → true ≡ b
tested true h = refl
tested false h = absurd h

pub untested : (a b : Bool) → a ≡ false → (T b → T a) → false ≡ b
untested a true e f = absurd (subst T e (f tt))
untested a false e f = refl

pub row-passed : (F : ℕ → Float) (m k : ℕ) → m ≤ k → ((j : ℕ) → j < k → T (finite (F j))) → true ≡ all_finite (real_row F m)
row-passed F m k l h = tested _ (row-finite F m (λ j i. h j (omega arith)))

pub row-failed : (F : ℕ → Float) (m k : ℕ) → k < m → finite (F k) ≡ false → false ≡ all_finite (real_row F m)
row-failed F m k l e = untested (finite (F k)) (all_finite (real_row F m)) e (row_at F m k l)

pub one-more-finite : (F : ℕ → Float) (k : ℕ) → ((j : ℕ) → j < k → T (finite (F j))) → T (finite (F k)) → (j : ℕ) → j < k + 1 → T (finite (F j))
one-more-finite F k h t j l =
    elim (lt-or-ge j k) [
      | inl less ↦ h j less
      | inr more ↦ let e : j ≡ k = omega arith in rw e t
    ]

pub grid-passed : (F : ℕ → ℕ → Float) (m l : ℕ) → m ≤ l → l ≤ m → T (all_finite (real_grid F m l)) → true ≡ all_finite (real_grid F m m)
grid-passed F m l h g t = let e : l ≡ m = omega arith in tested _ (subst (λ (k : ℕ). T (all_finite (real_grid F m k))) e t)

pub grid-failed : (F : ℕ → ℕ → Float) (m l : ℕ) → l < m → all_finite (real_row (F l) m) ≡ false → false ≡ all_finite (real_grid F m m)
grid-failed F m l h e =
    untested (all_finite (real_row (F l) m)) (all_finite (real_grid F m m)) e
    (λ (t : T (all_finite (real_grid F m m))). each_at (λ (i : ℕ). real_row (F i) m) m l h (rw grid-is at t))

pub grid-more : (F : ℕ → ℕ → Float) (m l : ℕ) → T (all_finite (real_grid F m l)) → T (all_finite (real_row (F l) m)) → T (all_finite (real_grid F m (l + 1)))
grid-more F m l h r = rw real_grid-next (all_join (real_grid F m l) (real_row (F l) m) h r)

-- ---- one factor

minus-one-finite : T (finite (neg one))
unfolding one of_bits neg
minus-one-finite = tt

plus0-finite : T (finite plus0)
unfolding plus0 of_bits
plus0-finite = tt

-- the denominator and the factor tell all
pub factor-told : (same : Bool) (own taken : Float) → (same ≡ false → T (finite (one ⊖ own))) → T (finite (outage_factor same taken (one ⊖ own)))
    → T (all_finite (of_factor same own taken (one ⊖ own)))
unfolding of_factor outage_factor
factor-told true own taken d f = none
factor-told false own taken d f = all_more own _ (sub-operands binary64 one own (d refl)).1 (all_more (one ⊖ own) _ (d refl) (go (lt (abs (one ⊖ own)) small_magnitude) f))
  where
    go : (weak : Bool) → T (finite (cond weak plus0 (taken ⊘ (one ⊖ own)))) → T (all_finite (cond weak [] (taken ∷ taken ⊘ (one ⊖ own) ∷ [])))
    go true h = none
    go false h = all_more taken _ (dividend binary64 taken (one ⊖ own) h) (all_more (taken ⊘ (one ⊖ own)) [] h none)

-- and all tell them
pub denominator-of : (own taken d : Float) → T (all_finite (of_factor false own taken d)) → T (finite d)
unfolding of_factor
denominator-of own taken d h = first_of d _ (rest_of own _ h)

pub factor-of : (same : Bool) (own taken d : Float) → T (all_finite (of_factor same own taken d)) → T (finite (outage_factor same taken d))
unfolding of_factor outage_factor
factor-of true own taken d h = minus-one-finite
factor-of false own taken d h = go (lt (abs d) small_magnitude) (rest_of d _ (rest_of own _ h))
  where
    go : (weak : Bool) → T (all_finite (cond weak [] (taken ∷ taken ⊘ d ∷ []))) → T (finite (cond weak plus0 (taken ⊘ d)))
    go true h = plus0-finite
    go false h = first_of (taken ⊘ d) [] (rest_of taken _ h)

-- ---- all of them

module _ (n : ℕ) (ptdf : List Float) (froms tos : List ℕ) where
  numbers-at : (l k : ℕ) → l < length froms → k < length froms → T (all_finite (of_lodf n ptdf froms tos)) → T (all_finite (of_outage n ptdf froms tos l k))
  unfolding of_lodf
  numbers-at l k i j h =
      each_at (of_outage n ptdf froms tos l) (length froms) k j (each_at (λ (l : ℕ). each (of_outage n ptdf froms tos l) (length froms)) (length froms) l i h)

  all-numbers : ((l k : ℕ) → l < length froms → k < length froms → T (all_finite (of_outage n ptdf froms tos l k))) → T (all_finite (of_lodf n ptdf froms tos))
  unfolding of_lodf
  all-numbers h = each-finite (λ (l : ℕ). each (of_outage n ptdf froms tos l) (length froms)) (length froms) (λ l i. each-finite (of_outage n ptdf froms tos l) (length froms) (λ k j. h l k i j))

  -- what an accepted call writes
  pub factors-finite : T (all_finite (of_lodf n ptdf froms tos)) → T (all_finite (real_grid (outage n ptdf froms tos) (length froms) (length froms)))
  unfolding outage of_outage
  factors-finite h =
      grid-finite (outage n ptdf froms tos) (length froms) (length froms)
      (λ l k i j. factor-of (eqb l k) (branch_transfer n ptdf froms tos k k) (branch_transfer n ptdf froms tos k l) (denominator n ptdf froms tos k) (numbers-at l k i j h))

  -- another branch than k, of two or more
  other : (k : ℕ) → 2 ≤ length froms → (l : ℕ) × (l < length froms) × (eqb l k ≡ false)
  other zero h = (1, omega arith, refl)
  other (suc k) h = (0, omega arith, ne_eqb 0 (suc k) (λ e. omega arith))

  denominators-finite : 2 ≤ length froms → T (all_finite (of_lodf n ptdf froms tos)) → T (all_finite (real_row (denominator n ptdf froms tos) (length froms)))
  unfolding of_outage
  denominators-finite two h = row-finite (denominator n ptdf froms tos) (length froms) (λ k j. let (l, i, e) = other k two in
      denominator-of (branch_transfer n ptdf froms tos k k) (branch_transfer n ptdf froms tos k l) (denominator n ptdf froms tos k)
      (subst (λ (b : Bool). T (all_finite (of_factor b (branch_transfer n ptdf froms tos k k) (branch_transfer n ptdf froms tos k l) (denominator n ptdf froms tos k)))) e (numbers-at l k i j h)))

  pub lodf-tells : 2 ≤ length froms
      → (all_finite (real_row (denominator n ptdf froms tos) (length froms)) && all_finite (real_grid (outage n ptdf froms tos) (length froms) (length froms)))
      ≡ all_finite (of_lodf n ptdf froms tos)
  unfolding of_outage outage denominator
  lodf-tells two =
      let ds = real_row (denominator n ptdf froms tos) (length froms) in
      let grid = real_grid (outage n ptdf froms tos) (length froms) (length froms) in
      same_test _ _
      (λ (h : T (all_finite ds && all_finite grid)). all-numbers (λ l k i j.
      factor-told (eqb l k) (branch_transfer n ptdf froms tos k k) (branch_transfer n ptdf froms tos k l)
      (λ e. row_at (denominator n ptdf froms tos) (length froms) k j (and_l (all_finite ds) (all_finite grid) h))
      (grid-at (outage n ptdf froms tos) (length froms) (length froms) l k i j (and_r (all_finite ds) (all_finite grid) h))))
      (λ (h : T (all_finite (of_lodf n ptdf froms tos))). and_i (all_finite ds) (all_finite grid) (denominators-finite two h) (factors-finite h))

  -- by a pass over the denominators ds that answered r
  module _ (two : 2 ≤ length froms) (ds : List Float) (r : Bool) (are : ds ≡ real_row (denominator n ptdf froms tos) (length froms)) (e : r ≡ all_finite ds) where
    pub denominators-failed : r ≡ false → false ≡ all_finite (of_lodf n ptdf froms tos)
    denominators-failed h =
        ap (λ (b : Bool). b && all_finite (real_grid (outage n ptdf froms tos) (length froms) (length froms))) (sym h ∙ e ∙ ap all_finite are) ∙ lodf-tells two

    pub denominators-passed : r ≡ true → all_finite (real_grid (outage n ptdf froms tos) (length froms) (length froms)) ≡ all_finite (of_lodf n ptdf froms tos)
    denominators-passed h =
        ap (λ (b : Bool). b && all_finite (real_grid (outage n ptdf froms tos) (length froms) (length froms))) (sym h ∙ e ∙ ap all_finite are) ∙ lodf-tells two

  pub lone-finite : length froms < 2 → T (all_finite (of_lodf n ptdf froms tos))
  unfolding of_outage of_factor
  lone-finite h = all-numbers (λ l k i j. let e : l ≡ k = omega arith in rw (eq-eqb l k e) none)

-- ---- a PTDF of ordinary size

pub one_in : In 0 one
unfolding one of_bits
one_in = lit≤ tt

module _ (n : ℕ) (ptdf : List Float) (froms tos : List ℕ) (given : T (all_ordinary ptdf)) (size : length ptdf ≡ length froms * n)
    (same : length tos ≡ length froms) (below : T (all_below n froms) × T (all_below n tos)) where
  transfer-in : (l i : ℕ) → l < length froms → i < n → In 200 (transfer n ptdf l i)
  unfolding transfer
  transfer-in l i h j = ordinary-at ptdf (l * n + i) (rw size (entry-within (length froms) n l i h j)) given

  taken_in : (l k : ℕ) → l < length froms → k < length froms → In 201 (branch_transfer n ptdf froms tos k l)
  unfolding branch_transfer
  taken_in l k h j =
      sub_in 200 201 (transfer n ptdf l (get_or froms k 0)) (transfer n ptdf l (get_or tos k 0)) refl (lit≤ tt)
      (transfer-in l (get_or froms k 0) h (below_at n froms k below.0 j)) (transfer-in l (get_or tos k 0) h (to_below n k froms tos below.1 same j))

  denominator-in : (k : ℕ) → k < length froms → In 202 (denominator n ptdf froms tos k)
  unfolding denominator
  denominator-in k j = sub_in 201 202 one (branch_transfer n ptdf froms tos k k) refl (lit≤ tt) (larger-in 0 201 one (lit≤ tt) one_in) (taken_in k k j j)

  pub ordinary-lodf : T (all_finite (of_lodf n ptdf froms tos))
  unfolding of_outage of_factor
  ordinary-lodf = all-numbers n ptdf froms tos (λ l k i j.
      numbers (eqb l k) (branch_transfer n ptdf froms tos k k) (branch_transfer n ptdf froms tos k l) (denominator n ptdf froms tos k) (taken_in k k j j) (taken_in l k i j) (denominator-in k j))
    where
      numbers : (b : Bool) (own taken d : Float) → In 201 own → In 201 taken → In 202 d → T (all_finite (of_factor b own taken d))
      numbers true own taken d o t e = none
      numbers false own taken d o t e = all_more own _ (in-finite 201 own o) (all_more d _ (in-finite 202 d e) (go (lt (abs d) small_magnitude) refl))
        where
          go : (weak : Bool) → lt (abs d) small_magnitude ≡ weak → T (all_finite (cond weak [] (taken ∷ taken ⊘ d ∷ [])))
          go true w = none
          go false w =
              all_more taken _ (in-finite 201 taken t)
              (all_more (taken ⊘ d) [] (in-finite 241 (taken ⊘ d) (over-strong 201 241 taken d refl (lit≤ tt) t (in-finite 202 d e) w)) none)
