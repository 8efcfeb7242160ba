-- Which numbers of an elimination are finite, told by what the slice holds. A number that is not finite stays: so the chosen pivot's weight tells of
-- all weights in its column, and the entries that a row is left with tell of all numbers computed for them.
--     search-tells    the weights of a column, by the chosen pivot's
--     swapped-finite  rows that change places
--     scaling-tells   the pivot row, by its scaled entries
--     reducing-tells  a row, by its reduced entries
use Rattle.prelude.proofs.Prelude.{◌≡◌, refl, sym, ap, subst, ◌∙◌, Bool, true, false, not, cond, List, [], ◌∷◌, ◌++◌, ℕ, zero, suc, ◌+◌, ◌-◌, ◌≤◌, ◌<◌, arith, T, eqb, Float, nan, inf, fin, binary64, lt, finite, eqb-true, eq-eqb}
use Rattle.binary64.specs.Values.{all_finite}
use Rattle.binary64.proofs.Order.{Unsigned, square-no-nan, sum-unsigned}
use Rattle.complex.specs.{Complex, division_limit, ◌⊗◌, cmul, csub, sqmag, complex_inv, of_product, of_difference, of_sqmag, Matrix}
use Rattle.lists.specs.Buses.{up_to}
use Rattle.complex.proofs.Finite.{none, all_more, all_join, all_left, all_right}
use Rattle.complex.proofs.Sticky.{Finite, product-finite, product-result, factors-given, terms-given, square-finite, square-result, all-parts}
use Rattle.complex.proofs.Squares.{sqmag-below}
use Rattle.complex.proofs.FiniteEntries.{Each, each-up_to, each_at, AllFinite}
use Rattle.solver.specs.GaussJordan.{stays, held_after, pivot_row, swapped, pivoted}
use Rattle.solver.specs.Solving.{operations}
use Rattle.solver.specs.Steps.{workings, of_search, of_scaling, of_reducing}
use Rattle.solver.specs.Inner.Work.{with_row}
use Rattle.solver.proofs.GaussJordan.{pick-below, pivot-below}

-- the weight of a finite entry is not negative, and no NaN
weight-unsigned : (c : Complex) → Finite c → Unsigned ⊥ (sqmag c)
unfolding sqmag
weight-unsigned c (h, k) = sum-unsigned ⊥ binary64 (c.re ⊗ c.re) (c.im ⊗ c.im) (square-no-nan binary64 c.re h) (square-no-nan binary64 c.im k)

-- a pivot that is too small has a finite weight
pub small-finite : (c : Complex) → operations.small c ≡ true → T (finite (sqmag c))
small-finite c k = square-result c (sqmag-below c division_limit (subst T (sym k) tt))

-- ---- the search

-- of two such weights the one that is held is finite only where both are
both-finite : (h x : Float) → Unsigned ⊥ h → Unsigned ⊥ x → T (finite (cond (not (lt h x)) h x)) → T (finite h) × T (finite x)
unfolding lt
both-finite nan x a b t = absurd a
both-finite (inf true) x a b t = absurd a
both-finite (inf false) nan a b t = absurd b
both-finite (inf false) (inf true) a b t = absurd b
both-finite (inf false) (inf false) a b t = absurd t
both-finite (inf false) (fin u n d) a b t = absurd t
both-finite (fin s m e) nan a b t = absurd b
both-finite (fin s m e) (inf true) a b t = absurd b
both-finite (fin s m e) (inf false) a b t = absurd t
both-finite (fin s m e) (fin u n d) a b t = (tt, tt)

-- the weight of the row that is held after a step
held-weight : (A : Matrix) (c held next : ℕ) (b : Bool) → sqmag (A (cond b held next) c) ≡ cond b (sqmag (A held c)) (sqmag (A next c))
held-weight A c held next true = refl
held-weight A c held next false = refl

-- where what is held at the end has a finite weight, so has the first held, and every weight on the way is finite
search-finite : (A : Matrix) (c n : ℕ) → ((r : ℕ) → r < n → Finite (A r c)) → (held next count : ℕ) → held < n → next + count ≤ n
    → T (finite (sqmag (A (held_after operations A c held next count) c))) → T (finite (sqmag (A held c))) × T (all_finite (of_search operations workings A c held next count))
unfolding held_after of_search stays
search-finite A c n f held next zero l m h = (h, none)
search-finite A c n f held next (suc count) l m h =
    let b = not (lt (sqmag (A held c)) (sqmag (A next c))) in
    let (w, rest) = search-finite A c n f (cond b held next) (suc next) count (pick-below b held next n l (omega arith)) (omega arith) h in
    let (x, y) = both-finite (sqmag (A held c)) (sqmag (A next c)) (weight-unsigned (A held c) (f held l)) (weight-unsigned (A next c) (f next (omega arith))) (subst (λ (z : Float). T (finite z)) (held-weight A c held next b) w) in
    (x, all_join (of_sqmag (A held c) ++ of_sqmag (A next c)) _ (all_join (of_sqmag (A held c)) _ (square-finite (A held c) x) (square-finite (A next c) y)) rest)

-- the pivot stands in row c
pivot-is : (n c : ℕ) (A : Matrix) → pivoted operations n c A c c ≡ A (pivot_row operations n A c) c
unfolding pivoted swapped
pivot-is n c A = rw (eq-eqb c c refl)

pub search-tells : (n w c : ℕ) (A : Matrix) → c < n → n ≤ w → AllFinite n w A → T (finite (sqmag (pivoted operations n c A c c)))
    → T (all_finite (of_search operations workings A c c (suc c) (n - suc c) ++ of_sqmag (pivoted operations n c A c c)))
unfolding pivot_row
search-tells n w c A h wide f d =
    let col : c < w = omega arith in
    let held = search-finite A c n (λ (r : ℕ) (l : r < n). f r c l col) c (suc c) (n - suc c) h (omega arith) (subst (λ (x : Complex). T (finite (sqmag x))) (pivot-is n c A) d) in
    all_join (of_search operations workings A c c (suc c) (n - suc c)) _ held.1 (square-finite (pivoted operations n c A c c) d)

-- ---- rows that change places

module _ (n w c p : ℕ) (A : Matrix) (here : c < n) (there : p < n) where
  swap-finite : AllFinite n w A → AllFinite n w (swapped operations c p A)
  unfolding swapped
  swap-finite f i j x y = f (cond (eqb i c) p (cond (eqb i p) c i)) j (pick-below (eqb i c) p (cond (eqb i p) c i) n there (pick-below (eqb i p) c i n here x)) y

  -- back in their places
  swap-back : (i j : ℕ) → swapped operations c p (swapped operations c p A) i j ≡ A i j
  unfolding swapped
  swap-back i j = pick (eqb i c) refl (eqb i p) refl
    where
      other : ℕ → ℕ
      other r = cond (eqb r c) p (cond (eqb r p) c r)

      pick : (s : Bool) → eqb i c ≡ s → (t : Bool) → eqb i p ≡ t
          → A (cond (eqb (cond s p (cond t c i)) c) p (cond (eqb (cond s p (cond t c i)) p) c (cond s p (cond t c i)))) j ≡ A i j
      pick true e t u = let q = eqb-true i c e in at_p (eqb p c) refl ∙ ap (λ (r : ℕ). A r j) (sym q)
        where
          at_p : (b : Bool) → eqb p c ≡ b → A (cond (eqb p c) p (cond (eqb p p) c p)) j ≡ A c j
          at_p true k = let z = eqb-true p c k in rw k (ap (λ (r : ℕ). A r j) z)
          at_p false k = rw (k, eq-eqb p p refl)
      pick false e true u = let q = eqb-true i p u in rw (eq-eqb c c refl) (ap (λ (r : ℕ). A r j) (sym q))
      pick false e false u = rw (e, u)

pub swapped-finite : (n w c : ℕ) (A : Matrix) → c < n → AllFinite n w A → AllFinite n w (pivoted operations n c A)
unfolding pivoted
swapped-finite n w c A h f = swap-finite n w c (pivot_row operations n A c) A h (pivot-below operations n A c h) f

pub finite-swapped : (n w c : ℕ) (A : Matrix) → c < n → AllFinite n w (pivoted operations n c A) → AllFinite n w A
unfolding pivoted
finite-swapped n w c A h f i j x y =
    let p = pivot_row operations n A c in
    subst Finite (swap-back n w c p A h (pivot-below operations n A c h) i j)
    (swap-finite n w c p (swapped operations c p A) h (pivot-below operations n A c h) f i j x y)

-- ---- a row that is written anew

module _ (n w r : ℕ) (f : ℕ → Complex) (A N : Matrix) (here : r < n) (put : (i q : ℕ) → q < w → N i q ≡ with_row r f A i q) where
  new_is : (q : ℕ) → q < w → N r q ≡ f q
  unfolding with_row
  new_is q y = put r q y ∙ ap (λ (b : Bool). cond b (f q) (A r q)) (eq-eqb r r refl)

  -- finite exactly where the row's new entries are and the other rows were
  pub new-finite : AllFinite n w N → (q : ℕ) → q < w → Finite (f q)
  new-finite h q y = subst Finite (new_is q y) (h r q here y)

  pub old-finite : AllFinite n w N → ((q : ℕ) → q < w → Finite (A r q)) → AllFinite n w A
  unfolding with_row
  old-finite h old i q x y = pick (eqb i r) refl
    where
      pick : (b : Bool) → eqb i r ≡ b → Finite (A i q)
      pick true t = subst (λ (k : ℕ). Finite (A k q)) (sym (eqb-true i r t)) (old q y)
      pick false t = subst Finite (put i q y ∙ ap (λ (b : Bool). cond b (f q) (A i q)) t) (h i q x y)

  pub put-finite : AllFinite n w A → ((q : ℕ) → q < w → Finite (f q)) → AllFinite n w N
  unfolding with_row
  put-finite h new i q x y = pick (eqb i r) refl
    where
      pick : (b : Bool) → eqb i r ≡ b → Finite (N i q)
      pick true t = subst (λ (k : ℕ). Finite (N k q)) (sym (eqb-true i r t)) (subst Finite (sym (new_is q y)) (new q y))
      pick false t = subst Finite (sym (put i q y ∙ ap (λ (b : Bool). cond b (f q) (A i q)) t)) (h i q x y)

-- ---- the pivot row scaled

scaling-each : (B : Matrix) (c : ℕ) (js : List ℕ) → Each (λ (j : ℕ). Finite (cmul (B c j) (complex_inv (B c c)))) js → T (all_finite (of_scaling operations workings B c js))
unfolding of_scaling
scaling-each B c [] h = none
scaling-each B c (j ∷ js) (h, k) = all_join (of_product (B c j) (complex_inv (B c c))) _ (product-finite (B c j) (complex_inv (B c c)) h) (scaling-each B c js k)

pub each-scaling : (B : Matrix) (c : ℕ) (js : List ℕ) → T (all_finite (of_scaling operations workings B c js)) → Each (λ (j : ℕ). Finite (cmul (B c j) (complex_inv (B c c)))) js
unfolding of_scaling
each-scaling B c [] h = tt
each-scaling B c (j ∷ js) h = (
  product-result (B c j) (complex_inv (B c c)) (all_left (of_product (B c j) (complex_inv (B c c))) (of_scaling operations workings B c js) h),
  each-scaling B c js (all_right (of_product (B c j) (complex_inv (B c c))) (of_scaling operations workings B c js) h),
)

module _ (n w c : ℕ) (A N : Matrix) (here : c < n) (put : (i q : ℕ) → q < w → N i q ≡ with_row c (λ (j : ℕ). cmul (A c j) (complex_inv (A c c))) A i q) where
  pub scaling-tells : AllFinite n w N → AllFinite n w A × T (all_finite (of_scaling operations workings A c (up_to w)))
  scaling-tells h =
      let new = new-finite n w c (λ (j : ℕ). cmul (A c j) (complex_inv (A c c))) A N here put h in (
        old-finite n w c (λ (j : ℕ). cmul (A c j) (complex_inv (A c c))) A N here put h (λ (q : ℕ) (y : q < w). (factors-given (A c q) (complex_inv (A c c)) (new q y)).0),
        scaling-each A c (up_to w) (each-up_to _ w new),
      )

  pub scaling-kept : AllFinite n w A → T (all_finite (of_scaling operations workings A c (up_to w))) → AllFinite n w N
  scaling-kept h k = put-finite n w c (λ (j : ℕ). cmul (A c j) (complex_inv (A c c))) A N here put h (each_at _ w (each-scaling A c (up_to w) k))

-- ---- a row reduced

reducing-each : (C : Matrix) (c i : ℕ) (js : List ℕ) → Each (λ (j : ℕ). Finite (csub (C i j) (cmul (C i c) (C c j)))) js → T (all_finite (of_reducing operations workings C c i js))
unfolding of_reducing
reducing-each C c i [] h = none
reducing-each C c i (j ∷ js) (h, k) =
    let p = (terms-given (C i j) (cmul (C i c) (C c j)) h).1 in
    all_join (of_product (C i c) (C c j) ++ of_difference (C i j) (cmul (C i c) (C c j))) _
    (all_join (of_product (C i c) (C c j)) _ (product-finite (C i c) (C c j) p) (all_more _ _ h.0 (all_more _ _ h.1 none))) (reducing-each C c i js k)

pub each-reducing : (C : Matrix) (c i : ℕ) (js : List ℕ) → T (all_finite (of_reducing operations workings C c i js)) → Each (λ (j : ℕ). Finite (csub (C i j) (cmul (C i c) (C c j)))) js
unfolding of_reducing
each-reducing C c i [] h = tt
each-reducing C c i (j ∷ js) h =
    let front = all_left (of_product (C i c) (C c j) ++ of_difference (C i j) (cmul (C i c) (C c j))) (of_reducing operations workings C c i js) h in (
      all-parts (csub (C i j) (cmul (C i c) (C c j))) (all_right (of_product (C i c) (C c j)) (of_difference (C i j) (cmul (C i c) (C c j))) front),
      each-reducing C c i js (all_right (of_product (C i c) (C c j) ++ of_difference (C i j) (cmul (C i c) (C c j))) (of_reducing operations workings C c i js) h),
    )

-- row i, which the slice holds as C does
module _ (n w c i : ℕ) (C A N : Matrix) (here : i < n) (put : (r q : ℕ) → q < w → N r q ≡ with_row i (λ (j : ℕ). csub (C i j) (cmul (C i c) (C c j))) A r q)
    (held : (q : ℕ) → q < w → A i q ≡ C i q) where
  pub reducing-tells : AllFinite n w N → AllFinite n w A × T (all_finite (of_reducing operations workings C c i (up_to w)))
  reducing-tells h =
      let new = new-finite n w i (λ (j : ℕ). csub (C i j) (cmul (C i c) (C c j))) A N here put h in (
        old-finite n w i (λ (j : ℕ). csub (C i j) (cmul (C i c) (C c j))) A N here put h
            (λ (q : ℕ) (y : q < w). subst Finite (sym (held q y)) (terms-given (C i q) (cmul (C i c) (C c q)) (new q y)).0),
        reducing-each C c i (up_to w) (each-up_to _ w new),
      )

  pub reducing-kept : AllFinite n w A → T (all_finite (of_reducing operations workings C c i (up_to w))) → AllFinite n w N
  reducing-kept h k = put-finite n w i (λ (j : ℕ). csub (C i j) (cmul (C i c) (C c j))) A N here put h (each_at _ w (each-reducing C c i (up_to w) k))
