-- The numbers of an elimination with fewer right sides are among those with more: columns chosen by g, the system's n where they are.
--     chosen-numbers  finite there, finite here
--     alone-numbers   one right side alone
use Rattle.prelude.proofs.Prelude.{◌≡◌, sym, ap, ◌∙◌, subst, Bool, true, false, ◌||◌, cond, ◌⊎◌, inl, inr, List, [], ◌∷◌, ◌++◌, ℕ, zero, suc, ◌+◌, ◌-◌, ◌≤◌, ◌<◌, arith, T, eqb, ltb, Float, lt-ltb, le-ltb, eq-or-lt_of_le}
use Rattle.binary64.specs.Values.{all_finite}
use Rattle.complex.proofs.Finite.{none, all_join, all_left, all_right}
use Rattle.complex.proofs.FiniteEntries.{Each, each-up_to}
use Rattle.lists.specs.Buses.{up_to}
use Rattle.lists.proofs.Order.{lt-or-ge}
use Rattle.refusals.specs.Work.{Step, reduces, pivot_too_small, computing, numbers_in}
use Rattle.refusals.proofs.Work.{numbers-both, numbers-back, numbers-alone}
use Rattle.solver.specs.GaussJordan.{Operations, MatrixOf, pivoted, scaled, cleared, augmented}
use Rattle.solver.specs.Steps.{Workings, of_search, of_scaling, of_reducing, steps_of_row, steps_of_rows, steps_from, steps_of_run}
use Rattle.solver.proofs.GaussJordan.{Chosen, chosen-system, pivoted-chosen, scaled-chosen, cleared-chosen, alone, alone-system, alone-chosen}
use Rattle.solver.proofs.StepsSame.{search-same}

-- ---- lists

each-split : (P : ℕ → Type 0) (is js : List ℕ) → Each P (is ++ js) → Each P is × Each P js
each-split P [] js h = (tt, h)
each-split P (i ∷ is) js (x, h) = let (a, b) = each-split P is js h in ((x, a), b)

each_below : (P : ℕ → Type 0) (n : ℕ) → Each P (up_to n) → (j : ℕ) → j < n → P j
unfolding up_to
each_below P zero h j l = absurd (omega arith)
each_below P (suc n) h j l =
    let (before, (last, _)) = each-split P (up_to n) (n ∷ []) h in
    elim (eq-or-lt_of_le {n = j} {m = n} (omega arith)) [
      | inr m ↦ each_below P n before j m
      | inl e ↦ subst P (sym e) last
    ]

-- steps, and numbers in front of them
steps-split : (es fs : List Step) → T (all_finite (numbers_in (es ++ fs))) → T (all_finite (numbers_in es)) × T (all_finite (numbers_in fs))
steps-split es fs h =
    let k = subst (λ (l : List Float). T (all_finite l)) (numbers-both es fs) h in
    (all_left (numbers_in es) (numbers_in fs) k, all_right (numbers_in es) (numbers_in fs) k)

steps-join : (es fs : List Step) → T (all_finite (numbers_in es)) → T (all_finite (numbers_in fs)) → T (all_finite (numbers_in (es ++ fs)))
steps-join es fs h k = subst (λ (l : List Float). T (all_finite l)) (sym (numbers-both es fs)) (all_join (numbers_in es) (numbers_in fs) h k)

numbers-split : (xs : List Float) (fs : List Step) → T (all_finite (numbers_in (computing xs ++ fs))) → T (all_finite xs) × T (all_finite (numbers_in fs))
numbers-split xs fs h =
    let k = subst (λ (l : List Float). T (all_finite l)) (numbers-back xs fs) h in
    (all_left xs (numbers_in fs) k, all_right xs (numbers_in fs) k)

numbers-join : (xs : List Float) (fs : List Step) → T (all_finite xs) → T (all_finite (numbers_in fs)) → T (all_finite (numbers_in (computing xs ++ fs)))
numbers-join xs fs h k = subst (λ (l : List Float). T (all_finite l)) (sym (numbers-back xs fs)) (all_join xs (numbers_in fs) h k)

module _ {E : Type 0} (O : Operations E) (W : Workings E) where
  -- ---- one entry of a row

  scaling-each : (B : MatrixOf E) (c : ℕ) (js : List ℕ) → T (all_finite (of_scaling O W B c js)) → Each (λ (j : ℕ). T (all_finite (W.of_times (B c j) (O.inverse (B c c))))) js
  unfolding of_scaling
  scaling-each B c [] h = tt
  scaling-each B c (j ∷ js) h = (all_left (W.of_times (B c j) (O.inverse (B c c))) _ h, scaling-each B c js (all_right (W.of_times (B c j) (O.inverse (B c c))) _ h))

  scaling-all : (B : MatrixOf E) (c : ℕ) (js : List ℕ) → Each (λ (j : ℕ). T (all_finite (W.of_times (B c j) (O.inverse (B c c))))) js → T (all_finite (of_scaling O W B c js))
  unfolding of_scaling
  scaling-all B c [] h = none
  scaling-all B c (j ∷ js) (x, h) = all_join (W.of_times (B c j) (O.inverse (B c c))) (of_scaling O W B c js) x (scaling-all B c js h)

  abbrev entry_numbers : MatrixOf E → ℕ → ℕ → ℕ → List Float
  entry_numbers C c i j = W.of_times (C i c) (C c j) ++ W.of_minus (C i j) (O.times (C i c) (C c j))

  reducing-each : (C : MatrixOf E) (c i : ℕ) (js : List ℕ) → T (all_finite (of_reducing O W C c i js)) → Each (λ (j : ℕ). T (all_finite (entry_numbers C c i j))) js
  unfolding of_reducing
  reducing-each C c i [] h = tt
  reducing-each C c i (j ∷ js) h = (all_left (entry_numbers C c i j) (of_reducing O W C c i js) h, reducing-each C c i js (all_right (entry_numbers C c i j) (of_reducing O W C c i js) h))

  reducing-all : (C : MatrixOf E) (c i : ℕ) (js : List ℕ) → Each (λ (j : ℕ). T (all_finite (entry_numbers C c i j))) js → T (all_finite (of_reducing O W C c i js))
  unfolding of_reducing
  reducing-all C c i [] h = none
  reducing-all C c i (j ∷ js) (x, h) = all_join (entry_numbers C c i j) (of_reducing O W C c i js) x (reducing-all C c i js h)

  -- ---- columns chosen by g: A has w of them, B has v

  module _ (n w v : ℕ) (wide : n ≤ w) (g : ℕ → ℕ) (fixed : (j : ℕ) → j < n → g j ≡ j) (inside : (j : ℕ) → j < w → g j < v) where
    scaling-chosen : (A B : MatrixOf E) → Chosen n w g A B → (c : ℕ) → c < n → T (all_finite (of_scaling O W B c (up_to v))) → T (all_finite (of_scaling O W A c (up_to w)))
    scaling-chosen A B s c h f =
        let p : A c c ≡ B c c = chosen-system O n w wide g fixed A B s c c h h in
        scaling-all A c (up_to w)
        (each-up_to _ w λ (j : ℕ) (l : j < w).
        let q : A c j ≡ B c (g j) = s c j h l in
        let at = each_below (λ (j : ℕ). T (all_finite (W.of_times (B c j) (O.inverse (B c c))))) v (scaling-each B c (up_to v) f) (g j) (inside j l) in
        subst (λ (x : E). T (all_finite (W.of_times x (O.inverse (A c c))))) (sym q) (subst (λ (x : E). T (all_finite (W.of_times (B c (g j)) (O.inverse x)))) (sym p) at))

    reducing-chosen : (A B : MatrixOf E) → Chosen n w g A B → (c i : ℕ) → c < n → i < n → T (all_finite (of_reducing O W B c i (up_to v))) → T (all_finite (of_reducing O W A c i (up_to w)))
    reducing-chosen A B s c i h k f =
        let p : A i c ≡ B i c = chosen-system O n w wide g fixed A B s i c k h in
        reducing-all A c i (up_to w)
        (each-up_to _ w λ (j : ℕ) (l : j < w).
        let q : A c j ≡ B c (g j) = s c j h l in
        let r : A i j ≡ B i (g j) = s i j k l in
        let at = each_below (λ (j : ℕ). T (all_finite (entry_numbers B c i j))) v (reducing-each B c i (up_to v) f) (g j) (inside j l) in
        subst (λ (x : E). T (all_finite (W.of_times x (A c j) ++ W.of_minus (A i j) (O.times x (A c j))))) (sym p)
        (subst (λ (x : E). T (all_finite (W.of_times (B i c) x ++ W.of_minus (A i j) (O.times (B i c) x)))) (sym q)
        (subst (λ (x : E). T (all_finite (W.of_times (B i c) (B c (g j)) ++ W.of_minus x (O.times (B i c) (B c (g j)))))) (sym r) at)))

    row-numbers : (b : Bool) (xs ys : List Float) → (T (all_finite ys) → T (all_finite xs)) → T (all_finite (numbers_in (cond b [] (reduces ∷ computing ys)))) → T (all_finite (numbers_in (cond b [] (reduces ∷ computing xs))))
    unfolding numbers_in
    row-numbers true xs ys f h = h
    row-numbers false xs ys f h = subst (λ (l : List Float). T (all_finite l)) (sym (numbers-alone xs)) (f (subst (λ (l : List Float). T (all_finite l)) (numbers-alone ys) h))

    rows-chosen : (A B : MatrixOf E) → Chosen n w g A B → (c : ℕ) → c < n → (is : List ℕ) → Each (λ (i : ℕ). i < n) is
        → T (all_finite (numbers_in (steps_of_rows O W B c is (up_to v)))) → T (all_finite (numbers_in (steps_of_rows O W A c is (up_to w))))
    unfolding steps_of_rows steps_of_row
    rows-chosen A B s c h [] k f = f
    rows-chosen A B s c h (i ∷ is) (l, k) f =
        let (own, rest) = steps-split (steps_of_row O W B c i (up_to v)) (steps_of_rows O W B c is (up_to v)) f in
        let p : A i c ≡ B i c = chosen-system O n w wide g fixed A B s i c l h in
        steps-join (steps_of_row O W A c i (up_to w)) (steps_of_rows O W A c is (up_to w))
        (subst (λ (x : E). T (all_finite (numbers_in (cond (eqb i c || O.skips x) [] (reduces ∷ computing (of_reducing O W A c i (up_to w))))))) (sym p)
        (row-numbers (eqb i c || O.skips (B i c)) (of_reducing O W A c i (up_to w)) (of_reducing O W B c i (up_to v)) (reducing-chosen A B s c i h l) own))
        (rows-chosen A B s c h is k rest)

    small-numbers : (b : Bool) (es fs : List Step) → (T (all_finite (numbers_in fs)) → T (all_finite (numbers_in es)))
        → T (all_finite (numbers_in (cond b (pivot_too_small ∷ []) fs))) → T (all_finite (numbers_in (cond b (pivot_too_small ∷ []) es)))
    small-numbers true es fs f h = h
    small-numbers false es fs f h = f h

    pub chosen-numbers : (A B : MatrixOf E) → Chosen n w g A B → (count c : ℕ) → c + count ≤ n
        → T (all_finite (numbers_in (steps_from O W n v count c B))) → T (all_finite (numbers_in (steps_from O W n w count c A)))
    unfolding steps_from
    chosen-numbers A B s zero c h f = f
    chosen-numbers A B s (suc count) c h f =
        let here : c < n = omega arith in
        let A' = pivoted O n c A in
        let B' = pivoted O n c B in
        let p : Chosen n w g A' B' = pivoted-chosen O n w wide g fixed A B s c here in
        let pivot : A' c c ≡ B' c c = chosen-system O n w wide g fixed A' B' p c c here here in
        let search = search-same O W A B c n (λ (i : ℕ) (x : i < n). chosen-system O n w wide g fixed A B s i c x here) c (suc c) (n - suc c) here (omega arith) in
        let ahead = of_search O W B c c (suc c) (n - suc c) ++ W.of_weight (B' c c) in
        let same : of_search O W A c c (suc c) (n - suc c) ++ W.of_weight (A' c c) ≡ ahead = ap (λ (l : List Float). l ++ W.of_weight (A' c c)) search ∙ ap (λ (x : E). of_search O W B c c (suc c) (n - suc c) ++ W.of_weight x) pivot in
        let goes : MatrixOf E → ℕ → List Step = λ (M : MatrixOf E) (u : ℕ). computing (W.of_inverse (M c c) ++ of_scaling O W M c (up_to u)) ++ (steps_of_rows O W (scaled O c M) c (up_to n) (up_to u) ++ steps_from O W n u count (suc c) (cleared O c M)) in
        let (front, back) = numbers-split ahead (cond (O.small (B' c c)) (pivot_too_small ∷ []) (goes B' v)) f in
        numbers-join (of_search O W A c c (suc c) (n - suc c) ++ W.of_weight (A' c c)) (cond (O.small (A' c c)) (pivot_too_small ∷ []) (goes A' w))
        (subst (λ (l : List Float). T (all_finite l)) (sym same) front)
        (subst (λ (x : E). T (all_finite (numbers_in (cond (O.small x) (pivot_too_small ∷ []) (goes A' w))))) (sym pivot)
        (small-numbers (O.small (B' c c)) (goes A' w) (goes B' v) (next A' B' p pivot here (chosen-numbers (cleared O c A') (cleared O c B') (cleared-chosen O n w wide g fixed A' B' p c here) count (suc c) (omega arith))) back))
      where
        next : (A' B' : MatrixOf E) → Chosen n w g A' B' → A' c c ≡ B' c c → c < n
            → (T (all_finite (numbers_in (steps_from O W n v count (suc c) (cleared O c B')))) → T (all_finite (numbers_in (steps_from O W n w count (suc c) (cleared O c A')))))
            → T (all_finite (numbers_in (computing (W.of_inverse (B' c c) ++ of_scaling O W B' c (up_to v)) ++ (steps_of_rows O W (scaled O c B') c (up_to n) (up_to v) ++ steps_from O W n v count (suc c) (cleared O c B')))))
            → T (all_finite (numbers_in (computing (W.of_inverse (A' c c) ++ of_scaling O W A' c (up_to w)) ++ (steps_of_rows O W (scaled O c A') c (up_to n) (up_to w) ++ steps_from O W n w count (suc c) (cleared O c A')))))
        next A' B' p pivot here later f =
            let (numbers, rest) = numbers-split (W.of_inverse (B' c c) ++ of_scaling O W B' c (up_to v)) _ f in
            let (rows, behind) = steps-split (steps_of_rows O W (scaled O c B') c (up_to n) (up_to v)) (steps_from O W n v count (suc c) (cleared O c B')) rest in
            numbers-join (W.of_inverse (A' c c) ++ of_scaling O W A' c (up_to w)) _
            (all_join (W.of_inverse (A' c c)) (of_scaling O W A' c (up_to w))
            (subst (λ (x : E). T (all_finite (W.of_inverse x))) (sym pivot) (all_left (W.of_inverse (B' c c)) (of_scaling O W B' c (up_to v)) numbers))
            (scaling-chosen A' B' p c here (all_right (W.of_inverse (B' c c)) (of_scaling O W B' c (up_to v)) numbers)))
            (steps-join (steps_of_rows O W (scaled O c A') c (up_to n) (up_to w)) (steps_from O W n w count (suc c) (cleared O c A'))
            (rows-chosen (scaled O c A') (scaled O c B') (scaled-chosen O n w wide g fixed A' B' p c here) c here (up_to n) (each-up_to _ n (λ (i : ℕ) (l : i < n). l)) rows)
            (later behind))

  -- one right side alone
  pub alone-numbers : (n m : ℕ) (A B : MatrixOf E) (c : ℕ) → c < m
      → T (all_finite (numbers_in (steps_of_run O W n (n + m) (augmented O n A B)))) → T (all_finite (numbers_in (steps_of_run O W n (n + 1) (augmented O n A (λ (r k : ℕ). B r c)))))
  unfolding steps_of_run
  alone-numbers n m A B c h f =
      chosen-numbers n (n + 1) (n + m) (omega arith) (alone O n c) (alone-system O n c) (λ (j : ℕ) (l : j < n + 1). below (lt-or-ge j n) l)
      (augmented O n A (λ (r k : ℕ). B r c)) (augmented O n A B) (alone-chosen O n c A B) n 0 (omega arith) f
    where
      below : {j : ℕ} → (j < n) ⊎ (n ≤ j) → j < n + 1 → cond (ltb j n) j (n + c) < n + m
      below {j} (inl l) k = rw (lt-ltb j n l) (omega arith)
      below {j} (inr l) k = rw (le-ltb j n l) (omega arith)
