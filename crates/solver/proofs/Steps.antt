-- What the steps of an elimination count and meet.
--     run-count  the row reductions are the pairs of column and other row whose factor is not skipped
--     run-met    where the work without a limit does not meet 20: 18 where these are more than are allowed, else 13 or nothing
use Rattle.prelude.proofs.Prelude.{◌≡◌, refl, sym, ap, ◌∙◌, Bool, true, false, ◌||◌, cond, ◌⊎◌, inl, inr, List, [], ◌∷◌, ◌++◌, ℕ, zero, suc, ◌+◌, ◌-◌, ◌<◌, ◌≤◌, arith, eqb, ltb, lt-ltb, le-ltb, Float}
use Rattle.refusals.specs.Work.{Step, reduces, pivot_too_small, computing, reductions, meets}
use Rattle.refusals.proofs.Work.{meets-after, meets-first, unlost-meets, marks, marks-both, marks-numbers, none-marked, marks-count, count-both, count-numbers, none-counted}
use Rattle.lists.specs.Buses.{up_to}
use Rattle.lists.proofs.Order.{lt-or-ge}
use Rattle.solver.specs.GaussJordan.{Operations, MatrixOf, Elimination, pivoted, scaled, cleared, gauss_jordan_from, gauss_jordan, pairs_in, pairs_from, pairs}
use Rattle.solver.specs.Steps.{Workings, of_search, of_scaling, of_reducing, steps_of_row, steps_of_rows, steps_from, steps_of_run}

-- ---- what is met by count alone

-- 18 where k row reductions are more than are allowed, else what comes behind them
abbrev pub stopped : ℕ → ℕ → ℕ → ℕ
stopped m k next = cond (ltb m k) 18 next

-- what an elimination meets, by its count and whether a pivot is too small
abbrev pub met_by : ℕ → ℕ → Bool → ℕ
met_by m k small = stopped m k (cond small 13 0)

pub stopped_none : (m next : ℕ) → next ≡ stopped m 0 next
stopped_none m next = rw (le-ltb m 0 (omega arith))

pub stopped-twice : (m a b next : ℕ) → stopped m a (stopped (m - a) b next) ≡ stopped m (a + b) next
stopped-twice m a b next = pick (lt-or-ge m a) (lt-or-ge m (a + b))
  where
    pick : (m < a) ⊎ (a ≤ m) → (m < a + b) ⊎ (a + b ≤ m) → stopped m a (stopped (m - a) b next) ≡ stopped m (a + b) next
    pick (inl l) (inl k) = rw (lt-ltb m a l, lt-ltb m (a + b) k)
    pick (inl l) (inr k) = absurd (omega arith)
    pick (inr l) (inl k) = rw (le-ltb m a l, lt-ltb (m - a) b (omega arith), lt-ltb m (a + b) k)
    pick (inr l) (inr k) = rw (le-ltb m a l, le-ltb (m - a) b (omega arith), le-ltb m (a + b) k)

-- steps that meet nothing but 18, once every number is finite
abbrev pub OnlyCounted : List Step → Type 0
OnlyCounted es = (m : ℕ) → meets m (marks es) ≡ stopped m (reductions es) 0

pub counted-then : (es fs : List Step) → OnlyCounted es → (m : ℕ) → meets m (marks (es ++ fs)) ≡ stopped m (reductions es) (meets (m - reductions es) (marks fs))
counted-then es fs only m = ap (meets m) (marks-both es fs) ∙ pick (ltb m (reductions es)) refl
  where
    left : m - reductions (marks es) ≡ m - reductions es
    left = ap (λ (k : ℕ). m - k) (marks-count es)

    pick : (b : Bool) → ltb m (reductions es) ≡ b → meets m (marks es ++ marks fs) ≡ cond (ltb m (reductions es)) 18 (meets (m - reductions es) (marks fs))
    pick true t =
        let e : meets m (marks es) ≡ 18 = only m ∙ ap (λ (b : Bool). cond b 18 0) t in
        meets-first m (marks es) (marks fs) (λ (z : meets m (marks es) ≡ 0). omega arith) ∙ e ∙ sym (ap (λ (b : Bool). cond b 18 (meets (m - reductions es) (marks fs))) t)
    pick false t =
        let e : meets m (marks es) ≡ 0 = only m ∙ ap (λ (b : Bool). cond b 18 0) t in
        meets-after m (marks es) (marks fs) e ∙ ap (λ (k : ℕ). meets k (marks fs)) left ∙ sym (ap (λ (b : Bool). cond b 18 (meets (m - reductions es) (marks fs))) t)

pub counted-both : (es fs : List Step) → OnlyCounted es → OnlyCounted fs → OnlyCounted (es ++ fs)
counted-both es fs h k m =
    counted-then es fs h m
    ∙ ap (λ (x : ℕ). stopped m (reductions es) x) (k (m - reductions es))
    ∙ stopped-twice m (reductions es) (reductions fs) 0
    ∙ ap (λ (x : ℕ). stopped m x 0) (sym (count-both es fs))

pub counted_none : OnlyCounted []
unfolding meets reductions marks
counted_none m = stopped_none m 0

pub counted-numbers : (xs : List Float) (fs : List Step) → OnlyCounted fs → OnlyCounted (computing xs ++ fs)
counted-numbers xs fs h m = ap (meets m) (marks-numbers xs fs) ∙ h m ∙ ap (λ (x : ℕ). stopped m x 0) (sym (count-numbers xs fs))

-- ---- one column's rows

module _ {E : Type 0} (O : Operations E) (W : Workings E) where
  row_count : (b : Bool) (xs : List Float) → reductions (cond b [] (reduces ∷ computing xs)) ≡ cond b 0 1
  unfolding reductions
  row_count true xs = refl
  row_count false xs = ap suc (none-counted xs)

  row-counted : (b : Bool) (xs : List Float) → OnlyCounted (cond b [] (reduces ∷ computing xs))
  unfolding meets marks
  row-counted true xs m = counted_none m
  row-counted false xs zero = rw (row_count false xs)
  row-counted false xs (suc m) =
      ap (meets m) (none-marked xs) ∙ sym (ap (λ (k : ℕ). stopped (suc m) k 0) (row_count false xs) ∙ ap (λ (b : Bool). cond b 18 0) (le-ltb (suc m) 1 (omega arith)))

  rows-counted : (C : MatrixOf E) (c : ℕ) (is js : List ℕ) → OnlyCounted (steps_of_rows O W C c is js)
  unfolding steps_of_rows steps_of_row
  rows-counted C c [] js = counted_none
  rows-counted C c (i ∷ is) js =
      counted-both _ (steps_of_rows O W C c is js) (row-counted (eqb i c || O.skips (C i c)) (of_reducing O W C c i js)) (rows-counted C c is js)

  -- how many of these rows are reduced
  among : MatrixOf E → ℕ → List ℕ → ℕ
  among C c [] = 0
  among C c (i ∷ is) = cond (eqb i c || O.skips (C i c)) 0 1 + among C c is

  among-count : (C : MatrixOf E) (c : ℕ) (is js : List ℕ) → reductions (steps_of_rows O W C c is js) ≡ among C c is
  unfolding steps_of_rows steps_of_row among reductions
  among-count C c [] js = refl
  among-count C c (i ∷ is) js =
      count-both (cond (eqb i c || O.skips (C i c)) [] (reduces ∷ computing (of_reducing O W C c i js))) (steps_of_rows O W C c is js)
      ∙ ap (λ (k : ℕ). k + reductions (steps_of_rows O W C c is js)) (row_count (eqb i c || O.skips (C i c)) (of_reducing O W C c i js))
      ∙ ap (λ (k : ℕ). cond (eqb i c || O.skips (C i c)) 0 1 + k) (among-count C c is js)

  among-end : (C : MatrixOf E) (c : ℕ) (is : List ℕ) (i : ℕ) → among C c (is ++ (i ∷ [])) ≡ among C c is + cond (eqb i c || O.skips (C i c)) 0 1
  unfolding among
  among-end C c [] i = omega arith
  among-end C c (x ∷ is) i = let e = among-end C c is i in omega arith

  among-all : (C : MatrixOf E) (c n : ℕ) → among C c (up_to n) ≡ pairs_in O C c n
  unfolding among up_to pairs_in
  among-all C c zero = refl
  among-all C c (suc n) = among-end C c (up_to n) n ∙ ap (λ (k : ℕ). k + cond (eqb n c || O.skips (C n c)) 0 1) (among-all C c n)

  rows-count : (C : MatrixOf E) (c n : ℕ) (js : List ℕ) → reductions (steps_of_rows O W C c (up_to n) js) ≡ pairs_in O C c n
  rows-count C c n js = among-count C c (up_to n) js ∙ among-all C c n

  -- ---- the columns

  count-cases : (b : Bool) (es : List Step) (k : ℕ) → reductions es ≡ k → reductions (cond b (pivot_too_small ∷ []) es) ≡ cond b 0 k
  unfolding reductions
  count-cases true es k h = refl
  count-cases false es k h = h

  run-from-count : (n w count c : ℕ) (A : MatrixOf E) → reductions (steps_from O W n w count c A) ≡ pairs_from O n count c A
  unfolding steps_from pairs_from reductions
  run-from-count n w zero c A = refl
  run-from-count n w (suc count) c A =
      let B = pivoted O n c A in
      let C = scaled O c B in
      let rows = steps_of_rows O W C c (up_to n) (up_to w) in
      let later = steps_from O W n w count (suc c) (cleared O c B) in
      count-numbers (of_search O W A c c (suc c) (n - suc c) ++ W.of_weight (B c c)) _
      ∙ count-cases (O.small (B c c)) (computing (W.of_inverse (B c c) ++ of_scaling O W B c (up_to w)) ++ (rows ++ later)) _
      (count-numbers (W.of_inverse (B c c) ++ of_scaling O W B c (up_to w)) (rows ++ later)
      ∙ count-both rows later
      ∙ ap (λ (k : ℕ). k + reductions later) (rows-count C c n (up_to w))
      ∙ ap (λ (k : ℕ). pairs_in O C c n + k) (run-from-count n w count (suc c) (cleared O c B)))

  run-from-met : (n w count c : ℕ) (A : MatrixOf E) (m : ℕ)
      → meets m (marks (steps_from O W n w count c A)) ≡ met_by m (pairs_from O n count c A) (gauss_jordan_from O n count c A).singular
  unfolding steps_from pairs_from gauss_jordan_from meets marks
  run-from-met n w zero c A m = stopped_none m 0
  run-from-met n w (suc count) c A m =
      let B = pivoted O n c A in
      ap (meets m) (marks-numbers (of_search O W A c c (suc c) (n - suc c) ++ W.of_weight (B c c)) _)
      ∙ pick (O.small (B c c)) (run-from-met n w count (suc c) (cleared O c B))
    where
      C : MatrixOf E
      C = scaled O c (pivoted O n c A)

      rows : List Step
      rows = steps_of_rows O W C c (up_to n) (up_to w)

      later : List Step
      later = steps_from O W n w count (suc c) (cleared O c (pivoted O n c A))

      next : Elimination E
      next = gauss_jordan_from O n count (suc c) (cleared O c (pivoted O n c A))

      ahead : List Float
      ahead = W.of_inverse (pivoted O n c A c c) ++ of_scaling O W (pivoted O n c A) c (up_to w)

      rest : ℕ
      rest = pairs_from O n count (suc c) (cleared O c (pivoted O n c A))

      pick : (b : Bool)
          → ((k : ℕ) → meets k (marks (steps_from O W n w count (suc c) (cleared O c (pivoted O n c A))))
          ≡ met_by k (pairs_from O n count (suc c) (cleared O c (pivoted O n c A))) (gauss_jordan_from O n count (suc c) (cleared O c (pivoted O n c A))).singular)
          → meets m (marks (cond b (pivot_too_small ∷ []) (computing (W.of_inverse (pivoted O n c A c c) ++ of_scaling O W (pivoted O n c A) c (up_to w))
          ++ (steps_of_rows O W (scaled O c (pivoted O n c A)) c (up_to n) (up_to w) ++ steps_from O W n w count (suc c) (cleared O c (pivoted O n c A))))))
          ≡ met_by m (cond b 0 (pairs_in O (scaled O c (pivoted O n c A)) c n + pairs_from O n count (suc c) (cleared O c (pivoted O n c A))))
          (cond b (record { singular = true; left = pivoted O n c A }) (gauss_jordan_from O n count (suc c) (cleared O c (pivoted O n c A)))).singular
      pick true ih = stopped_none m 13
      pick false ih =
          ap (meets m) (marks-numbers ahead (rows ++ later))
          ∙ counted-then rows later (rows-counted C c (up_to n) (up_to w)) m
          ∙ ap (λ (k : ℕ). stopped m k (meets (m - k) (marks later))) (rows-count C c n (up_to w))
          ∙ ap (λ (x : ℕ). stopped m (pairs_in O C c n) x) (ih (m - pairs_in O C c n))
          ∙ stopped-twice m (pairs_in O C c n) rest (cond next.singular 13 0)

  pub run-count : (n w : ℕ) (A : MatrixOf E) → reductions (steps_of_run O W n w A) ≡ pairs O n A
  unfolding steps_of_run pairs
  run-count n w A = run-from-count n w n 0 A

  -- by marks alone
  pub run-marked : (n w : ℕ) (A : MatrixOf E) (m : ℕ) → meets m (marks (steps_of_run O W n w A)) ≡ met_by m (pairs O n A) (gauss_jordan O n A).singular
  unfolding steps_of_run pairs gauss_jordan
  run-marked n w A m = run-from-met n w n 0 A m

  pub run-met : (n w : ℕ) (A : MatrixOf E) (m : ℕ) → (meets (reductions (steps_of_run O W n w A)) (steps_of_run O W n w A) ≡ 20 → ⊥)
      → meets m (steps_of_run O W n w A) ≡ met_by m (pairs O n A) (gauss_jordan O n A).singular
  run-met n w A m unlost = unlost-meets m (steps_of_run O W n w A) unlost ∙ run-marked n w A m
