-- The steps of an elimination are by the entries in rows below n and columns below w alone.
use Rattle.prelude.proofs.Prelude.{◌≡◌, refl, sym, ap, ◌∙◌, Bool, true, false, cond, List, [], ◌∷◌, ◌++◌, append_assoc, append-nil, ℕ, zero, suc, ◌+◌, ◌-◌, ◌≤◌, ◌<◌, arith}
use Rattle.lists.specs.Buses.{up_to}
use Rattle.complex.specs.{Matrix}
use Rattle.complex.proofs.FiniteEntries.{Each, each-up_to}
use Rattle.refusals.specs.Work.{Step, pivot_too_small, computing}
use Rattle.solver.specs.GaussJordan.{Operations, MatrixOf, stays, pivoted, scaled, cleared}
use Rattle.solver.specs.Solving.{operations}
use Rattle.solver.specs.Steps.{Workings, workings, of_search, of_scaling, of_reducing, steps_of_row, steps_of_rows, steps_from, steps_of_run}
use Rattle.solver.specs.Inner.Work.{steps_of_clearing, steps_of_column}
use Rattle.solver.proofs.GaussJordan.{pick-below, pivoted-chosen, scaled-same, cleared-same}

module _ {E : Type 0} (O : Operations E) (W : Workings E) where
  pub search-same : (A B : MatrixOf E) (c n : ℕ) → ((i : ℕ) → i < n → A i c ≡ B i c) → (held next count : ℕ) → held < n → next + count ≤ n
      → of_search O W A c held next count ≡ of_search O W B c held next count
  unfolding of_search
  search-same A B c n s held next zero h k = refl
  search-same A B c n s held next (suc count) h k =
      let a : A held c ≡ B held c = s held h in
      let b : A next c ≡ B next c = s next (omega arith) in
      let t : cond (stays (O.weight (A held c)) (O.weight (A next c))) held next ≡ cond (stays (O.weight (B held c)) (O.weight (B next c))) held next = cc in
      let later = search-same A B c n s (cond (stays (O.weight (B held c)) (O.weight (B next c))) held next) (suc next) count
      (pick-below (stays (O.weight (B held c)) (O.weight (B next c))) held next n h (omega arith)) (omega arith) in
      cc

  scaling-same : (A B : MatrixOf E) (c : ℕ) → A c c ≡ B c c → (js : List ℕ) → Each (λ (j : ℕ). A c j ≡ B c j) js → of_scaling O W A c js ≡ of_scaling O W B c js
  unfolding of_scaling
  scaling-same A B c p [] h = refl
  scaling-same A B c p (j ∷ js) (a, h) = let later = scaling-same A B c p js h in cc

  reducing-same : (C D : MatrixOf E) (c i : ℕ) → C i c ≡ D i c → (js : List ℕ) → Each (λ (j : ℕ). (C i j ≡ D i j) × (C c j ≡ D c j)) js
      → of_reducing O W C c i js ≡ of_reducing O W D c i js
  unfolding of_reducing
  reducing-same C D c i p [] h = refl
  reducing-same C D c i p (j ∷ js) ((a, b), h) = let later = reducing-same C D c i p js h in cc

  row_same : (C D : MatrixOf E) (c i : ℕ) → C i c ≡ D i c → (js : List ℕ) → Each (λ (j : ℕ). (C i j ≡ D i j) × (C c j ≡ D c j)) js
      → steps_of_row O W C c i js ≡ steps_of_row O W D c i js
  unfolding steps_of_row
  row_same C D c i p js h = let numbers = reducing-same C D c i p js h in cc

  rows_same : (C D : MatrixOf E) (c : ℕ) (js is : List ℕ) → Each (λ (i : ℕ). (C i c ≡ D i c) × Each (λ (j : ℕ). (C i j ≡ D i j) × (C c j ≡ D c j)) js) is
      → steps_of_rows O W C c is js ≡ steps_of_rows O W D c is js
  unfolding steps_of_rows
  rows_same C D c js [] h = refl
  rows_same C D c js (i ∷ is) ((p, k), h) = let first = row_same C D c i p js k in let later = rows_same C D c js is h in cc

  module _ (n w : ℕ) (wide : n ≤ w) where
    pub others_same : (C D : MatrixOf E) → ((i j : ℕ) → i < n → j < w → C i j ≡ D i j) → (c : ℕ) → c < n
        → steps_of_rows O W C c (up_to n) (up_to w) ≡ steps_of_rows O W D c (up_to n) (up_to w)
    others_same C D s c h =
        rows_same C D c (up_to w) (up_to n)
        (each-up_to _ n (λ (i : ℕ) (x : i < n). (s i c x (omega arith), each-up_to _ w (λ (j : ℕ) (y : j < w). (s i j x y, s c j h y)))))

    pub steps-from-same : (A B : MatrixOf E) → ((i j : ℕ) → i < n → j < w → A i j ≡ B i j) → (count c : ℕ) → c + count ≤ n
        → steps_from O W n w count c A ≡ steps_from O W n w count c B
    unfolding steps_from
    steps-from-same A B s zero c h = refl
    steps-from-same A B s (suc count) c h =
        let here : c < n = omega arith in
        let A' = pivoted O n c A in
        let B' = pivoted O n c B in
        let p : (i j : ℕ) → i < n → j < w → A' i j ≡ B' i j = pivoted-chosen O n w wide (λ (j : ℕ). j) (λ (j : ℕ) (k : j < n). refl) A B s c here in
        let search = search-same A B c n (λ (i : ℕ) (x : i < n). s i c x (omega arith)) c (suc c) (n - suc c) here (omega arith) in
        let pivot : A' c c ≡ B' c c = p c c here (omega arith) in
        let scaling = scaling-same A' B' c pivot (up_to w) (each-up_to _ w (λ (j : ℕ) (y : j < w). p c j here y)) in
        let rows = others_same (scaled O c A') (scaled O c B') (scaled-same O n w wide A' B' p c here) c here in
        let later = steps-from-same (cleared O c A') (cleared O c B') (cleared-same O n w wide A' B' p c here) count (suc c) (omega arith) in
        cc

    pub run-steps-same : (A B : MatrixOf E) → ((i j : ℕ) → i < n → j < w → A i j ≡ B i j) → steps_of_run O W n w A ≡ steps_of_run O W n w B
    unfolding steps_of_run
    run-steps-same A B s = steps-from-same A B s n 0 (omega arith)

pub clearing-same : (n w : ℕ) → n ≤ w → (A B : Matrix) → ((i j : ℕ) → i < n → j < w → A i j ≡ B i j) → (c : ℕ) → c < n → steps_of_clearing n w c A ≡ steps_of_clearing n w c B
unfolding steps_of_clearing
clearing-same n w wide A B s c here =
    let pivot : A c c ≡ B c c = s c c here (omega arith) in
    let numbers = scaling-same operations workings A B c pivot (up_to w) (each-up_to _ w (λ (j : ℕ) (y : j < w). s c j here y)) in
    let rows = others_same operations workings n w wide (scaled operations c A) (scaled operations c B) (scaled-same operations n w wide A B s c here) c here in
    cc

-- ---- a column at a time

-- the columns from c on begin with column c's turn
pub column-first : (n w count c : ℕ) (A : Matrix)
    → steps_from operations workings n w (suc count) c A
    ≡ steps_of_column n w c A ++ cond (operations.small (pivoted operations n c A c c)) [] (steps_from operations workings n w count (suc c) (cleared operations c (pivoted operations n c A)))
unfolding steps_from steps_of_column steps_of_clearing
column-first n w count c A =
    pick (operations.small (pivoted operations n c A c c)) (computing (of_search operations workings A c c (suc c) (n - suc c) ++ workings.of_weight (pivoted operations n c A c c)))
    (computing (workings.of_inverse (pivoted operations n c A c c) ++ of_scaling operations workings (pivoted operations n c A) c (up_to w)))
    (steps_of_rows operations workings (scaled operations c (pivoted operations n c A)) c (up_to n) (up_to w))
    (steps_from operations workings n w count (suc c) (cleared operations c (pivoted operations n c A)))
  where
    pick : (b : Bool) (xs ys rows later : List Step) → xs ++ cond b (pivot_too_small ∷ []) (ys ++ (rows ++ later)) ≡ (xs ++ cond b (pivot_too_small ∷ []) (ys ++ rows)) ++ cond b [] later
    pick true xs ys rows later = sym (append-nil (xs ++ (pivot_too_small ∷ [])))
    pick false xs ys rows later = ap (λ (l : List Step). xs ++ l) (sym (append_assoc ys rows later)) ∙ sym (append_assoc xs (ys ++ rows) later)
