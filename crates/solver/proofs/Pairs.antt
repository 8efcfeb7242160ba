-- How many rows an elimination reduces.
--     pairs-same    only the entries in rows below n and columns below w count
--     pairs-system  the right sides do not count
--     pairs-bound   at most n (n - 1)
use Rattle.prelude.proofs.Prelude.{◌≡◌, refl, sym, ap, ◌∙◌, Bool, true, false, ◌||◌, cond, ℕ, zero, suc, ◌+◌, ◌-◌, ◌*◌, ◌≤◌, ◌<◌, arith, eqb, ⊎_elim, eq-or-lt_of_le}
use native.Mathlib.Nat.{suc-mul}
use borrow.Author.Tests.{eqb-false}
use Rattle.solver.specs.GaussJordan.{Operations, MatrixOf, pivoted, scaled, cleared, pairs_in, pairs_from, pairs, augmented}
use Rattle.solver.proofs.GaussJordan.{Chosen, chosen-system, pivoted-chosen, scaled-chosen, cleared-chosen, augmented-system}

module _ {E : Type 0} (O : Operations E) where
  -- ---- what counts

  pub rows_same : (C D : MatrixOf E) (c n : ℕ) → ((i : ℕ) → i < n → C i c ≡ D i c) → pairs_in O C c n ≡ pairs_in O D c n
  unfolding pairs_in
  rows_same C D c zero h = refl
  rows_same C D c (suc n) h =
      ap (λ (x : E). pairs_in O C c n + cond (eqb n c || O.skips x) 0 1) (h n (omega arith))
      ∙ ap (λ (k : ℕ). k + cond (eqb n c || O.skips (D n c)) 0 1) (rows_same C D c n (λ (i : ℕ) (l : i < n). h i (omega arith)))

  module _ (n w : ℕ) (wide : n ≤ w) (g : ℕ → ℕ) (fixed : (j : ℕ) → j < n → g j ≡ j) where
    pairs-from-chosen : (A B : MatrixOf E) → Chosen n w g A B → (count c : ℕ) → c + count ≤ n → pairs_from O n count c A ≡ pairs_from O n count c B
    unfolding pairs_from
    pairs-from-chosen A B s zero c h = refl
    pairs-from-chosen A B s (suc count) c h =
        let here : c < n = omega arith in
        let A' = pivoted O n c A in
        let B' = pivoted O n c B in
        let p : Chosen n w g A' B' = pivoted-chosen O n w wide g fixed A B s c here in
        let q : Chosen n w g (scaled O c A') (scaled O c B') = scaled-chosen O n w wide g fixed A' B' p c here in
        let e : A' c c ≡ B' c c = chosen-system O n w wide g fixed A' B' p c c here here in
        let r : pairs_in O (scaled O c A') c n ≡ pairs_in O (scaled O c B') c n
        = rows_same (scaled O c A') (scaled O c B') c n (λ (i : ℕ) (l : i < n). chosen-system O n w wide g fixed (scaled O c A') (scaled O c B') q i c l here) in
        let t : pairs_from O n count (suc c) (cleared O c A') ≡ pairs_from O n count (suc c) (cleared O c B')
        = pairs-from-chosen (cleared O c A') (cleared O c B') (cleared-chosen O n w wide g fixed A' B' p c here) count (suc c) (omega arith) in
        cc

  pub pairs-from-same : (n w : ℕ) → n ≤ w → (A B : MatrixOf E) → ((i j : ℕ) → i < n → j < w → A i j ≡ B i j) → (count c : ℕ) → c + count ≤ n
      → pairs_from O n count c A ≡ pairs_from O n count c B
  pairs-from-same n w wide A B s count c h = pairs-from-chosen n w wide (λ (j : ℕ). j) (λ (j : ℕ) (k : j < n). refl) A B s count c h

  pub pairs-same : (n w : ℕ) → n ≤ w → (A B : MatrixOf E) → ((i j : ℕ) → i < n → j < w → A i j ≡ B i j) → pairs O n A ≡ pairs O n B
  unfolding pairs
  pairs-same n w wide A B s = pairs-from-same n w wide A B s n 0 (omega arith)

  pub pairs-system : (n : ℕ) (A B : MatrixOf E) → pairs O n (augmented O n A B) ≡ pairs O n A
  pairs-system n A B = pairs-same n n (omega arith) (augmented O n A B) A (λ (i j : ℕ) (h : i < n) (k : j < n). augmented-system O n A B i j k)

  -- ---- the bound

  at_most_one : (b : Bool) → cond b 0 1 ≤ 1
  at_most_one true = omega arith
  at_most_one false = omega arith

  rows_all : (C : MatrixOf E) (c n : ℕ) → pairs_in O C c n ≤ n
  unfolding pairs_in
  rows_all C c zero = omega arith
  rows_all C c (suc n) = let a = rows_all C c n in let b = at_most_one (eqb n c || O.skips (C n c)) in omega arith

  -- row c is left out
  rows_bound : (C : MatrixOf E) (c n : ℕ) → c < n → suc (pairs_in O C c n) ≤ n
  unfolding pairs_in
  rows_bound C c zero h = absurd (omega arith)
  rows_bound C c (suc n) h = pick (eqb n c) refl (rows_all C c n) (rows_bound C c n)
    where
      pick : (b : Bool) → eqb n c ≡ b → pairs_in O C c n ≤ n → (c < n → suc (pairs_in O C c n) ≤ n)
          → suc (pairs_in O C c n + cond (b || O.skips (C n c)) 0 1) ≤ suc n
      pick true t all before = omega arith
      pick false t all before =
          let other = eqb-false n c t in
          let l = before (⊎_elim (λ x. absurd (other (sym x))) (λ l. l) (eq-or-lt_of_le {n = c} {m = n} (omega arith))) in
          let one = at_most_one (O.skips (C n c)) in
          omega arith

  no_more : (b : Bool) (k m : ℕ) → k ≤ m → cond b 0 k ≤ m
  no_more true k m h = omega arith
  no_more false k m h = h

  pairs-from-bound : (n count c : ℕ) (A : MatrixOf E) → c + count ≤ n → pairs_from O n count c A ≤ count * (n - 1)
  unfolding pairs_from
  pairs-from-bound n zero c A h = omega arith
  pairs-from-bound n (suc count) c A h =
      let B = pivoted O n c A in
      let column = rows_bound (scaled O c B) c n (omega arith) in
      let later = pairs-from-bound n count (suc c) (cleared O c B) (omega arith) in
      let one : suc count * (n - 1) ≡ count * (n - 1) + (n - 1) = suc-mul count (n - 1) in
      no_more (O.small (B c c)) (pairs_in O (scaled O c B) c n + pairs_from O n count (suc c) (cleared O c B)) (suc count * (n - 1)) (omega arith)

  pub pairs-bound : (n : ℕ) (A : MatrixOf E) → pairs O n A ≤ n * (n - 1)
  unfolding pairs
  pairs-bound n A = pairs-from-bound n n 0 A (omega arith)
