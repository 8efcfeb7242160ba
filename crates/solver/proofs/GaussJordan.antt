-- Laws of the elimination, over any element's operations.
--     run-chosen       choosing columns, with the system's where they are, and eliminating gives the chosen columns of what elimination leaves
--     run-same         only the entries in rows below n and columns below w count
--     singular-system  whether 13 comes depends on the system's columns alone
--     column-alone     column c of many right sides is the solution for right side c alone
use Rattle.prelude.proofs.Prelude.{◌≡◌, refl, sym, ap, ◌∙◌, subst, Bool, true, false, cond, ◌⊎◌, inl, inr, ℕ, zero, suc, ◌+◌, ◌-◌, ◌≤◌, ◌<◌, add-one, arith, eqb, ltb, eq-or-lt_of_le, sub-zero, lt-ltb, le-ltb}
use Rattle.solver.specs.GaussJordan.{Operations, MatrixOf, Elimination, stays, held_after, pivot_row, swapped, scaled, reduced, pivoted, cleared, gauss_jordan_from, gauss_jordan, augmented, solution, singular_system}

-- a Bool picks one of two numbers, both below n
pub pick-below : (b : Bool) (x y n : ℕ) → x < n → y < n → cond b x y < n
pick-below true x y n h k = h
pick-below false x y n h k = k

-- A's first w columns are B's, chosen by g
abbrev pub Chosen : {E : Type 0} → ℕ → ℕ → (ℕ → ℕ) → MatrixOf E → MatrixOf E → Type 0
Chosen n w g A B = (i j : ℕ) → i < n → j < w → A i j ≡ B i (g j)

-- two runs that end alike, the first one's columns the second one's, chosen by g
pub record Alike {E : Type 0} (n w : ℕ) (g : ℕ → ℕ) (R S : Elimination E) : Type 0 where
  pub singular : R.singular ≡ S.singular
  pub left : (i j : ℕ) → i < n → j < w → R.left i j ≡ S.left i (g j)

module _ {E : Type 0} (O : Operations E) where
  -- ---- the pivot's row is one of the rows

  pub held_below : (A : MatrixOf E) (c n held next count : ℕ) → held < n → next + count ≤ n → held_after O A c held next count < n
  unfolding held_after
  held_below A c n held next zero h k = h
  held_below A c n held next (suc count) h k =
      held_below A c n (cond (stays (O.weight (A held c)) (O.weight (A next c))) held next) (suc next) count
      (pick-below (stays (O.weight (A held c)) (O.weight (A next c))) held next n h (omega arith)) (omega arith)

  pub pivot-below : (n : ℕ) (A : MatrixOf E) (c : ℕ) → c < n → pivot_row O n A c < n
  unfolding pivot_row
  pivot-below n A c h = held_below A c n c (suc c) (n - suc c) h (omega arith)

  -- ---- the search, a row at a time

  pub held_first : (n : ℕ) (A : MatrixOf E) (c : ℕ) → held_after O A c c (c + 1) (n - (c + 1)) ≡ pivot_row O n A c
  unfolding pivot_row
  held_first n A c = ap (λ (x : ℕ). held_after O A c c x (n - x)) (add-one c)

  pub held_next : (A : MatrixOf E) (c n held next held' : ℕ) → next < n → held' ≡ cond (stays (O.weight (A held c)) (O.weight (A next c))) held next
      → held_after O A c held' (next + 1) (n - (next + 1)) ≡ held_after O A c held next (n - next)
  unfolding held_after
  held_next A c n held next held' h e =
      let one : n - next ≡ suc (n - suc next) = omega arith in
      ap (λ (x : ℕ). held_after O A c held' x (n - x)) (add-one next)
      ∙ ap (λ (x : ℕ). held_after O A c x (suc next) (n - suc next)) e
      ∙ sym (ap (held_after O A c held next) one)

  pub held-last : (A : MatrixOf E) (c n held next : ℕ) → next ≡ n → held ≡ held_after O A c held next (n - next)
  unfolding held_after
  held-last A c n held next e =
      let none : n - next ≡ 0 = omega arith in
      sym (ap (held_after O A c held next) none)

  pub kept-below : (A : MatrixOf E) (c n held next held' : ℕ) → held < n → next < n
      → held' ≡ cond (stays (O.weight (A held c)) (O.weight (A next c))) held next → held' < n
  kept-below A c n held next held' h k e =
      subst (λ (x : ℕ). x < n) (sym e) (pick-below (stays (O.weight (A held c)) (O.weight (A next c))) held next n h k)

  -- ---- columns chosen by g: the system's n stay where they are

  module _ (n w : ℕ) (wide : n ≤ w) (g : ℕ → ℕ) (fixed : (j : ℕ) → j < n → g j ≡ j) where
    -- in the system's columns the two are the same
    pub chosen-system : (A B : MatrixOf E) → Chosen n w g A B → (i j : ℕ) → i < n → j < n → A i j ≡ B i j
    chosen-system A B s i j h k = s i j h (omega arith) ∙ ap (B i) (fixed j k)

    held-chosen : (A B : MatrixOf E) → Chosen n w g A B → (c held next count : ℕ) → c < n → held < n → next + count ≤ n
        → held_after O A c held next count ≡ held_after O B c held next count
    unfolding held_after
    held-chosen A B s c held next zero hc h k = refl
    held-chosen A B s c held next (suc count) hc h k =
        let a : A held c ≡ B held c = chosen-system A B s held c h hc in
        let b : A next c ≡ B next c = chosen-system A B s next c (omega arith) hc in
        let t : cond (stays (O.weight (A held c)) (O.weight (A next c))) held next ≡ cond (stays (O.weight (B held c)) (O.weight (B next c))) held next = cc in
        ap (λ (x : ℕ). held_after O A c x (suc next) count) t
        ∙ held-chosen A B s c (cond (stays (O.weight (B held c)) (O.weight (B next c))) held next) (suc next) count hc
        (pick-below (stays (O.weight (B held c)) (O.weight (B next c))) held next n h (omega arith)) (omega arith)

    pivot-chosen : (A B : MatrixOf E) → Chosen n w g A B → (c : ℕ) → c < n → pivot_row O n A c ≡ pivot_row O n B c
    unfolding pivot_row
    pivot-chosen A B s c h = held-chosen A B s c c (suc c) (n - suc c) h h (omega arith)

    pub pivoted-chosen : (A B : MatrixOf E) → Chosen n w g A B → (c : ℕ) → c < n → Chosen n w g (pivoted O n c A) (pivoted O n c B)
    unfolding pivoted swapped
    pivoted-chosen A B s c h i j hi hj =
        let p = pivot_row O n B c in
        ap (λ (x : ℕ). A (cond (eqb i c) x (cond (eqb i x) c i)) j) (pivot-chosen A B s c h)
        ∙ s (cond (eqb i c) p (cond (eqb i p) c i)) j
        (pick-below (eqb i c) p (cond (eqb i p) c i) n (pivot-below n B c h) (pick-below (eqb i p) c i n h hi)) hj

    pub scaled-chosen : (A B : MatrixOf E) → Chosen n w g A B → (c : ℕ) → c < n → Chosen n w g (scaled O c A) (scaled O c B)
    unfolding scaled
    scaled-chosen A B s c h i j hi hj =
        let a : A i j ≡ B i (g j) = s i j hi hj in
        let d : A c c ≡ B c c = chosen-system A B s c c h h in
        cc

    reduced-chosen : (A B : MatrixOf E) → Chosen n w g A B → (c : ℕ) → c < n → Chosen n w g (reduced O c A) (reduced O c B)
    unfolding reduced
    reduced-chosen A B s c h i j hi hj =
        let a : A i j ≡ B i (g j) = s i j hi hj in
        let f : A i c ≡ B i c = chosen-system A B s i c hi h in
        let p : A c j ≡ B c (g j) = s c j h hj in
        cc

    pub cleared-chosen : (A B : MatrixOf E) → Chosen n w g A B → (c : ℕ) → c < n → Chosen n w g (cleared O c A) (cleared O c B)
    unfolding cleared
    cleared-chosen A B s c h = reduced-chosen (scaled O c A) (scaled O c B) (scaled-chosen A B s c h) c h

    pick-alike : (b : Bool) (R R' S S' : Elimination E) → Alike n w g R S → Alike n w g R' S' → Alike n w g (cond b R R') (cond b S S')
    pick-alike true R R' S S' a b = a
    pick-alike false R R' S S' a b = b

    pub run-from-chosen : (A B : MatrixOf E) → Chosen n w g A B → (count c : ℕ) → c + count ≤ n → Alike n w g (gauss_jordan_from O n count c A) (gauss_jordan_from O n count c B)
    unfolding gauss_jordan_from
    run-from-chosen A B s zero c h = record { singular = refl; left = s }
    run-from-chosen A B s (suc count) c h =
        let A' = pivoted O n c A in
        let B' = pivoted O n c B in
        let p : Chosen n w g A' B' = pivoted-chosen A B s c (omega arith) in
        let e : O.small (A' c c) ≡ O.small (B' c c) = ap (λ (x : E). O.small x) (chosen-system A' B' p c c (omega arith) (omega arith)) in
        subst
        (λ (t : Bool). Alike n w g
        (cond t (record { singular = true; left = A' }) (gauss_jordan_from O n count (suc c) (cleared O c A')))
        (cond (O.small (B' c c)) (record { singular = true; left = B' }) (gauss_jordan_from O n count (suc c) (cleared O c B'))))
        (sym e)
        (pick-alike (O.small (B' c c))
        (record { singular = true; left = A' }) (gauss_jordan_from O n count (suc c) (cleared O c A'))
        (record { singular = true; left = B' }) (gauss_jordan_from O n count (suc c) (cleared O c B'))
        (record { singular = refl; left = p })
        (run-from-chosen (cleared O c A') (cleared O c B') (cleared-chosen A' B' p c (omega arith)) count (suc c) (omega arith)))

    pub run-chosen : (A B : MatrixOf E) → Chosen n w g A B → Alike n w g (gauss_jordan O n A) (gauss_jordan O n B)
    unfolding gauss_jordan
    run-chosen A B s = run-from-chosen A B s n 0 (omega arith)

  -- ---- only entries within n rows and w columns count

  pub run-from-same : (n w : ℕ) → n ≤ w → (A B : MatrixOf E) → ((i j : ℕ) → i < n → j < w → A i j ≡ B i j) → (count c : ℕ) → c + count ≤ n
      → Alike n w (λ (j : ℕ). j) (gauss_jordan_from O n count c A) (gauss_jordan_from O n count c B)
  run-from-same n w wide A B s count c h = run-from-chosen n w wide (λ (j : ℕ). j) (λ (j : ℕ) (k : j < n). refl) A B s count c h

  pub run-same : (n w : ℕ) → n ≤ w → (A B : MatrixOf E) → ((i j : ℕ) → i < n → j < w → A i j ≡ B i j) → Alike n w (λ (j : ℕ). j) (gauss_jordan O n A) (gauss_jordan O n B)
  run-same n w wide A B s = run-chosen n w wide (λ (j : ℕ). j) (λ (j : ℕ) (k : j < n). refl) A B s

  pub scaled-same : (n w : ℕ) → n ≤ w → (A B : MatrixOf E) → ((i j : ℕ) → i < n → j < w → A i j ≡ B i j) → (c : ℕ) → c < n
      → (i j : ℕ) → i < n → j < w → scaled O c A i j ≡ scaled O c B i j
  scaled-same n w wide A B s c h = scaled-chosen n w wide (λ (j : ℕ). j) (λ (j : ℕ) (k : j < n). refl) A B s c h

  pub reduced-same : (n w : ℕ) → n ≤ w → (A B : MatrixOf E) → ((i j : ℕ) → i < n → j < w → A i j ≡ B i j) → (c : ℕ) → c < n
      → (i j : ℕ) → i < n → j < w → reduced O c A i j ≡ reduced O c B i j
  reduced-same n w wide A B s c h = reduced-chosen n w wide (λ (j : ℕ). j) (λ (j : ℕ) (k : j < n). refl) A B s c h

  pub cleared-same : (n w : ℕ) → n ≤ w → (A B : MatrixOf E) → ((i j : ℕ) → i < n → j < w → A i j ≡ B i j) → (c : ℕ) → c < n
      → (i j : ℕ) → i < n → j < w → cleared O c A i j ≡ cleared O c B i j
  cleared-same n w wide A B s c h = cleared-chosen n w wide (λ (j : ℕ). j) (λ (j : ℕ) (k : j < n). refl) A B s c h

  -- ---- a column at a time, on any matrix that agrees with the definition's

  abbrev pub Same : ℕ → ℕ → Elimination E → Elimination E → Type 0
  Same n w R S = Alike n w (λ (j : ℕ). j) R S

  pub run-first : (n w : ℕ) (A : MatrixOf E) → Same n w (gauss_jordan_from O n (n - 0) 0 A) (gauss_jordan O n A)
  unfolding gauss_jordan
  run-first n w A =
      let same : Same n w (gauss_jordan_from O n n 0 A) (gauss_jordan O n A) = record { singular = refl; left = λ (i j : ℕ) (h : i < n) (k : j < w). refl } in
      subst (λ (k : ℕ). Same n w (gauss_jordan_from O n k 0 A) (gauss_jordan O n A)) (sym (sub-zero n)) same

  -- the column's step, with what its pivot's test says
  column-is : (n c : ℕ) (A : MatrixOf E) (b : Bool) → c < n → O.small (pivoted O n c A c c) ≡ b
      → gauss_jordan_from O n (n - c) c A ≡ cond b (record { singular = true; left = pivoted O n c A }) (gauss_jordan_from O n (n - suc c) (suc c) (cleared O c (pivoted O n c A)))
  unfolding gauss_jordan_from
  column-is n c A b h t =
      let one : n - c ≡ suc (n - suc c) = omega arith in
      ap (λ (k : ℕ). gauss_jordan_from O n k c A) one
      ∙ ap (λ (s : Bool). cond s (record { singular = true; left = pivoted O n c A }) (gauss_jordan_from O n (n - suc c) (suc c) (cleared O c (pivoted O n c A)))) t

  pub run-stops : (n w c : ℕ) (A B : MatrixOf E) (R : Elimination E) → c < n → O.small (pivoted O n c A c c) ≡ true
      → ((i j : ℕ) → i < n → j < w → B i j ≡ pivoted O n c A i j) → Same n w (gauss_jordan_from O n (n - c) c A) R
      → (true ≡ R.singular) × ((i j : ℕ) → i < n → j < w → B i j ≡ R.left i j)
  run-stops n w c A B R h t same alike =
      let e = column-is n c A true h t in
      let at : Same n w (record { singular = true; left = pivoted O n c A }) R = subst (λ (S : Elimination E). Same n w S R) e alike in
      (at.singular, λ (i j : ℕ) (x : i < n) (y : j < w). same i j x y ∙ at.left i j x y)

  pub run-goes-on : (n w c : ℕ) (A B : MatrixOf E) (R : Elimination E) → n ≤ w → c < n → O.small (pivoted O n c A c c) ≡ false
      → ((i j : ℕ) → i < n → j < w → B i j ≡ cleared O c (pivoted O n c A) i j) → Same n w (gauss_jordan_from O n (n - c) c A) R
      → Same n w (gauss_jordan_from O n (n - (c + 1)) (c + 1) B) R
  run-goes-on n w c A B R wide h t same alike =
      let e = column-is n c A false h t in
      let C = cleared O c (pivoted O n c A) in
      let at : Same n w (gauss_jordan_from O n (n - suc c) (suc c) C) R = subst (λ (S : Elimination E). Same n w S R) e alike in
      let next : Same n w (gauss_jordan_from O n (n - suc c) (suc c) B) (gauss_jordan_from O n (n - suc c) (suc c) C) = run-from-same n w wide B C same (n - suc c) (suc c) (omega arith) in
      let all : Same n w (gauss_jordan_from O n (n - suc c) (suc c) B) R = record {
        singular = next.singular ∙ at.singular;
        left = λ (i j : ℕ) (x : i < n) (y : j < w). next.left i j x y ∙ at.left i j x y;
      } in
      subst (λ (k : ℕ). Same n w (gauss_jordan_from O n (n - k) k B) R) (sym (add-one c)) all

  pub run_ends : (n w c : ℕ) (A : MatrixOf E) (R : Elimination E) → c ≡ n → Same n w (gauss_jordan_from O n (n - c) c A) R
      → (false ≡ R.singular) × ((i j : ℕ) → i < n → j < w → A i j ≡ R.left i j)
  unfolding gauss_jordan_from
  run_ends n w c A R e alike =
      let none : n - c ≡ 0 = omega arith in
      let at : Same n w (gauss_jordan_from O n 0 c A) R = subst (λ (k : ℕ). Same n w (gauss_jordan_from O n k c A) R) none alike in
      (at.singular, at.left)

  -- ---- a system beside its right sides

  pub singular-system : (n : ℕ) (A B : MatrixOf E) → ((i j : ℕ) → i < n → j < n → A i j ≡ B i j) → (gauss_jordan O n A).singular ≡ singular_system O n B
  unfolding singular_system
  singular-system n A B s = (run-same n n (omega arith) A B s).singular

  pub augmented-system : (n : ℕ) (A B : MatrixOf E) (i j : ℕ) → j < n → augmented O n A B i j ≡ A i j
  unfolding augmented
  augmented-system n A B i j h = rw (lt-ltb j n h)

  pub augmented-right : (n : ℕ) (A B : MatrixOf E) (i c : ℕ) → augmented O n A B i (n + c) ≡ B i c
  unfolding augmented
  augmented-right n A B i c =
      let e : n + c - n ≡ c = omega arith in
      rw (le-ltb (n + c) n (omega arith), e)

  pub augmented-singular : (n : ℕ) (A B : MatrixOf E) → (gauss_jordan O n (augmented O n A B)).singular ≡ singular_system O n A
  augmented-singular n A B = singular-system n (augmented O n A B) A (λ (i j : ℕ) (h : i < n) (k : j < n). augmented-system n A B i j k)

  -- the columns of one system: the system's, and right side c
  abbrev pub alone : ℕ → ℕ → ℕ → ℕ
  alone n c j = cond (ltb j n) j (n + c)

  pub alone-system : (n c j : ℕ) → j < n → alone n c j ≡ j
  alone-system n c j h = rw (lt-ltb j n h)

  pub alone-right : (n c : ℕ) → alone n c n ≡ n + c
  alone-right n c = rw (le-ltb n n (omega arith))

  pub alone-chosen : (n c : ℕ) (A B : MatrixOf E) → Chosen n (n + 1) (alone n c) (augmented O n A (λ (r k : ℕ). B r c)) (augmented O n A B)
  alone-chosen n c A B i j h k = pick (eq-or-lt_of_le {n = j} {m = n} (omega arith))
    where
      pick : (j ≡ n) ⊎ (j < n) → augmented O n A (λ (r k : ℕ). B r c) i j ≡ augmented O n A B i (alone n c j)
      pick (inl e) =
          let z : n + 0 ≡ j = omega arith in
          let f : alone n c j ≡ n + c = ap (alone n c) e ∙ alone-right n c in
          ap (augmented O n A (λ (r k : ℕ). B r c) i) (sym z) ∙ augmented-right n A (λ (r k : ℕ). B r c) i 0 ∙ sym (augmented-right n A B i c) ∙ ap (augmented O n A B i) (sym f)
      pick (inr l) =
          augmented-system n A (λ (r k : ℕ). B r c) i j l ∙ sym (augmented-system n A B i j l) ∙ ap (augmented O n A B i) (sym (alone-system n c j l))

  pub column-alone : (n : ℕ) (A B : MatrixOf E) (i c : ℕ) → i < n → (gauss_jordan O n (augmented O n A B)).left i (n + c) ≡ solution O n A (λ (r : ℕ). B r c) i
  unfolding solution
  column-alone n A B i c h =
      ap ((gauss_jordan O n (augmented O n A B)).left i) (sym (alone-right n c))
      ∙ sym ((run-chosen n (n + 1) (omega arith) (alone n c) (alone-system n c) (augmented O n A (λ (r k : ℕ). B r c)) (augmented O n A B) (alone-chosen n c A B)).left i n h (omega arith))
