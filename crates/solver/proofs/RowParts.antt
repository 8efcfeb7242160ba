-- Rows as parts of the work slice: a row read, the slice when its row came back, rows swapped, scaled and reduced.
use Rattle.prelude.proofs.Prelude.{◌≡◌, refl, sym, ap, ◌∙◌, Bool, true, false, ◌||◌, cond, List, ℕ, ◌+◌, ◌-◌, ◌*◌, ◌≤◌, ◌<◌, arith, eqb, length, take, drop, Float, zero-add, sub-zero, eqb-true, eq-eqb, length-take-le}
use Rattle.complex.specs.{Complex, cmul, csub, complex_inv, entry, Matrix, entry_at}
use Rattle.complex.proofs.Matrices.{entry-within}
use Rattle.lists.proofs.Parts.{back}
use Rattle.solver.specs.GaussJordan.{swapped, scaled, reduced}
use Rattle.solver.specs.Solving.{operations, skipped}
use Rattle.solver.specs.Inner.Work.{Lies, with_row, right_sides, less_factor}
use Rattle.solver.proofs.BlockParts.{block_read, block_written, placed-in}

-- ---- a row read, and a row that came back: a row is the block of its w entries from column 0 on

module _ {n w r a e : ℕ} (lies : Lies n w 0 w r a e) (xs : List Float) where
  pub row_read : (j : ℕ) → j < w → entry (take (e - a) (drop a xs)) j ≡ entry_at w xs r j
  unfolding right_sides
  row_read j h = block_read lies xs j h ∙ ap (entry_at w xs r) (zero-add j)

  pub row_written : (vs : List Float) → length xs ≡ 2 * (n * w) → length vs ≡ length (take (e - a) (drop a xs)) → (f : ℕ → Complex) → ((q : ℕ) → q < w → entry vs q ≡ f q)
      → (i j : ℕ) → j < w → entry_at w (back a (e - a) xs vs) i j ≡ with_row r f (entry_at w xs) i j
  unfolding with_row
  row_written vs full kept f same i j h =
      block_written lies xs vs full kept (λ (p : ℕ). f) same i j h
      ∙ ap (λ (x : Complex). cond (eqb i r) x (entry_at w xs i j)) (placed-in 0 w (λ (p : ℕ). f) (entry_at w xs) r j (omega arith) (omega arith) ∙ ap f (sub-zero j))

-- the entry in column c of row i is within the slice
pub entry-inside : {n w long i c : ℕ} → n ≤ w → long ≡ 2 * (n * w) → i < n → c < n → 2 * (i * w + c) + 1 < long
entry-inside {n = n} {w = w} {i = i} {c = c} wide full h k = let within = entry-within n w i c h (omega arith) in omega arith

-- a row at the front of a longer list
pub front_long : (w : ℕ) (xs : List Float) → length xs ≡ 4 * w → length (take (2 * w - 0) (drop 0 xs)) ≡ 2 * w
front_long w xs l = rw (sub-zero (2 * w)) (length-take-le (2 * w) xs (omega arith))

-- ---- row c copied, put in the place of row p, and what stood there put in the place of row c

module _ (w c p : ℕ) (A B C : Matrix) (f g : ℕ → Complex)
    (first : (j : ℕ) → j < w → f j ≡ A c j) (put-p : (i j : ℕ) → j < w → B i j ≡ with_row p f A i j)
    (second : (j : ℕ) → j < w → g j ≡ A p j) (put-c : (i j : ℕ) → j < w → C i j ≡ with_row c g B i j) where
  pick-row : (a b : Bool) (i j : ℕ) → cond a (A p j) (cond b (A c j) (A i j)) ≡ A (cond a p (cond b c i)) j
  pick-row true b i j = refl
  pick-row false true i j = refl
  pick-row false false i j = refl

  pub rows-swapped : (i j : ℕ) → j < w → C i j ≡ swapped operations c p A i j
  unfolding swapped with_row
  rows-swapped i j h =
      put-c i j h
      ∙ ap (λ (x : Complex). cond (eqb i c) x (B i j)) (second j h)
      ∙ ap (λ (x : Complex). cond (eqb i c) (A p j) x) (put-p i j h ∙ ap (λ (x : Complex). cond (eqb i p) x (A i j)) (first j h))
      ∙ pick-row (eqb i c) (eqb i p) i j

-- ---- the rows but the pivot's reduced, one after the other

-- a row came back less its factor times the pivot row
pub row-reduced : {n w i a e : ℕ} → Lies n w 0 w i a e → (c : ℕ) (pivot xs vs : List Float) (factor : Complex) → length xs ≡ 2 * (n * w)
    → length vs ≡ length (take (e - a) (drop a xs)) → factor ≡ entry_at w xs i c
    → ((q : ℕ) → q < w → entry vs q ≡ csub (entry (take (e - a) (drop a xs)) q) (cmul factor (entry pivot q)))
    → (r j : ℕ) → j < w → entry_at w (back a (e - a) xs vs) r j ≡ with_row i (less_factor c (entry pivot) (entry_at w xs) i) (entry_at w xs) r j
unfolding less_factor
row-reduced {w = w} {i = i} lies c pivot xs vs factor full kept f done =
    row_written lies xs vs full kept (less_factor c (entry pivot) (entry_at w xs) i)
    (λ (q : ℕ) (h : q < w). done q h ∙ ap (λ (x : Complex). csub x (cmul factor (entry pivot q))) (row_read lies xs q h) ∙ ap (λ (x : Complex). csub (entry_at w xs i q) (cmul x (entry pivot q))) f)

module _ (w c : ℕ) (f : ℕ → Complex) (A : Matrix) (pivot : (q : ℕ) → q < w → f q ≡ A c q) where
  -- the row i, as it was before the first row was reduced, is reduced as the definition has it
  pub reduced-is : (B : Matrix) (i : ℕ) → c < w → ((q : ℕ) → q < w → B i q ≡ A i q) → (eqb i c || skipped (A i c)) ≡ false
      → (q : ℕ) → q < w → less_factor c f B i q ≡ reduced operations c A i q
  unfolding less_factor reduced
  reduced-is B i hc h t q k =
      let a : B i q ≡ A i q = h q k in
      let b : B i c ≡ A i c = h c hc in
      let p : f q ≡ A c q = pivot q k in
      let whole : csub (B i q) (cmul (B i c) (f q)) ≡ csub (A i q) (cmul (A i c) (A c q)) = cc in
      whole ∙ sym (ap (λ (s : Bool). cond s (A i q) (csub (A i q) (cmul (A i c) (A c q)))) t)

-- a row that is left alone is as the definition has it
pub alone-is : (c i : ℕ) (A : Matrix) → (eqb i c || skipped (A i c)) ≡ true → (q : ℕ) → A i q ≡ reduced operations c A i q
unfolding reduced
alone-is c i A t q = sym (ap (λ (s : Bool). cond s (A i q) (csub (A i q) (cmul (A i c) (A c q)))) t)

-- row c of A, each entry times the inverse of the pivot, put in its place
pub scaled-is : (w c : ℕ) (f g : ℕ → Complex) (A B : Matrix) (x y : Complex) → c < w → ((q : ℕ) → q < w → f q ≡ A c q) → x ≡ f c → y ≡ complex_inv x
    → ((q : ℕ) → q < w → g q ≡ cmul (f q) y) → ((i q : ℕ) → q < w → B i q ≡ with_row c g A i q) → (i q : ℕ) → q < w → B i q ≡ scaled operations c A i q
unfolding with_row scaled
scaled-is w c f g A B x y hc row pivot inv times put i q k = put i q k ∙ pick (eqb i c) refl
  where
    factor : y ≡ complex_inv (A c c)
    factor = inv ∙ ap complex_inv (pivot ∙ row c hc)

    pick : (b : Bool) → eqb i c ≡ b → cond b (g q) (A i q) ≡ cond b (cmul (A i q) (complex_inv (A c c))) (A i q)
    pick true t =
        times q k ∙ ap (λ (z : Complex). cmul z y) (row q k ∙ ap (λ (r : ℕ). A r q) (sym (eqb-true i c t))) ∙ ap (cmul (A i q)) factor
    pick false t = refl

-- what was put in the place of row c stands there
pub row_put : (w c : ℕ) (g : ℕ → Complex) (A B : Matrix) → ((i q : ℕ) → q < w → B i q ≡ with_row c g A i q) → (q : ℕ) → q < w → g q ≡ B c q
unfolding with_row
row_put w c g A B put q k = sym (put c q k ∙ ap (λ (b : Bool). cond b (g q) (A c q)) (eq-eqb c c refl))
