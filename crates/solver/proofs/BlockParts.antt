-- Blocks of columns in a slice of rows: a row's block read, the slice when it came back, and a single entry stored.
use Rattle.prelude.proofs.Prelude.{◌≡◌, refl, ap, ◌∙◌, Bool, true, false, ◌&&◌, cond, ◌⊎◌, inl, inr, List, ℕ, zero, suc, ◌+◌, ◌-◌, ◌*◌, ◌≤◌, ◌<◌, arith, eqb, ltb, length, take, drop, Float, add_assoc, eqb-true, ltb-true, ltb-false, le-leb, lt-leb, lt-ltb, le-ltb, leb, length-drop, length-take-le}
use borrow.Author.Tests.{eqb-false, leb-true, leb-false}
use lib.Arith.{digits_lt}
use Rattle.complex.specs.{Complex, unit, entry, put, Matrix, entry_at}
use Rattle.lists.proofs.Parts.{back}
use Rattle.complex.proofs.Entries.{entry-take, entry-drop, entry-back-before, entry-back-in, entry-back-after, entry-put-same, entry-put-other}
use Rattle.complex.proofs.Matrices.{row_within, entry-within}
use Rattle.solver.specs.Inner.Work.{Lies, with_row, placed, right_sides, with_identity}

apart : (a b : ℕ) → (a ≡ b → ⊥) → (a < b) ⊎ (b < a)
apart zero zero m = absurd (m refl)
apart zero (suc b) m = inl (omega arith)
apart (suc a) zero m = inr (omega arith)
apart (suc a) (suc b) m = elim (apart a b (λ (e : a ≡ b). m (ap suc e))) [ inl l ↦ inl (omega arith) | inr l ↦ inr (omega arith) ]

-- ---- a block read

module _ {n w at m i a e : ℕ} (lies : Lies n w at m i a e) (xs : List Float) where
  count : e - a ≡ 2 * m
  count = omega arith

  block-long : length xs ≡ 2 * (n * w) → length (take (e - a) (drop a xs)) ≡ 2 * m
  block-long full = length-take-le (e - a) (drop a xs) (rw length-drop (omega arith)) ∙ count

  pub block_read : (j : ℕ) → j < m → entry (take (e - a) (drop a xs)) j ≡ right_sides at (entry_at w xs) i j
  unfolding right_sides entry_at
  block_read j h =
      rw (count, lies.begins) (entry-take m (drop (2 * (i * w + at)) xs) j h ∙ entry-drop (i * w + at) xs j ∙ ap (entry xs) (add_assoc (i * w) at j))

-- ---- a block that came back

module _ {n w at m i a e : ℕ} (lies : Lies n w at m i a e) (xs vs : List Float) (full : length xs ≡ 2 * (n * w)) (kept : length vs ≡ length (take (e - a) (drop a xs))) where
  zs : List Float
  zs = back (2 * (i * w + at)) (2 * m) xs vs

  fits : 2 * (i * w + at + m) ≤ length xs
  fits = omega arith

  long : length vs ≡ 2 * m
  long = kept ∙ block-long lies xs full

  other : (r j : ℕ) → (r ≡ i → ⊥) → j < w → entry_at w zs r j ≡ entry_at w xs r j
  unfolding entry_at zs
  other r j d k = pick (apart r i d)
    where
      pick : (r < i) ⊎ (i < r) → entry (back (2 * (i * w + at)) (2 * m) xs vs) (r * w + j) ≡ entry xs (r * w + j)
      pick (inl l) = let b : r * w + j < i * w = digits_lt l k in entry-back-before (i * w + at) m xs vs fits long (r * w + j) (omega arith)
      pick (inr l) = let b : i * w + w ≤ r * w = row_within r w i l in entry-back-after (i * w + at) m xs vs fits long (r * w + j) (omega arith)

  own-left : (j : ℕ) → j < at → entry_at w zs i j ≡ entry_at w xs i j
  unfolding entry_at zs
  own-left j k = entry-back-before (i * w + at) m xs vs fits long (i * w + j) (omega arith)

  own-right : (j : ℕ) → at + m ≤ j → entry_at w zs i j ≡ entry_at w xs i j
  unfolding entry_at zs
  own-right j k = entry-back-after (i * w + at) m xs vs fits long (i * w + j) (omega arith)

  own_in : (j : ℕ) → at ≤ j → j < at + m → entry_at w zs i j ≡ entry vs (j - at)
  unfolding entry_at zs
  own_in j k l =
      let at_j : i * w + j ≡ i * w + at + (j - at) = omega arith in
      ap (entry (back (2 * (i * w + at)) (2 * m) xs vs)) at_j ∙ entry-back-in (i * w + at) m xs vs fits long (j - at) (omega arith)

  own : (B : Matrix) → ((q : ℕ) → q < m → entry vs q ≡ B i q) → (j : ℕ) → entry_at w zs i j ≡ placed at m B (entry_at w xs) i j
  unfolding placed
  own B same j = pick (leb at j) (ltb j (at + m)) refl refl
    where
      pick : (a b : Bool) → leb at j ≡ a → ltb j (at + m) ≡ b → entry_at w zs i j ≡ cond (a && b) (B i (j - at)) (entry_at w xs i j)
      pick true true a b = own_in j (leb-true at j a) (ltb-true j (at + m) b) ∙ same (j - at) (let x = leb-true at j a in let y = ltb-true j (at + m) b in omega arith)
      pick true false a b = own-right j (ltb-false j (at + m) b)
      pick false b a e = own-left j (leb-false at j a)

  written : (B : Matrix) → ((q : ℕ) → q < m → entry vs q ≡ B i q) → (r j : ℕ) → j < w → entry_at w zs r j ≡ with_row i (placed at m B (entry_at w xs) i) (entry_at w xs) r j
  unfolding with_row
  written B same r j k = pick (eqb r i) refl
    where
      pick : (b : Bool) → eqb r i ≡ b → entry_at w zs r j ≡ cond b (placed at m B (entry_at w xs) i j) (entry_at w xs r j)
      pick true t = ap (λ (x : ℕ). entry_at w zs x j) (eqb-true r i t) ∙ own B same j
      pick false t = other r j (eqb-false r i t) k

  pub block_written : (B : Matrix) → ((q : ℕ) → q < m → entry vs q ≡ B i q) → (r j : ℕ) → j < w
      → entry_at w (back a (e - a) xs vs) r j ≡ with_row i (placed at m B (entry_at w xs) i) (entry_at w xs) r j
  unfolding zs
  block_written B same r j h = rw (count lies xs, lies.begins) (written B same r j h)

-- the block's row as it was before the first was put in
pub placed_same : (at m i w : ℕ) (B A C : Matrix) → ((q : ℕ) → q < w → A i q ≡ C i q) → (q : ℕ) → q < w → placed at m B A i q ≡ placed at m B C i q
unfolding placed
placed_same at m i w B A C h q k = ap (λ (x : Complex). cond (leb at q && ltb q (at + m)) (B i (q - at)) x) (h q k)

pub placed-in : (at m : ℕ) (B A : Matrix) (i j : ℕ) → at ≤ j → j < at + m → placed at m B A i j ≡ B i (j - at)
unfolding placed
placed-in at m B A i j h k = rw (le-leb at j h, lt-ltb j (at + m) k)

pub placed-left : (at m : ℕ) (B A : Matrix) (i j : ℕ) → j < at → placed at m B A i j ≡ A i j
unfolding placed
placed-left at m B A i j h = rw (lt-leb at j h)

pub placed-right : (at m : ℕ) (B A : Matrix) (i j : ℕ) → at + m ≤ j → placed at m B A i j ≡ A i j
unfolding placed
placed-right at m B A i j h = rw (le-leb at j (omega arith), le-ltb j (at + m) h)

-- ---- one entry stored

pub one-put : (n w i q : ℕ) (ys : List Float) (v : Complex) → i < n → q < w → length ys ≡ 2 * (n * w)
    → (r j : ℕ) → j < w → entry_at w (put ys (i * w + q) v) r j ≡ with_row i (λ (p : ℕ). cond (eqb p q) v (entry_at w ys i p)) (entry_at w ys) r j
unfolding with_row entry_at
one-put n w i q ys v hi hq full r j hj = pick (eqb r i) refl
  where
    within : i * w + q < n * w
    within = entry-within n w i q hi hq

    own : (b : Bool) → eqb j q ≡ b → entry (put ys (i * w + q) v) (i * w + j) ≡ cond b v (entry ys (i * w + j))
    own true t = ap (λ (k : ℕ). entry (put ys (i * w + q) v) (i * w + k)) (eqb-true j q t) ∙ entry-put-same ys (i * w + q) v (omega (arith, within))
    own false t = entry-put-other ys (i * w + q) v (i * w + j) (λ (e : i * w + j ≡ i * w + q). eqb-false j q t (omega arith))

    far : (r < i) ⊎ (i < r) → r * w + j ≡ i * w + q → ⊥
    far (inl l) e = let b : r * w + j < i * w = digits_lt l hj in omega arith
    far (inr l) e = let b : i * w + q < r * w = digits_lt l hq in omega arith

    pick : (b : Bool) → eqb r i ≡ b → entry (put ys (i * w + q) v) (r * w + j) ≡ cond b (cond (eqb j q) v (entry ys (i * w + j))) (entry ys (r * w + j))
    pick true t = ap (λ (k : ℕ). entry (put ys (i * w + q) v) (k * w + j)) (eqb-true r i t) ∙ own (eqb j q) refl
    pick false t = entry-put-other ys (i * w + q) v (r * w + j) (far (apart r i (eqb-false r i t)))

pub diagonal-same : (at i w : ℕ) (v : Complex) (A C : Matrix) → v ≡ unit → ((q : ℕ) → q < w → A i q ≡ C i q) → (q : ℕ) → q < w → cond (eqb q (at + i)) v (A i q) ≡ with_identity at C i q
unfolding with_identity
diagonal-same at i w v A C e h q k = ap (λ (x : Complex). cond (eqb q (at + i)) v x) (h q k) ∙ ap (λ (x : Complex). cond (eqb q (at + i)) x (C i q)) e
