-- The numbers that a removal computes: they are finite where y_kk's squared magnitude and those of each new entry are, and only entries between active buses make
-- them.
use Rattle.prelude.proofs.Prelude.{◌≡◌, refl, List, [], ◌∷◌, ◌++◌, inl, inr, ℕ, T, Float, finite, ap₂}
use Rattle.binary64.specs.Values.{all_finite}
use Rattle.complex.specs.{Matrix, cmul, sqmag, of_parts, of_product, of_sqmag, of_quotient}
use Rattle.complex.proofs.Finite.{none, all_join, all_left, all_right}
use Rattle.complex.proofs.Sticky.{Finite, square-finite, square-result, all-parts}
use Rattle.lists.specs.Buses.{◌is_one_of◌}
use Rattle.lists.proofs.Buses.{in_head, in_tail, in-cases}
use Rattle.kron_reduction.specs.Kron.{kron, State, remove, of_new_entry, of_row, of_rows, of_removal}

-- ---- each new entry

row-all : (k : ℕ) (Y : Matrix) (i : ℕ) (js : List ℕ) → ((j : ℕ) → j is_one_of js → T (all_finite (of_new_entry k Y i j))) → T (all_finite (of_row k Y i js))
unfolding of_row
row-all k Y i [] h = none
row-all k Y i (j ∷ js) h =
    all_join (of_new_entry k Y i j) (of_row k Y i js) (h j (in_head j js)) (row-all k Y i js (λ (q : ℕ) (m : q is_one_of js). h q (in_tail q j js m)))

rows_all : (k : ℕ) (Y : Matrix) (is js : List ℕ) → ((i j : ℕ) → i is_one_of is → j is_one_of js → T (all_finite (of_new_entry k Y i j))) → T (all_finite (of_rows k Y is js))
unfolding of_rows
rows_all k Y [] js h = none
rows_all k Y (i ∷ is) js h =
    all_join (of_row k Y i js) (of_rows k Y is js) (row-all k Y i js (λ (j : ℕ) (m : j is_one_of js). h i j (in_head i is) m))
    (rows_all k Y is js (λ (p j : ℕ) (l : p is_one_of is) (m : j is_one_of js). h p j (in_tail p i is l) m))

row_at : (k : ℕ) (Y : Matrix) (i : ℕ) (js : List ℕ) → T (all_finite (of_row k Y i js)) → (j : ℕ) → j is_one_of js → T (all_finite (of_new_entry k Y i j))
unfolding of_row
row_at k Y i [] h j m = absurd m
row_at k Y i (x ∷ js) h j m = elim (in-cases j x js m) [
  | inl e ↦ rw e (all_left (of_new_entry k Y i x) (of_row k Y i js) h)
  | inr t ↦ row_at k Y i js (all_right (of_new_entry k Y i x) (of_row k Y i js) h) j t
]

rows_at : (k : ℕ) (Y : Matrix) (is js : List ℕ) → T (all_finite (of_rows k Y is js)) → (i j : ℕ) → i is_one_of is → j is_one_of js → T (all_finite (of_new_entry k Y i j))
unfolding of_rows
rows_at k Y [] js h i j l m = absurd l
rows_at k Y (x ∷ is) js h i j l m = elim (in-cases i x is l) [
  | inl e ↦ rw e (row_at k Y x js (all_left (of_row k Y x js) (of_rows k Y is js) h) j m)
  | inr t ↦ rows_at k Y is js (all_right (of_row k Y x js) (of_rows k Y is js) h) i j t m
]

-- ---- a removal

module _ (s : State) (k : ℕ) where
  abbrev rest : List ℕ
  rest = (remove s k).active

  pub removal-finite : T (finite (sqmag (s.entries k k))) → ((i j : ℕ) → i is_one_of rest → j is_one_of rest → T (all_finite (of_new_entry k s.entries i j))) → T (all_finite (of_removal s k))
  removal-finite d h = all_join (of_sqmag (s.entries k k)) (of_rows k s.entries rest rest) (square-finite (s.entries k k) d) (rows_all k s.entries rest rest h)

  module _ (h : T (all_finite (of_removal s k))) where
    pub removal-square : T (finite (sqmag (s.entries k k)))
    removal-square = square-result (s.entries k k) (all_left (of_sqmag (s.entries k k)) (of_rows k s.entries rest rest) h)

    pub removal-at : (i j : ℕ) → i is_one_of rest → j is_one_of rest → T (all_finite (of_new_entry k s.entries i j))
    removal-at = rows_at k s.entries rest rest (all_right (of_sqmag (s.entries k k)) (of_rows k s.entries rest rest) h)

    -- what is left is finite
    pub removal-leaves : (i j : ℕ) → i is_one_of rest → j is_one_of rest → Finite ((remove s k).entries i j)
    removal-leaves i j l m =
        all-parts (kron k s.entries i j)
        (all_right (of_product (s.entries i k) (s.entries k j) ++ of_quotient (cmul (s.entries i k) (s.entries k j)) (s.entries k k)) (of_parts (kron k s.entries i j)) (removal-at i j l m))

-- ---- the same entries, the same numbers

module _ (k : ℕ) (Y Z : Matrix) where
  abbrev Same : ℕ → ℕ → Type 0
  Same i j = (Y i j ≡ Z i j) × (Y i k ≡ Z i k) × (Y k j ≡ Z k j) × (Y k k ≡ Z k k)

  entry-same : (i j : ℕ) → Same i j → of_new_entry k Y i j ≡ of_new_entry k Z i j
  unfolding kron
  entry-same i j (a, b, c, d) = rw (a, b, c, d)

  row_same : (i : ℕ) (js : List ℕ) → ((j : ℕ) → j is_one_of js → Same i j) → of_row k Y i js ≡ of_row k Z i js
  unfolding of_row
  row_same i [] h = refl
  row_same i (j ∷ js) h =
      ap₂ (λ (a b : List Float). a ++ b) (entry-same i j (h j (in_head j js))) (row_same i js (λ (q : ℕ) (m : q is_one_of js). h q (in_tail q j js m)))

  pub rows_same : (is js : List ℕ) → ((i j : ℕ) → i is_one_of is → j is_one_of js → Same i j) → of_rows k Y is js ≡ of_rows k Z is js
  unfolding of_rows
  rows_same [] js h = refl
  rows_same (i ∷ is) js h =
      ap₂ (λ (a b : List Float). a ++ b) (row_same i js (λ (j : ℕ) (m : j is_one_of js). h i j (in_head i is) m))
      (rows_same is js (λ (p j : ℕ) (l : p is_one_of is) (m : j is_one_of js). h p j (in_tail p i is l) m))
