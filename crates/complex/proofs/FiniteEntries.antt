-- A slice is finite exactly where its entries are.
use Rattle.prelude.proofs.Prelude.{◌≡◌, refl, subst, sym, ◌⊎◌, inl, inr, eq-or-lt_of_le, List, [], ◌∷◌, ◌++◌, ℕ, zero, suc, ◌+◌, ◌*◌, ◌<◌, arith, T, length, Float}
use Rattle.binary64.specs.Values.{all_finite}
use Rattle.lists.specs.Buses.{up_to}
use Rattle.complex.specs.Entries.{entry}
use Rattle.complex.specs.Matrices.{Matrix, entry_at, row, rows, grid}
use Rattle.complex.proofs.Matrices.{grid-ext, entry-within}
use Rattle.complex.proofs.Finite.{none, all_more, all_join, all-at}
use Rattle.complex.proofs.Sticky.{Finite}

-- ---- a property of each of a list

abbrev pub Each : (ℕ → Type 0) → List ℕ → Type 0
Each P [] = Unit {0}
Each P (j ∷ js) = P j × Each P js

pub each-join : (P : ℕ → Type 0) (is js : List ℕ) → Each P is → Each P js → Each P (is ++ js)
each-join P [] js h k = k
each-join P (i ∷ is) js (x, h) k = (x, each-join P is js h k)

pub each-up_to : (P : ℕ → Type 0) (n : ℕ) → ((j : ℕ) → j < n → P j) → Each P (up_to n)
unfolding up_to
each-up_to P zero h = tt
each-up_to P (suc n) h = each-join P (up_to n) (n ∷ []) (each-up_to P n (λ (j : ℕ) (l : j < n). h j (omega arith))) (h n (omega arith), tt)

each_left : (P : ℕ → Type 0) (is js : List ℕ) → Each P (is ++ js) → Each P is
each_left P [] js h = tt
each_left P (i ∷ is) js (x, h) = (x, each_left P is js h)

each_right : (P : ℕ → Type 0) (is js : List ℕ) → Each P (is ++ js) → Each P js
each_right P [] js h = h
each_right P (i ∷ is) js (x, h) = each_right P is js h

pub each_at : (P : ℕ → Type 0) (n : ℕ) → Each P (up_to n) → (j : ℕ) → j < n → P j
unfolding up_to
each_at P zero h j l = absurd (omega arith)
each_at P (suc n) h j l = pick (eq-or-lt_of_le {n = j} {m = n} (omega arith)) (each_at P n (each_left P (up_to n) (n ∷ []) h) j)
  where
    pick : (j ≡ n) ⊎ (j < n) → (j < n → P j) → P j
    pick (inl e) before = subst P (sym e) (each_right P (up_to n) (n ∷ []) h).0
    pick (inr k) before = before k

-- ---- laid-out numbers

pub row-finite : (Y : Matrix) (i : ℕ) (js : List ℕ) → Each (λ (j : ℕ). Finite (Y i j)) js → T (all_finite (row Y i js))
unfolding row
row-finite Y i [] h = none
row-finite Y i (j ∷ js) ((r, m), h) = all_more (Y i j).re ((Y i j).im ∷ row Y i js) r (all_more (Y i j).im (row Y i js) m (row-finite Y i js h))

pub rows-finite : (Y : Matrix) (is js : List ℕ) → Each (λ (i : ℕ). Each (λ (j : ℕ). Finite (Y i j)) js) is → T (all_finite (rows Y is js))
unfolding rows
rows-finite Y [] js h = none
rows-finite Y (i ∷ is) js (k, h) = all_join (row Y i js) (rows Y is js) (row-finite Y i js k) (rows-finite Y is js h)

-- n rows of w entries are finite
abbrev pub AllFinite : ℕ → ℕ → Matrix → Type 0
AllFinite n w A = (i j : ℕ) → i < n → j < w → Finite (A i j)

pub grid-finite : (n w : ℕ) (Y : Matrix) → AllFinite n w Y → T (all_finite (grid n w Y))
unfolding grid
grid-finite n w Y h = rows-finite Y (up_to n) (up_to w) (each-up_to _ n (λ (i : ℕ) (x : i < n). each-up_to _ w (λ (j : ℕ) (y : j < w). h i j x y)))

pub entries-slice : (n w : ℕ) (xs : List Float) → length xs ≡ 2 * (n * w) → AllFinite n w (entry_at w xs) → T (all_finite xs)
entries-slice n w xs long h =
    subst (λ (l : List Float). T (all_finite l)) (sym (grid-ext n w (entry_at w xs) xs long (λ i j x y. refl))) (grid-finite n w (entry_at w xs) h)

pub entry-finite : (xs : List Float) (i : ℕ) → 2 * i + 1 < length xs → T (all_finite xs) → Finite (entry xs i)
unfolding entry
entry-finite xs i l h = (all-at xs (2 * i) (omega arith) h, all-at xs (2 * i + 1) l h)

pub slice-entries : (n w : ℕ) (xs : List Float) → length xs ≡ 2 * (n * w) → T (all_finite xs) → AllFinite n w (entry_at w xs)
unfolding entry_at
slice-entries n w xs long h i j x y = let within = entry-within n w i j x y in entry-finite xs (i * w + j) (omega arith) h

pub same-finite : (n w : ℕ) (A B : Matrix) → ((i j : ℕ) → i < n → j < w → A i j ≡ B i j) → AllFinite n w A → AllFinite n w B
same-finite n w A B same h i j x y = subst Finite (same i j x y) (h i j x y)
