-- Matrices in slices: the entry of a laid-out matrix, a row as a part, and when a slice is a layout.
use Rattle.prelude.proofs.Prelude.{◌≡◌, refl, sym, ap, ◌∙◌, List, [], ◌∷◌, ◌++◌, ℕ, zero, suc, ◌+◌, ◌*◌, ◌≤◌, ◌<◌, arith, length, get_or, take, drop, Float, nan, ◌/◌, ◌%◌, zero-mul, add_assoc, suc-mul, zero-add, mul-le-mul_right, length-append, length-replicate}
use native.Mathlib.Nat.{mul-zero, add_comm, div-add-mod', mod-lt, div-lt_iff_lt-mul}
use lib.ListN.{get_or-replicate}
use lib.Arith.{digits_lt}
use Rattle.complex.specs.Constants.{plus0}
use Rattle.complex.specs.Entries.{entry}
use Rattle.complex.specs.Matrices.{Matrix, entry_at, row, rows, grid, zeros}
use Rattle.lists.specs.Buses.{up_to}
use Rattle.lists.proofs.Order.{length-up_to, get_or-up_to}
use Rattle.complex.proofs.Entries.{entry-take, entry-drop, entry-append-left, entry-append-right, entry_next, ext_entry}

-- ---- +0s

pub length-zeros : (n : ℕ) → length (zeros n) ≡ n
unfolding zeros
length-zeros n = length-replicate n plus0

pub get_or-zeros : (n k : ℕ) → k < n → get_or (zeros n) k nan ≡ plus0
unfolding zeros
get_or-zeros n k h = get_or-replicate n k plus0 nan h

-- ---- a laid-out row

pub length-row : (Y : Matrix) (i : ℕ) (js : List ℕ) → length (row Y i js) ≡ 2 * length js
unfolding row
length-row Y i [] = refl
length-row Y i (j ∷ js) = let e = length-row Y i js in omega arith

pub entry_row : (Y : Matrix) (i : ℕ) (js : List ℕ) (q : ℕ) → q < length js → entry (row Y i js) q ≡ Y i (get_or js q 0)
unfolding row entry
entry_row Y i [] q h = absurd (omega arith)
entry_row Y i (j ∷ js) zero h = refl
entry_row Y i (j ∷ js) (suc q) h = entry_next (Y i j).re (Y i j).im (row Y i js) q ∙ entry_row Y i js q (omega arith)

-- ---- laid-out rows

pub length-rows : (Y : Matrix) (is js : List ℕ) → length (rows Y is js) ≡ 2 * (length is * length js)
unfolding rows
length-rows Y [] js = rw zero-mul
length-rows Y (i ∷ is) js =
    length-append (row Y i js) (rows Y is js)
    ∙ ap (λ (n : ℕ). n + length (rows Y is js)) (length-row Y i js)
    ∙ ap (λ (n : ℕ). 2 * length js + n) (length-rows Y is js)
    ∙ rw (suc-mul (length is) (length js)) (omega arith)

pub entry-rows : (Y : Matrix) (is js : List ℕ) (p q : ℕ) → p < length is → q < length js
    → entry_at (length js) (rows Y is js) p q ≡ Y (get_or is p 0) (get_or js q 0)
unfolding rows entry_at
entry-rows Y [] js p q h k = absurd (omega arith)
entry-rows Y (i ∷ is) js zero q h k =
    ap (λ (n : ℕ). entry (row Y i js ++ rows Y is js) n) (ap (λ (n : ℕ). n + q) (zero-mul (length js)) ∙ zero-add q)
    ∙ entry-append-left (row Y i js) (rows Y is js) q (rw length-row (omega arith))
    ∙ entry_row Y i js q k
entry-rows Y (i ∷ is) js (suc p) q h k =
    ap (λ (n : ℕ). entry (row Y i js ++ rows Y is js) n) (ap (λ (n : ℕ). n + q) (suc-mul p (length js) ∙ add_comm (p * length js) (length js)) ∙ add_assoc (length js) (p * length js) q)
    ∙ entry-append-right (length js) (row Y i js) (rows Y is js) (length-row Y i js) (p * length js + q)
    ∙ entry-rows Y is js p q (omega arith) k

-- ---- a slice whose entries are a matrix's is its layout

-- index i of a grid of rows of w
split : (n w i : ℕ) → i < n * w → (p : ℕ) × (q : ℕ) × (p < n) × (q < w) × (p * w + q ≡ i)
split n zero i h = absurd (let z : n * 0 ≡ 0 = mul-zero n in omega arith)
split n (suc w) i h =
    let pos : 0 < suc w = omega arith in
    (i / suc w, i % suc w, (div-lt_iff_lt-mul {k = suc w} {x = i} {y = n} pos).1 h, mod-lt i pos, div-add-mod' i (suc w))

pub ext-at : (n w : ℕ) (xs ys : List Float) → length xs ≡ 2 * (n * w) → length ys ≡ 2 * (n * w)
    → ((p q : ℕ) → p < n → q < w → entry_at w xs p q ≡ entry_at w ys p q) → xs ≡ ys
unfolding entry_at
ext-at n w xs ys a b h =
    ext_entry (n * w) xs ys a b λ (i : ℕ) (l : i < n * w).
    let (p, q, hp, hq, e) = split n w i l in
    ap (entry xs) (sym e) ∙ h p q hp hq ∙ ap (entry ys) e

pub rows_ext : (Y : Matrix) (is js : List ℕ) (ys : List Float) → length ys ≡ 2 * (length is * length js)
    → ((p q : ℕ) → p < length is → q < length js → entry_at (length js) ys p q ≡ Y (get_or is p 0) (get_or js q 0)) → ys ≡ rows Y is js
rows_ext Y is js ys e h =
    ext-at (length is) (length js) ys (rows Y is js) e (length-rows Y is js) λ (p q : ℕ) (x : p < length is) (y : q < length js). h p q x y ∙ sym (entry-rows Y is js p q x y)

pub row-ext : (Y : Matrix) (i : ℕ) (js : List ℕ) (ys : List Float) → length ys ≡ 2 * length js
    → ((q : ℕ) → q < length js → entry ys q ≡ Y i (get_or js q 0)) → ys ≡ row Y i js
row-ext Y i js ys e h =
    ext_entry (length js) ys (row Y i js) e (length-row Y i js) λ (q : ℕ) (x : q < length js). h q x ∙ sym (entry_row Y i js q x)

-- ---- grids

pub length-grid : (n m : ℕ) (Y : Matrix) → length (grid n m Y) ≡ 2 * (n * m)
unfolding grid
length-grid n m Y = length-rows Y (up_to n) (up_to m) ∙ ap (λ (k : ℕ). 2 * (k * length (up_to m))) (length-up_to n) ∙ ap (λ (k : ℕ). 2 * (n * k)) (length-up_to m)

pub entry-grid : (n m : ℕ) (Y : Matrix) (i j : ℕ) → i < n → j < m → entry_at m (grid n m Y) i j ≡ Y i j
unfolding grid
entry-grid n m Y i j h k =
    ap (λ (w : ℕ). entry_at w (rows Y (up_to n) (up_to m)) i j) (sym (length-up_to m))
    ∙ entry-rows Y (up_to n) (up_to m) i j (rw length-up_to h) (rw length-up_to k)
    ∙ ap (λ (r : ℕ). Y r (get_or (up_to m) j 0)) (get_or-up_to n i 0 h)
    ∙ ap (Y i) (get_or-up_to m j 0 k)

pub grid-ext : (n m : ℕ) (Y : Matrix) (ys : List Float) → length ys ≡ 2 * (n * m)
    → ((i j : ℕ) → i < n → j < m → entry_at m ys i j ≡ Y i j) → ys ≡ grid n m Y
grid-ext n m Y ys e h =
    ext-at n m ys (grid n m Y) e (length-grid n m Y) λ (i j : ℕ) (x : i < n) (y : j < m). h i j x y ∙ sym (entry-grid n m Y i j x y)

pub grid-same : (n m : ℕ) (Y Z : Matrix) → ((i j : ℕ) → i < n → j < m → Y i j ≡ Z i j) → grid n m Y ≡ grid n m Z
grid-same n m Y Z h =
    grid-ext n m Z (grid n m Y) (length-grid n m Y) λ (i j : ℕ) (x : i < n) (y : j < m). entry-grid n m Y i j x y ∙ h i j x y

-- ---- row p of a slice of rows of w

-- the last entry of row p lies within n rows
pub row_within : (n w p : ℕ) → p < n → p * w + w ≤ n * w
row_within n w p h = rw (← suc-mul p w) (mul-le-mul_right w h)

pub entry-within : (n w p q : ℕ) → p < n → q < w → p * w + q < n * w
entry-within n w p q h k = digits_lt h k

pub entry-part : (w : ℕ) (xs : List Float) (p q : ℕ) → q < w → entry (take (2 * w) (drop (2 * (p * w)) xs)) q ≡ entry_at w xs p q
unfolding entry_at
entry-part w xs p q h = entry-take w (drop (2 * (p * w)) xs) q h ∙ entry-drop (p * w) xs q
