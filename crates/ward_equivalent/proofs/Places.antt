-- Places in the given matrix and in the work slice: within bounds.
use Rattle.prelude.proofs.Prelude.{◌≡◌, refl, sym, ap, ◌∙◌, subst, cond, ◌⊎◌, inl, inr, List, ◌++◌, ℕ, ◌+◌, ◌*◌, ◌≤◌, ◌<◌, add-one, arith, ltb, length, get_or, Float, nan, map, length-map, ext_get_or, eq-or-lt_of_le, lt-ltb, le-ltb}
use Rattle.complex.specs.{Complex, cadd, csub, cmul, entry, put, Matrix, entry_at, row, zeros}
use Rattle.complex.proofs.Entries.{parts_same, length-put, entry-put-same, entry-put-other, entry-append-left}
use Rattle.complex.proofs.Matrices.{entry-within, length-row, entry_row, get_or-zeros}
use Rattle.solver.proofs.Passed.{Put, put-more, Stored}
use Rattle.ward_equivalent.specs.Arithmetic.{sum_up}
use Rattle.ward_equivalent.specs.Inner.Work.{Listing, work_row, product_to, product, less_product}
use Rattle.lists.proofs.Buses.{get_or-in, below_all}
use Rattle.lists.proofs.Lookups.{get_or_map}

-- a listed bus is one of the matrix
pub listed_below : (n : ℕ) (ys : List Float) (bs : List ℕ) → Listing n ys bs → (k : ℕ) → k < length bs → get_or bs k 0 < n
listed_below n ys bs h k l = below_all n bs h.below (get_or bs k 0) (get_or-in bs k l)

-- the entry between two buses of the matrix lies within its slice
pub entry-index : (n : ℕ) (ys : List Float) → length ys ≡ 2 * (n * n) → (i j : ℕ) → i < n → j < n → 2 * (i * n + j) + 1 < length ys
entry-index n ys full i j x y = let h : i * n + j < n * n = entry-within n n i j x y in omega arith

-- the entry in row i and column j of n rows of w lies within their slice
pub row-index : (n w : ℕ) (ws : List Float) → length ws ≡ 2 * (n * w) → (i j : ℕ) → i < n → j < w → 2 * (i * w + j) + 1 < length ws
row-index n w ws full i j x y = let h : i * w + j < n * w = entry-within n w i j x y in omega arith

-- a turn of a loop that stores one entry
pub put-turn : (ys ys' : List Float) (new old : ℕ → Complex) (w i : ℕ) (v : Complex) → i < w → length ys ≡ 2 * w → Put ys new old i → ys' ≡ put ys i v → v ≡ new i
    → (i + 1 ≤ w) × (length ys' ≡ 2 * w) × Put ys' new old (i + 1)
put-turn ys ys' new old w i v h l p e q = (
  omega arith,
  ap length e ∙ length-put ys i v ∙ l,
  subst (λ (zs : List Float). Put zs new old (i + 1)) (sym e) (put-more ys new old i v (omega arith) q p),
)

-- one more term of a product
pub product-more : (n : ℕ) (ys : List Float) (es : List ℕ) (w : ℕ) (ws : List Float) (bus c k : ℕ)
    → product_to n ys es w ws bus c (k + 1) ≡ cadd (product_to n ys es w ws bus c k) (cmul (entry_at n ys bus (get_or es k 0)) (entry_at w ws k c))
unfolding product_to sum_up
product-more n ys es w ws bus c k = rw add-one refl

-- an entry of the equivalent from its parts
pub less_product-is : (n : ℕ) (ys : List Float) (es ks : List ℕ) (w : ℕ) (ws : List Float) (first i q : ℕ) (own sum : Complex)
    → own ≡ entry_at n ys i (get_or ks q 0) → sum ≡ product n ys es w ws i (first + q) → csub own sum ≡ less_product n ys es ks w ws first i q
unfolding less_product
less_product-is n ys es ks w ws first i q own sum a b = ap (λ (z : Complex). csub z sum) a ∙ ap (csub (entry_at n ys i (get_or ks q 0))) b

-- a row filled: the listed columns, and c behind them
pub filled_row : (Y : Matrix) (bus : ℕ) (bs : List ℕ) (vs rest zs : List Float) (c : Complex) → vs ≡ row Y bus bs → 2 * length bs + 1 < length (vs ++ rest) → zs ≡ put (vs ++ rest) (length bs) c
    → ((j : ℕ) → j < length bs → entry zs j ≡ Y bus (get_or bs j 0)) × (entry zs (length bs) ≡ c)
filled_row Y bus bs vs rest zs c v h e =
    let long : length vs ≡ 2 * length bs = ap length v ∙ length-row Y bus bs in (
      λ (j : ℕ) (l : j < length bs).
          ap (λ (us : List Float). entry us j) e
          ∙ entry-put-other (vs ++ rest) (length bs) c j (λ (q : j ≡ length bs). omega arith)
          ∙ entry-append-left vs rest j (omega arith)
          ∙ ap (λ (us : List Float). entry us j) v
          ∙ entry_row Y bus bs j l,
      ap (λ (us : List Float). entry us (length bs)) e ∙ entry-put-same (vs ++ rest) (length bs) c h,
    )

pub augmented-row : (n : ℕ) (ys : List Float) (bs : List ℕ) (k : ℕ) (c : Complex) (zs : List Float)
    → ((j : ℕ) → j < length bs → entry zs j ≡ entry_at n ys (get_or bs k 0) (get_or bs j 0)) → entry zs (length bs) ≡ c
    → (j : ℕ) → j < length bs + 1 → entry zs j ≡ work_row n ys bs k c j
unfolding work_row
augmented-row n ys bs k c zs f g j h = pick (eq-or-lt_of_le {n = j} {m = length bs} (omega arith))
  where
    pick : (j ≡ length bs) ⊎ (j < length bs) → entry zs j ≡ cond (ltb j (length bs)) (entry_at n ys (get_or bs k 0) (get_or bs j 0)) c
    pick (inl e) = rw (le-ltb j (length bs) (omega arith)) (ap (entry zs) e ∙ g)
    pick (inr l) = rw (lt-ltb j (length bs) l) (f j l)

-- ---- one number for each of a list of buses

pub stored-map : (f : ℕ → Float) (bs : List ℕ) (xs : List Float) (old : ℕ → Float) (t : ℕ) → length xs ≡ length bs → length bs ≤ t
    → Stored xs (λ (k : ℕ). f (get_or bs k 0)) old t → xs ≡ map f bs
stored-map f bs xs old t l h p =
    ext_get_or nan xs (map f bs) (l ∙ sym (length-map bs f)) λ (k : ℕ) (m : k < length xs). p.behind k (omega arith) ∙ sym (get_or_map f 0 nan bs k (omega arith))

-- a row of +0s is a product with no term
pub cleared-row : (n : ℕ) (ys : List Float) (es : List ℕ) (w : ℕ) (ws : List Float) (bus c m r : ℕ) (zs : List Float) → zs ≡ zeros m → m ≡ 2 * r
    → (q : ℕ) → q < r → entry zs q ≡ product_to n ys es w ws bus c 0
unfolding product_to sum_up entry
cleared-row n ys es w ws bus c m r zs e l q h =
    ap (λ (us : List Float). entry us q) e ∙ parts_same (get_or-zeros m (2 * q) (omega arith)) (get_or-zeros m (2 * q + 1) (omega arith))
