-- Lists of numbers by a rule, rows of them, and a row of the PTDF as a part of its slice.
use Rattle.prelude.proofs.Prelude.{◌≡◌, refl, sym, ◌∙◌, Bool, true, false, true≢false, eqb, eqb-true, eq-eqb, inl, inr, List, [], ◌∷◌, ◌++◌, ℕ, zero, suc, ◌+◌, ◌-◌, ◌*◌, ◌≤◌, ◌<◌, add-one, arith, T, length, get_or, take, drop, Float, nan, suc-mul, zero-mul, set, length-set, ext_get_or, get_or-set_same, get_or-set_other, length-append, length-drop, List·getD-append, length-take-le, mul-le-mul}
use lib.Arith.{digits_lt}
use lib.Seq.{get_or_at}
use Rattle.lists.proofs.Order.{lt-or-ge}
use Rattle.refusals.specs.Refusals.{limit}
use Rattle.lists.specs.Buses.{all_below}
use Rattle.lists.proofs.Ends.{below_at}
use Rattle.lists.proofs.Fronts.{front-next, front-end}
use Rattle.dc_flow.specs.Dc.{real_row, real_grid}

module _ (F : ℕ → Float) where
  pub length-real_row : (m : ℕ) → length (real_row F m) ≡ m
  unfolding real_row
  length-real_row zero = refl
  length-real_row (suc m) = rw (length-append, length-real_row m) (add-one m)

  pub get_or-real_row : (m k : ℕ) → k < m → get_or (real_row F m) k nan ≡ F k
  unfolding real_row
  get_or-real_row zero k h = absurd (omega arith)
  get_or-real_row (suc m) k h =
      elim (lt-or-ge k m) [
        | inl l ↦ List·getD-append (real_row F m) (F m ∷ []) nan k (rw length-real_row l) ∙ get_or-real_row m k l
        | inr l ↦ let e : k ≡ m = omega arith in rw e (get_or_at (real_row F m) (F m) [] nan m (length-real_row m))
      ]

-- the next is written behind the first m, and all are
pub real_row-step : (F : ℕ → Float) (m : ℕ) (d s : List Float) (v : Float) → s ≡ real_row F m ++ drop m d → v ≡ F m → m < length d
    → set s m v ≡ real_row F (m + 1) ++ drop (m + 1) d
unfolding real_row
real_row-step F m d s v e q h = rw (e, front-next (real_row F m) d m v (length-real_row F m) h, q, add-one)

pub real_row-all : (F : ℕ → Float) (k m : ℕ) (s d : List Float) → s ≡ real_row F k ++ drop k d → m ≤ k → k ≤ m → length d ≡ m → s ≡ real_row F m
real_row-all F k m s d e h g l =
    let same : k ≡ m = omega arith in
    e ∙ front-end (real_row F k) d k (omega arith) ∙ rw same

pub real_row-same : (F G : ℕ → Float) (m : ℕ) → ((k : ℕ) → k < m → F k ≡ G k) → real_row F m ≡ real_row G m
unfolding real_row
real_row-same F G zero h = refl
real_row-same F G (suc m) h = rw (real_row-same F G m (λ k l. h k (omega arith)), h m (omega arith))

-- one number is written over: all others are the same
pub real_row-set : (F G : ℕ → Float) (m l : ℕ) (v : Float) → l < m → v ≡ G l → ((k : ℕ) → eqb l k ≡ false → F k ≡ G k)
    → set (real_row F m) l v ≡ real_row G m
real_row-set F G m l v h q others =
    ext_get_or nan _ _ (length-set (real_row F m) l v ∙ length-real_row F m ∙ sym (length-real_row G m))
    (λ k i. at k (rw (length-set (real_row F m) l v, length-real_row F m) at i) (eqb l k) refl)
  where
    at : (k : ℕ) → k < m → (same : Bool) → eqb l k ≡ same → get_or (set (real_row F m) l v) k nan ≡ get_or (real_row G m) k nan
    at k i true e =
        let own : l ≡ k = eqb-true l k e in
        rw (← own, get_or-set_same (real_row F m) l v nan (rw length-real_row h), q) (sym (get_or-real_row G m l h))
    at k i false e =
        get_or-set_other (real_row F m) l k v nan (λ p. true≢false (sym (eq-eqb l k (sym p)) ∙ e)) ∙ get_or-real_row F m k i ∙ others k e ∙ sym (get_or-real_row G m k i)

module _ (F : ℕ → ℕ → Float) (m : ℕ) where
  pub length-real_grid : (l : ℕ) → length (real_grid F m l) ≡ l * m
  unfolding real_grid
  length-real_grid zero = sym (zero-mul m)
  length-real_grid (suc l) = rw (length-append, length-real_grid l, length-real_row (F l) m, suc-mul l m)

  pub real_grid-next : (l : ℕ) → real_grid F m (l + 1) ≡ real_grid F m l ++ real_row (F l) m
  unfolding real_grid
  real_grid-next l = rw add-one

pub real_grid-all : (F : ℕ → ℕ → Float) (m l d : ℕ) (s out : List Float) → s ≡ real_grid F m l ++ drop d out → m ≤ l → l ≤ m → d ≡ l * m
    → length out ≡ m * m → s ≡ real_grid F m m
real_grid-all F m l d s out e h g q z =
    let same : l ≡ m = omega arith in
    e ∙ front-end (real_grid F m l) out d (rw (q, same) (omega arith)) ∙ rw same

-- of one row of one number
pub lone-grid : (F : ℕ → ℕ → Float) (m : ℕ) (out : List Float) (v : Float) → m ≡ 1 → length out ≡ m * m → v ≡ F 0 0 → set out 0 v ≡ real_grid F m m
unfolding real_grid real_row
lone-grid F m [] v e l q = absurd (let z : 0 ≡ 1 = l ∙ rw e refl in omega arith)
lone-grid F m (x ∷ []) v e l q = rw (e, q) refl
lone-grid F m (x ∷ y ∷ out) v e l q = absurd (let z : suc (suc (length out)) ≡ 1 = l ∙ rw e refl in omega arith)

pub length_part {ℓ} : {A : Type ℓ} (a w : ℕ) (s : List A) → a + w ≤ length s → length (take (a + w - a) (drop a s)) ≡ w
length_part a w s h = length-take-le (a + w - a) (drop a s) (rw length-drop (omega arith)) ∙ omega arith

-- both ends of branch k
pub to_below : (n k : ℕ) (froms tos : List ℕ) → T (all_below n tos) → length tos ≡ length froms → k < length froms → get_or tos k 0 < n
to_below n k froms tos below e h = below_at n tos k below (omega arith)

-- the place of bus i in row l of m rows of n, which are within the limit
pub reach : (m n l i : ℕ) → l < m → i < n → m ≤ limit → n ≤ limit → (l * n ≤ m * n) × (l * n + i < m * n) × (m * n ≤ limit * limit)
reach m n l i h k a b =
    let within = digits_lt h k in
    let all = mul-le-mul a b in
    (omega arith, omega arith, all)
