-- The one elimination serves Ward's formula: column by column its right sides are the solves that the definitions name, and 13 comes by the system alone.
use Rattle.prelude.proofs.Prelude.{◌≡◌, refl, sym, ap, ◌∙◌, Bool, cond, ◌⊎◌, inl, inr, List, [], ◌∷◌, ℕ, zero, suc, ◌+◌, ◌-◌, ◌≤◌, ◌<◌, arith, T, ltb, length, get_or, take, drop, Float, nan, lt-ltb, le-ltb, length-take-le, get_or-take, and_i, and_l, and_r}
use Rattle.complex.specs.{Complex, cadd, cmul, Matrix, entry_at, grid}
use Rattle.complex.proofs.Matrices.{entry-grid}
use Rattle.solver.specs.GaussJordan.{gauss_jordan, pairs, augmented, solution, singular_system}
use Rattle.solver.specs.Solving.{operations, is_singular}
use Rattle.solver.proofs.Pairs.{pairs-same}
use Rattle.solver.proofs.GaussJordan.{run-same, singular-system, augmented-system, augmented-right, column-alone}
use Rattle.lists.specs.Buses.{all_below}
use Rattle.lists.proofs.Order.{lt-or-ge}
use Rattle.ward_equivalent.specs.Arithmetic.{sum_up, current}
use Rattle.ward_equivalent.specs.Ward.{externals, admittance, y_ee, solved_column, row_times, solved_currents, boundary_current}
use Rattle.ward_equivalent.specs.Inner.Work.{Listing, work_row, work_matrix, product_to, product}
use Rattle.ward_equivalent.specs.Inner.Listed.{cut}
use Rattle.ward_equivalent.proofs.Steps.{rows_of_solve}

-- ---- parts of a listing

below-take : (n k : ℕ) (bs : List ℕ) → T (all_below n bs) → T (all_below n (take k bs))
below-take n zero bs h = tt
below-take n (suc k) [] h = tt
below-take n (suc k) (x ∷ bs) h =
    and_i (ltb x n) (all_below n (take k bs)) (and_l (ltb x n) (all_below n bs) h) (below-take n k bs (and_r (ltb x n) (all_below n bs) h))

below-drop : (n k : ℕ) (bs : List ℕ) → T (all_below n bs) → T (all_below n (drop k bs))
below-drop n zero bs h = h
below-drop n (suc k) [] h = tt
below-drop n (suc k) (x ∷ bs) h = below-drop n k bs (and_r (ltb x n) (all_below n bs) h)

pub listing-take : (n : ℕ) (ys : List Float) (bs : List ℕ) (k : ℕ) → Listing n ys bs → Listing n ys (take k bs)
listing-take n ys bs k h = record { full = h.full; below = below-take n k bs h.below }

pub listing-drop : (n : ℕ) (ys : List Float) (bs : List ℕ) (k : ℕ) → Listing n ys bs → Listing n ys (drop k bs)
listing-drop n ys bs k h = record { full = h.full; below = below-drop n k bs h.below }

-- ---- the right sides of the elimination: the columns of the retained buses, and the currents

unfoldable pub rights : ℕ → List Float → List ℕ → ℕ → Float → List Float → List Float → Matrix
unfolding current
rights n ys bs e base ps qs l c =
    cond (ltb c (length bs - e)) (entry_at n ys (get_or (take e bs) l 0) (get_or bs (e + c) 0)) (current base (get_or ps l nan) (get_or qs l nan))

pub sum_same : (n : ℕ) (f g : ℕ → Complex) → ((k : ℕ) → k < n → f k ≡ g k) → sum_up n f ≡ sum_up n g
unfolding sum_up
sum_same zero f g h = refl
sum_same (suc n) f g h =
    ap (λ (s : Complex). cadd s (f n)) (sum_same n f g (λ (k : ℕ) (l : k < n). h k (omega arith))) ∙ ap (cadd (sum_up n g)) (h n (omega arith))

module _ (n : ℕ) (ys : List Float) (bs : List ℕ) (e f : ℕ) (base : Float) (ps qs : List Float) (within : e ≤ length bs) where
  count : externals (cut n ys bs e f base ps qs) ≡ e
  count = length-take-le e bs within

  -- the work slice, by the definitions' system and right sides
  pub augmented-beside : (k j : ℕ) → k < e → j < length bs + 1
      → work_matrix n ys bs base ps qs k j ≡ augmented operations e (y_ee (cut n ys bs e f base ps qs)) (rights n ys bs e base ps qs) k j
  unfolding work_matrix work_row y_ee admittance rights
  augmented-beside k j h l = pick (lt-or-ge j e)
    where
      bus : get_or bs k 0 ≡ get_or (take e bs) k 0
      bus = sym (get_or-take e bs k 0 h)

      in-system : j < e → cond (ltb j (length bs)) (entry_at n ys (get_or bs k 0) (get_or bs j 0)) (current base (get_or ps k nan) (get_or qs k nan))
          ≡ entry_at n ys (get_or (take e bs) k 0) (get_or (take e bs) j 0)
      in-system m = rw (lt-ltb j (length bs) (omega arith)) (ap (λ (i : ℕ). entry_at n ys i (get_or bs j 0)) bus ∙ ap (entry_at n ys (get_or (take e bs) k 0)) (sym (get_or-take e bs j 0 m)))

      behind : (c : ℕ) → j ≡ e + c → (c < length bs - e) ⊎ (length bs - e ≤ c)
          → cond (ltb j (length bs)) (entry_at n ys (get_or bs k 0) (get_or bs j 0)) (current base (get_or ps k nan) (get_or qs k nan))
          ≡ cond (ltb c (length bs - e)) (entry_at n ys (get_or (take e bs) k 0) (get_or bs (e + c) 0)) (current base (get_or ps k nan) (get_or qs k nan))
      behind c q (inl m) =
          rw (lt-ltb j (length bs) (omega arith), lt-ltb c (length bs - e) m) (ap (λ (i : ℕ). entry_at n ys i (get_or bs j 0)) bus ∙ ap (λ (i : ℕ). entry_at n ys (get_or (take e bs) k 0) (get_or bs i 0)) q)
      behind c q (inr m) = rw (le-ltb j (length bs) (omega arith), le-ltb c (length bs - e) m)

      pick : (j < e) ⊎ (e ≤ j) → work_matrix n ys bs base ps qs k j ≡ augmented operations e (y_ee (cut n ys bs e f base ps qs)) (rights n ys bs e base ps qs) k j
      pick (inl m) = in-system m ∙ sym (augmented-system operations e (y_ee (cut n ys bs e f base ps qs)) (rights n ys bs e base ps qs) k j m)
      pick (inr m) =
          let q : j ≡ e + (j - e) = omega arith in
          behind (j - e) q (lt-or-ge (j - e) (length bs - e))
          ∙ sym (augmented-right operations e (y_ee (cut n ys bs e f base ps qs)) (rights n ys bs e base ps qs) k (j - e))
          ∙ ap (augmented operations e (y_ee (cut n ys bs e f base ps qs)) (rights n ys bs e base ps qs) k) (sym q)

  module _ (ws : List Float) (filled : (k j : ℕ) → k < e → j < length bs + 1 → entry_at (length bs + 1) ws k j ≡ work_matrix n ys bs base ps qs k j) where
    -- 13 by the system alone
    pub pivots-of : (gauss_jordan operations e (entry_at (length bs + 1) ws)).singular ≡ is_singular (externals (cut n ys bs e f base ps qs)) (y_ee (cut n ys bs e f base ps qs))
    pivots-of =
        singular-system operations e (entry_at (length bs + 1) ws) (y_ee (cut n ys bs e f base ps qs))
        (λ (i j : ℕ) (h : i < e) (k : j < e).
        filled i j h (omega arith) ∙ augmented-beside i j h (omega arith)
        ∙ augmented-system operations e (y_ee (cut n ys bs e f base ps qs)) (rights n ys bs e base ps qs) i j k)
        ∙ ap (λ (m : ℕ). singular_system operations m (y_ee (cut n ys bs e f base ps qs))) (sym count)

    -- and so the count
    pub pairs_of : pairs operations e (entry_at (length bs + 1) ws) ≡ rows_of_solve (cut n ys bs e f base ps qs)
    pairs_of =
        pairs-same operations e e (omega arith) (entry_at (length bs + 1) ws) (y_ee (cut n ys bs e f base ps qs))
        (λ (i j : ℕ) (h : i < e) (k : j < e).
        filled i j h (omega arith) ∙ augmented-beside i j h (omega arith)
        ∙ augmented-system operations e (y_ee (cut n ys bs e f base ps qs)) (rights n ys bs e base ps qs) i j k)
        ∙ ap (λ (m : ℕ). pairs operations m (y_ee (cut n ys bs e f base ps qs))) (sym count)

    -- column c behind the system's is the solve of right side c alone
    pub column-of : (left : List Float) → left ≡ grid e (length bs + 1) (gauss_jordan operations e (entry_at (length bs + 1) ws)).left → (k c : ℕ) → k < e → c < length bs - e + 1
        → entry_at (length bs + 1) left k (externals (cut n ys bs e f base ps qs) + c)
        ≡ solution operations (externals (cut n ys bs e f base ps qs)) (y_ee (cut n ys bs e f base ps qs)) (λ (l : ℕ). rights n ys bs e base ps qs l c) k
    column-of left q k c h m =
        let A = y_ee (cut n ys bs e f base ps qs) in
        let B = rights n ys bs e base ps qs in
        let w = length bs + 1 in
        ap (λ (x : ℕ). entry_at w left k (x + c)) count
        ∙ ap (λ (us : List Float). entry_at w us k (e + c)) q
        ∙ entry-grid e w (gauss_jordan operations e (entry_at w ws)).left k (e + c) h (omega arith)
        ∙ (run-same operations e w (omega arith) (entry_at w ws) (augmented operations e A B)
        (λ (i j : ℕ) (x : i < e) (y : j < w). filled i j x y ∙ augmented-beside i j x y)).left k (e + c) h (omega arith)
        ∙ column-alone operations e A B k c h
        ∙ ap (λ (x : ℕ). solution operations x A (λ (l : ℕ). B l c) k) (sym count)

    module _ (left : List Float) (reached : left ≡ grid e (length bs + 1) (gauss_jordan operations e (entry_at (length bs + 1) ws)).left) where
      -- the products with the columns of the retained buses, and with that of the currents
      pub product-column : (i q : ℕ) → q < length bs - e
          → product n ys (take e bs) (length bs + 1) left i (length (take e bs) + q) ≡ row_times (cut n ys bs e f base ps qs) i (solved_column (cut n ys bs e f base ps qs) (get_or bs (e + q) 0))
      unfolding product_to row_times admittance solved_column rights
      product-column i q h =
          sum_same (length (take e bs)) (λ (k : ℕ). cmul (entry_at n ys i (get_or (take e bs) k 0)) (entry_at (length bs + 1) left k (length (take e bs) + q)))
          (λ (k : ℕ). cmul (entry_at n ys i (get_or (take e bs) k 0)) (solved_column (cut n ys bs e f base ps qs) (get_or bs (e + q) 0) k))
          λ (k : ℕ) (l : k < length (take e bs)).
          ap (cmul (entry_at n ys i (get_or (take e bs) k 0)))
          (column-of left reached k q (rw count at l) (omega arith)
          ∙ ap (λ (b : Bool). solution operations (externals (cut n ys bs e f base ps qs)) (y_ee (cut n ys bs e f base ps qs)) (λ (r : ℕ). cond b (entry_at n ys (get_or (take e bs) r 0) (get_or bs (e + q) 0)) (current base (get_or ps r nan) (get_or qs r nan))) k) (lt-ltb q (length bs - e) h))

      pub product-currents : (i : ℕ) → product n ys (take e bs) (length bs + 1) left i (length bs) ≡ boundary_current (cut n ys bs e f base ps qs) i
      unfolding product_to boundary_current row_times admittance solved_currents rights
      product-currents i =
          sum_same (length (take e bs)) (λ (k : ℕ). cmul (entry_at n ys i (get_or (take e bs) k 0)) (entry_at (length bs + 1) left k (length bs)))
          (λ (k : ℕ). cmul (entry_at n ys i (get_or (take e bs) k 0)) (solved_currents (cut n ys bs e f base ps qs) k))
          λ (k : ℕ) (l : k < length (take e bs)).
          let last : length bs ≡ length (take e bs) + (length bs - e) = rw count (omega arith) in
          ap (cmul (entry_at n ys i (get_or (take e bs) k 0)))
          (ap (entry_at (length bs + 1) left k) last
          ∙ column-of left reached k (length bs - e) (rw count at l) (omega arith)
          ∙ ap (λ (b : Bool). solution operations (externals (cut n ys bs e f base ps qs)) (y_ee (cut n ys bs e f base ps qs)) (λ (r : ℕ). cond b (entry_at n ys (get_or (take e bs) r 0) (get_or bs (e + (length bs - e)) 0)) (current base (get_or ps r nan) (get_or qs r nan))) k) (le-ltb (length bs - e) (length bs - e) (omega arith)))
