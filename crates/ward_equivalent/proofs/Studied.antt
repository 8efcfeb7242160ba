-- What a study with right lists leaves: refused, or the equivalent that the solutions in the work slice give.
use Rattle.prelude.proofs.Prelude.{◌≡◌, refl, sym, ap, ◌∙◌, subst, false, List, [], ◌∷◌, ◌++◌, ℕ, ◌+◌, ◌-◌, ◌*◌, ◌≤◌, ◌<◌, arith, eqb, length, get_or, take, drop, Float, map, ne_eqb, length-drop, take-append-drop, length-take-le, get_or-drop, drop-drop}
use Rattle.complex.specs.{plus0, csub, Matrix, entry_at, rows, grid, zeros}
use Rattle.complex.proofs.Matrices.{entry-grid, rows_ext, length-grid, grid-ext, length-rows, entry-rows}
use Rattle.refusals.specs.declared.Allowance.TheVariants.{Rows}
use Rattle.refusals.specs.Work.{reductions, meets, granted, work_refusal, then_work}
use Rattle.std.proofs.Common.{Result, Ok, Err}
use Rattle.refusals.specs.declared.Refusal.{Refusal}
use Rattle.refusals.specs.Refusals.{answered, number}
use Rattle.refusals.proofs.Answering.{answered-number}
use Rattle.solver.proofs.Told.{some_number}
use Rattle.ward_equivalent.specs.declared.answers.WardSummary.{WardSummary}
use Rattle.ward_equivalent.specs.Arithmetic.{injected_p, injected_q}
use Rattle.ward_equivalent.specs.Ward.{Study, Outputs, externals, retained, admittance, equivalent, row_times, solved_column, boundary_current, injection_p, injection_q, ratio}
use Rattle.ward_equivalent.specs.Studied.{summary, accepted_outputs, work_after, outputs_after, AfterWard, studied}
use Rattle.ward_equivalent.specs.Inner.Work.{product, less_product}
use Rattle.ward_equivalent.specs.Calls.{after_ward}
use Rattle.ward_equivalent.specs.Steps.{steps_of}
use Rattle.ward_equivalent.specs.Inner.Listed.{cut, outputs_from}

-- ---- by what the work meets

-- a refusal has a number other than 0
pub numbered : (r : Refusal) → eqb (number r) 0 ≡ false
numbered r = ne_eqb (number r) 0 (some_number (Err r) refl)

abbrev pub accepted : Study → List Float → AfterWard
accepted S ws = record { answer = Ok (summary S); outputs = accepted_outputs S (zeros (length ws)) }

module _ (S : Study) (m : ℕ) (o : Outputs) where
  pub studied-refused : (r : Refusal) → number r ≡ meets m (steps_of S) → studied S (Rows m) o 0 ≡ after_ward (Err r) o.y-ward o.p-ward o.q-ward (zeros (length o.work))
  unfolding studied then_work work_refusal granted outputs_after work_after
  studied-refused r h = simp (sym h, answered-number (summary S) r, numbered r)

  pub studied-done : meets m (steps_of S) ≡ 0 → studied S (Rows m) o 0 ≡ accepted S o.work
  unfolding studied then_work work_refusal granted answered outputs_after work_after
  studied-done h = rw h

pub same_after : {r r' : Result WardSummary Refusal} {yw yw' pw pw' qw qw' ws ws' : List Float} → r ≡ r' → yw ≡ yw' → pw ≡ pw' → qw ≡ qw' → ws ≡ ws' → after_ward r yw pw qw ws ≡ after_ward r' yw' pw' qw' ws'
same_after a b c d e = λ i. record { answer = a i; outputs = record { y-ward = b i; p-ward = c i; q-ward = d i; work = e i } }

-- ---- the lists of a cut list

pub retained-cut : (n : ℕ) (ys : List Float) (bs : List ℕ) (e f : ℕ) (base : Float) (ps qs : List Float) → e ≤ f → retained (cut n ys bs e f base ps qs) ≡ drop e bs
unfolding retained
retained-cut n ys bs e f base ps qs h =
    let q : e + (f - e) ≡ f = omega arith in
    ap (λ (l : List ℕ). take (f - e) (drop e bs) ++ l) (ap (λ (k : ℕ). drop k bs) (sym q) ∙ sym (drop-drop (f - e) e bs)) ∙ take-append-drop (f - e) (drop e bs)

map_same : (f g : ℕ → Float) (xs : List ℕ) → ((i : ℕ) → f i ≡ g i) → map f xs ≡ map g xs
map_same f g [] h = refl
map_same f g (x ∷ xs) h = ap (λ (y : Float). y ∷ map f xs) (h x) ∙ ap (λ (l : List Float). g x ∷ l) (map_same f g xs h)

-- ---- the equivalent that the work slice holds is Ward's

module _ (n : ℕ) (ys : List Float) (bs : List ℕ) (e f : ℕ) (base : Float) (ps qs : List Float) (some : 0 < e) (first-last : e ≤ f) (last : f ≤ length bs) where
  pub any : eqb (externals (cut n ys bs e f base ps qs)) 0 ≡ false
  any = ne_eqb (length (take e bs)) 0 (λ (z : length (take e bs) ≡ 0). let c : length (take e bs) ≡ e = length-take-le e bs (omega arith) in omega arith)

  pub kept : length (retained (cut n ys bs e f base ps qs)) ≡ length bs - e
  kept = ap length (retained-cut n ys bs e f base ps qs first-last) ∙ length-drop e bs

  summary-cut : summary (cut n ys bs e f base ps qs)
      ≡ record { n_buses_reduced = n; n_buses_equivalent = length bs - e; reduction_ratio = ratio (length bs - e) n; rows_reduced = reductions (steps_of (cut n ys bs e f base ps qs)) }
  unfolding summary
  summary-cut = rw (any, kept)

  -- X in xs, rows of v entries from column `first` on, and the currents' solution in column c of us, rows of w
  module _ (xs : List Float) (v first : ℕ) (us : List Float) (w c : ℕ)
      (columns : (i q : ℕ) → q < length bs - e → product n ys (take e bs) v xs i (first + q) ≡ row_times (cut n ys bs e f base ps qs) i (solved_column (cut n ys bs e f base ps qs) (get_or bs (e + q) 0)))
      (currents : (i : ℕ) → product n ys (take e bs) w us i c ≡ boundary_current (cut n ys bs e f base ps qs) i) where
    entry-ward : (p q : ℕ) → p < length bs - e → q < length bs - e
        → less_product n ys (take e bs) (drop e bs) v xs first (get_or (drop e bs) p 0) q ≡ equivalent (cut n ys bs e f base ps qs) (get_or (drop e bs) p 0) (get_or (drop e bs) q 0)
    unfolding less_product equivalent admittance
    entry-ward p q x y =
        let i = get_or (drop e bs) p 0 in
        rw any
        (ap (csub (entry_at n ys i (get_or (drop e bs) q 0)))
        (columns i q y
        ∙ ap (λ (j : ℕ). row_times (cut n ys bs e f base ps qs) i (solved_column (cut n ys bs e f base ps qs) j)) (sym (get_or-drop e bs q 0))))

    matrix-ward : grid (length bs - e) (length bs - e) (λ (p : ℕ). less_product n ys (take e bs) (drop e bs) v xs first (get_or (drop e bs) p 0))
        ≡ rows (equivalent (cut n ys bs e f base ps qs)) (retained (cut n ys bs e f base ps qs)) (retained (cut n ys bs e f base ps qs))
    matrix-ward =
        let r = length bs - e in
        let G : Matrix = λ (p : ℕ). less_product n ys (take e bs) (drop e bs) v xs first (get_or (drop e bs) p 0) in
        rows_ext (equivalent (cut n ys bs e f base ps qs)) (drop e bs) (drop e bs) (grid r r G)
        (length-grid r r G ∙ rw length-drop)
        (λ (p q : ℕ) (x : p < length (drop e bs)) (y : q < length (drop e bs)).
        let x' : p < r = rw length-drop at x in
        let y' : q < r = rw length-drop at y in
        ap (λ (m : ℕ). entry_at m (grid r r G) p q) (length-drop e bs) ∙ entry-grid r r G p q x' y' ∙ entry-ward p q x' y')
        ∙ ap (λ (l : List ℕ). rows (equivalent (cut n ys bs e f base ps qs)) l l) (sym (retained-cut n ys bs e f base ps qs first-last))

    active-ward : (i : ℕ) → injected_p base (product n ys (take e bs) w us i c) ≡ injection_p (cut n ys bs e f base ps qs) i
    unfolding injection_p
    active-ward i = rw any (ap (injected_p base) (currents i))

    reactive-ward : (i : ℕ) → injected_q base (product n ys (take e bs) w us i c) ≡ injection_q (cut n ys bs e f base ps qs) i
    unfolding injection_q
    reactive-ward i = rw any (ap (injected_q base) (currents i))

    pub filled-ward : (long : ℕ) (os : List Float) → long ≡ length os → (reduced : ℕ) → reduced ≡ reductions (steps_of (cut n ys bs e f base ps qs))
        → outputs_from n ys bs e f base reduced long xs v first us w c ≡ accepted (cut n ys bs e f base ps qs) os
    unfolding outputs_from accepted_outputs
    filled-ward long os l reduced q =
        same_after
        (ap (λ (m : ℕ). Ok (record { n_buses_reduced = n; n_buses_equivalent = length bs - e; reduction_ratio = ratio (length bs - e) n; rows_reduced = m })) q ∙ ap Ok (sym summary-cut))
        matrix-ward
        (map_same (λ (i : ℕ). injected_p base (product n ys (take e bs) w us i c)) (injection_p (cut n ys bs e f base ps qs)) (drop f bs) active-ward)
        (map_same (λ (i : ℕ). injected_q base (product n ys (take e bs) w us i c)) (injection_q (cut n ys bs e f base ps qs)) (drop f bs) reactive-ward)
        (ap zeros l)

-- ---- what the products leave, as the equivalent that the work slice holds

pub matrix-of : (n : ℕ) (ys : List Float) (bs : List ℕ) (e w : ℕ) (ws : List Float) (first : ℕ) (es ks : List ℕ) → es ≡ take e bs → ks ≡ drop e bs
    → (yw : List Float) → length yw ≡ 2 * ((length bs - e) * (length bs - e))
    → ((p q : ℕ) → p < length ks → q < length ks → entry_at (length ks) yw p q ≡ less_product n ys es ks w ws first (get_or ks p 0) q)
    → yw ≡ grid (length bs - e) (length bs - e) (λ (p : ℕ). less_product n ys (take e bs) (drop e bs) w ws first (get_or (drop e bs) p 0))
matrix-of n ys bs e w ws first es ks E K yw long h =
    let r = length bs - e in
    let one = subst (λ (l : List ℕ). (p q : ℕ) → p < length ks → q < length ks → entry_at (length ks) yw p q ≡ less_product n ys l ks w ws first (get_or ks p 0) q) E h in
    let two = subst (λ (l : List ℕ). (p q : ℕ) → p < length l → q < length l → entry_at (length l) yw p q ≡ less_product n ys (take e bs) l w ws first (get_or l p 0) q) K one in
    grid-ext r r (λ (p : ℕ). less_product n ys (take e bs) (drop e bs) w ws first (get_or (drop e bs) p 0)) yw long
    λ (p q : ℕ) (x : p < r) (y : q < r).
    ap (λ (m : ℕ). entry_at m yw p q) (sym (length-drop e bs)) ∙ two p q (rw length-drop x) (rw length-drop y)

-- ---- no external bus

rows_same : (Y Z : Matrix) (is js : List ℕ) → ((i j : ℕ) → Y i j ≡ Z i j) → rows Y is js ≡ rows Z is js
rows_same Y Z is js h = rows_ext Z is js (rows Y is js) (length-rows Y is js) λ (p q : ℕ) (x : p < length is) (y : q < length js). entry-rows Y is js p q x y ∙ h (get_or is p 0) (get_or js q 0)

map-zeros : (f : ℕ → Float) (xs : List ℕ) → ((i : ℕ) → f i ≡ plus0) → zeros (length xs) ≡ map f xs
unfolding zeros
map-zeros f [] h = refl
map-zeros f (x ∷ xs) h = ap (λ (l : List Float). plus0 ∷ l) (map-zeros f xs h) ∙ ap (λ (y : Float). y ∷ map f xs) (sym (h x))

none-zeros : (ws : List Float) → length ws ≡ 0 → ws ≡ zeros (length ws)
unfolding zeros
none-zeros [] h = refl
none-zeros (x ∷ ws) h = absurd (omega arith)

module _ (n : ℕ) (ys : List Float) (bs : List ℕ) (f : ℕ) (base : Float) (ps qs : List Float) where
  none-met : (m : ℕ) → meets m (steps_of (cut n ys bs 0 f base ps qs)) ≡ 0
  unfolding steps_of meets
  none-met m = refl

  summary-none : record { n_buses_reduced = n; n_buses_equivalent = length bs; reduction_ratio = plus0; rows_reduced = 0 } ≡ summary (cut n ys bs 0 f base ps qs)
  unfolding summary steps_of reductions
  summary-none = ap (λ (r : ℕ). record { n_buses_reduced = n; n_buses_equivalent = r; reduction_ratio = plus0; rows_reduced = 0 }) (ap length (sym (retained-cut n ys bs 0 f base ps qs (omega arith))))

  matrix-none : rows (entry_at n ys) bs bs ≡ rows (equivalent (cut n ys bs 0 f base ps qs)) (retained (cut n ys bs 0 f base ps qs)) (retained (cut n ys bs 0 f base ps qs))
  unfolding equivalent admittance
  matrix-none =
      rows_same (entry_at n ys) (equivalent (cut n ys bs 0 f base ps qs)) bs bs (λ (i j : ℕ). refl)
      ∙ ap (λ (l : List ℕ). rows (equivalent (cut n ys bs 0 f base ps qs)) l l) (sym (retained-cut n ys bs 0 f base ps qs (omega arith)))

  active-none : zeros (length (drop f bs)) ≡ map (injection_p (cut n ys bs 0 f base ps qs)) (drop f bs)
  unfolding injection_p
  active-none = map-zeros (injection_p (cut n ys bs 0 f base ps qs)) (drop f bs) (λ (i : ℕ). refl)

  reactive-none : zeros (length (drop f bs)) ≡ map (injection_q (cut n ys bs 0 f base ps qs)) (drop f bs)
  unfolding injection_q
  reactive-none = map-zeros (injection_q (cut n ys bs 0 f base ps qs)) (drop f bs) (λ (i : ℕ). refl)

  pub studied-none : (m : ℕ) (o : Outputs) (yw pw qw : List Float) → yw ≡ rows (entry_at n ys) bs bs → pw ≡ zeros (length o.p-ward) → qw ≡ zeros (length o.q-ward)
      → length o.p-ward ≡ length bs - f → length o.q-ward ≡ length bs - f → length o.work ≡ 0
      → after_ward (Ok (record { n_buses_reduced = n; n_buses_equivalent = length bs; reduction_ratio = plus0; rows_reduced = 0 })) yw pw qw o.work ≡ studied (cut n ys bs 0 f base ps qs) (Rows m) o 0
  unfolding accepted_outputs
  studied-none m o yw pw qw y p q lp lq lw =
      same_after (ap Ok summary-none) (y ∙ matrix-none)
      (p ∙ ap zeros (lp ∙ sym (length-drop f bs)) ∙ active-none) (q ∙ ap zeros (lq ∙ sym (length-drop f bs)) ∙ reactive-none) (none-zeros o.work lw)
      ∙ sym (studied-done (cut n ys bs 0 f base ps qs) m o (none-met m))
