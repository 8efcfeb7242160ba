-- One elimination for all right sides, where it decides: every number of the study's work is finite, and it meets nothing but 18.
use Rattle.prelude.proofs.Prelude.{◌≡◌, refl, sym, ap, ◌∙◌, subst, Bool, true, false, cond, List, [], ◌∷◌, ◌++◌, ℕ, suc, ◌+◌, ◌-◌, ◌*◌, ◌≤◌, ◌<◌, arith, T, eqb, ltb, length, get_or, take, drop, Float, nan, lt-ltb, le-ltb, length-take-le, get_or-drop, mul-le-mul}
use mir.Syntax.{w64}
use mir.Val.{Fits}
use Rattle.binary64.specs.Values.{all_finite}
use Rattle.complex.specs.{csub, entry_at, zeros}
use Rattle.complex.proofs.Finite.{none, all_join}
use Rattle.complex.proofs.Matrices.{length-grid}
use Rattle.complex.proofs.Sticky.{Finite}
use Rattle.complex.proofs.Sizes.{Both}
use Rattle.complex.proofs.FiniteEntries.{slice-entries}
use Rattle.refusals.specs.Refusals.{limit}
use Rattle.refusals.specs.Work.{Step, computing, numbers_in, reductions, meets}
use Rattle.refusals.proofs.Work.{all-finite, finite-unlost, numbers-both, numbers-back, numbers-alone}
use Rattle.refusals.proofs.Refusing.{product-fits}
use Rattle.std.proofs.Common.{Result, Ok, Err}
use Rattle.refusals.specs.declared.Refusal.{Refusal}
use Rattle.refusals.specs.declared.Refusal.TheVariants.{BeyondAllowance}
use Rattle.solver.specs.GaussJordan.{augmented, pairs}
use Rattle.solver.specs.Solving.{operations, solve}
use Rattle.solver.specs.Steps.{workings, steps_of_run, steps_of_solve}
use Rattle.solver.proofs.StepsSame.{run-steps-same}
use Rattle.solver.proofs.Steps.{run-count, run-met}
use Rattle.solver.proofs.Pairs.{pairs-bound}
use Rattle.solver.proofs.ChosenSteps.{alone-numbers}
use Rattle.ward_equivalent.specs.declared.sequence.Decided.{Decided}
use Rattle.ward_equivalent.specs.declared.sequence.Decided.TheVariants.{Together}
use Rattle.ward_equivalent.specs.Arithmetic.{current}
use Rattle.ward_equivalent.specs.Ward.{Study, externals, external_at, retained, admittance, y_ee, row_times, solved_column, solved_currents, boundary_current}
use Rattle.ward_equivalent.specs.Steps.{of_each, steps_of_column, of_equivalent, of_currents, steps_of_currents, of_injections, of_ratio, steps_of, of_study}
use Rattle.ward_equivalent.specs.Inner.Work.{work_row, work_matrix}
use Rattle.ward_equivalent.specs.Inner.Work.{Listing}
use Rattle.ward_equivalent.specs.Inner.Listed.{cut}
use Rattle.ward_equivalent.specs.declared.listing.ListedStudy.{ListedStudy}
use Rattle.ward_equivalent.specs.Inner.Sequence.{AllTogether, TogetherDone, Decides}
use Rattle.ward_equivalent.proofs.Places.{listed_below}
use Rattle.ward_equivalent.proofs.Solved.{rights, augmented-beside, pivots-of, pairs_of, column-of, listing-take, listing-drop}
use Rattle.ward_equivalent.proofs.Studied.{any, kept, retained-cut}
use Rattle.ward_equivalent.proofs.Steps.{rows_of_solve, singular_study, study-count}
use Rattle.ward_equivalent.proofs.Meeting.{study-met}
use Rattle.ward_equivalent.proofs.Tells.{entries-tell, injections-tell, currents-tell}
use Rattle.ward_equivalent.proofs.Ratio.{ratio-finite}
use Rattle.ward_equivalent.proofs.Bounds.{entry_in, entry-below, injection-below}
use Rattle.ward_equivalent.proofs.Decided.{refused-decided, together-decided}

-- numbers of steps
steps-finite : (es fs : List Step) → T (all_finite (numbers_in es)) → T (all_finite (numbers_in fs)) → T (all_finite (numbers_in (es ++ fs)))
steps-finite es fs h k = subst (λ (l : List Float). T (all_finite l)) (sym (numbers-both es fs)) (all_join (numbers_in es) (numbers_in fs) h k)

numbers-finite : (xs : List Float) (fs : List Step) → T (all_finite xs) → T (all_finite (numbers_in fs)) → T (all_finite (numbers_in (computing xs ++ fs)))
numbers-finite xs fs h k = subst (λ (l : List Float). T (all_finite l)) (sym (numbers-back xs fs)) (all_join xs (numbers_in fs) h k)

each-steps : (f : ℕ → List Step) (is : List ℕ) → ((t : ℕ) → t < length is → T (all_finite (numbers_in (f (get_or is t 0))))) → T (all_finite (numbers_in (of_each f is)))
unfolding of_each numbers_in
each-steps f [] h = none
each-steps f (i ∷ is) h = steps-finite (f i) (of_each f is) (h 0 (omega arith)) (each-steps f is (λ (t : ℕ) (l : t < length is). h (suc t) (omega arith)))

-- what the work reads and the slice that it uses
pub record StudyGiven (n : ℕ) (ys : List Float) (bs : List ℕ) (e f : ℕ) (ps qs ws : List Float) : Type 0 where
  pub listing : Listing n ys bs
  pub few : n ≤ limit
  pub distinct : length bs ≤ n
  pub first : e ≤ f
  pub last : f ≤ length bs
  pub p-ext : length ps ≡ e
  pub q-ext : length qs ≡ e
  pub finite : T (all_finite ys)
  pub work : length ws ≡ 2 * (e * (length bs + 1))

pub given-of : (s : ListedStudy) (ws : List Float) → length ws ≡ 2 * (s.e * (length s.buses.now + 1)) → StudyGiven s.matrix.n s.matrix.y.now s.buses.now s.e s.f s.injections.p.now s.injections.q.now ws
given-of s ws work =
    record { listing = s.listing; few = s.few; distinct = s.distinct; first = s.first; last = s.last; p-ext = s.p_each; q-ext = s.q_each; finite = s.finite; work = work }

module _ (n : ℕ) (ys : List Float) (bs : List ℕ) (e f : ℕ) (base : Float) (ps qs ws : List Float) (some : 0 < e) (G : StudyGiven n ys bs e f ps qs ws)
    (allowed left : ℕ) (after : List Float) (done : TogetherDone n ys bs e base ps qs allowed left after) where
  abbrev S : Study
  S = cut n ys bs e f base ps qs

  abbrev w : ℕ
  w = length bs + 1

  abbrev before : List Float
  before = done.held.before

  within : e ≤ length bs
  within = omega (arith, G.first, G.last)

  count : length (take e bs) ≡ e
  count = length-take-le e bs within

  none-external : eqb (externals S) 0 ≡ false
  none-external = any n ys bs e f base ps qs some G.first G.last

  -- ---- the solves

  -- the elimination is that of the system beside all right sides
  beside : (i j : ℕ) → i < e → j < w → entry_at w before i j ≡ augmented operations e (y_ee S) (rights n ys bs e base ps qs) i j
  beside i j x y = done.held.filled i j x y ∙ augmented-beside n ys bs e f base ps qs within i j x y

  all-numbers : T (all_finite (numbers_in (steps_of_run operations workings e w (augmented operations e (y_ee S) (rights n ys bs e base ps qs)))))
  all-numbers =
      subst (λ (l : List Step). T (all_finite (numbers_in l))) (run-steps-same operations workings e w (omega (arith, within)) (entry_at w before) (augmented operations e (y_ee S) (rights n ys bs e base ps qs)) beside)
      (all-finite allowed (steps_of_run operations workings e w (entry_at w before)) done.none)

  solve-numbers : (c : ℕ) → c < length bs - e + 1 → T (all_finite (numbers_in (steps_of_solve (externals S) (y_ee S) (λ (l : ℕ). rights n ys bs e base ps qs l c))))
  unfolding steps_of_solve
  solve-numbers c h =
      let long : w ≡ e + (length bs - e + 1) = omega (arith, within) in
      subst (λ (m : ℕ). T (all_finite (numbers_in (steps_of_run operations workings m (m + 1) (augmented operations m (y_ee S) (λ (r k : ℕ). rights n ys bs e base ps qs r c)))))) (sym count)
      (alone-numbers operations workings e (length bs - e + 1) (y_ee S) (rights n ys bs e base ps qs) c h
      (subst (λ (m : ℕ). T (all_finite (numbers_in (steps_of_run operations workings e m (augmented operations e (y_ee S) (rights n ys bs e base ps qs)))))) long all-numbers))

  column-numbers : (q : ℕ) → q < length bs - e → T (all_finite (numbers_in (steps_of_column S (get_or bs (e + q) 0))))
  unfolding steps_of_column rights admittance
  column-numbers q h =
      subst (λ (b : Bool). T (all_finite (numbers_in (steps_of_solve (externals S) (y_ee S) (λ (l : ℕ). cond b (entry_at n ys (get_or (take e bs) l 0) (get_or bs (e + q) 0)) (current base (get_or ps l nan) (get_or qs l nan)))))))
      (lt-ltb q (length bs - e) h) (solve-numbers q (omega arith))

  currents-numbers : T (all_finite (numbers_in (steps_of_currents S)))
  unfolding steps_of_currents rights
  currents-numbers =
      subst (λ (b : Bool). T (all_finite (numbers_in (steps_of_solve (externals S) (y_ee S) (λ (l : ℕ). cond b (entry_at n ys (get_or (take e bs) l 0) (get_or bs (e + (length bs - e)) 0)) (current base (get_or ps l nan) (get_or qs l nan)))))))
      (le-ltb (length bs - e) (length bs - e) (omega arith)) (solve-numbers (length bs - e) (omega arith))

  kept_at : (q : ℕ) → get_or (retained S) q 0 ≡ get_or bs (e + q) 0
  kept_at q = ap (λ (l : List ℕ). get_or l q 0) (retained-cut n ys bs e f base ps qs G.first) ∙ get_or-drop e bs q 0

  kept-count : length (retained S) ≡ length bs - e
  kept-count = kept n ys bs e f base ps qs some G.first G.last

  columns-numbers : T (all_finite (numbers_in (of_each (steps_of_column S) (retained S))))
  columns-numbers =
      each-steps (steps_of_column S) (retained S) λ (q : ℕ) (l : q < length (retained S)).
      subst (λ (j : ℕ). T (all_finite (numbers_in (steps_of_column S j)))) (sym (kept_at q)) (column-numbers q (subst (λ (m : ℕ). q < m) kept-count l))

  -- ---- the entries and the injections

  given-in : (i j : ℕ) → i < n → j < n → Both 200 (admittance S i j)
  unfolding admittance
  given-in i j x y = entry_in n n ys G.listing.full done.given i j x y

  after-long : length after ≡ 2 * (e * w)
  after-long = ap length done.held.reached ∙ length-grid e w _

  external-below : (k : ℕ) → k < externals S → external_at S k < n
  external-below k l = listed_below n ys (take e bs) (listing-take n ys bs e G.listing) k l

  bus-below : (q : ℕ) → q < length bs → get_or bs q 0 < n
  bus-below q l = listed_below n ys bs G.listing q l

  column-value : (q : ℕ) → q < length bs - e → (k : ℕ) → k < externals S → entry_at w after k (externals S + q) ≡ solved_column S (get_or bs (e + q) 0) k
  unfolding solved_column rights admittance
  column-value q h k l =
      column-of n ys bs e f base ps qs within before done.held.filled after done.held.reached k q (subst (λ (m : ℕ). k < m) count l) (omega arith)
      ∙ ap (λ (b : Bool). solve (externals S) (y_ee S) (λ (r : ℕ). cond b (entry_at n ys (get_or (take e bs) r 0) (get_or bs (e + q) 0)) (current base (get_or ps r nan) (get_or qs r nan))) k) (lt-ltb q (length bs - e) h)

  currents-value : (k : ℕ) → k < externals S → entry_at w after k (externals S + (length bs - e)) ≡ solved_currents S k
  unfolding solved_currents rights
  currents-value k l =
      column-of n ys bs e f base ps qs within before done.held.filled after done.held.reached k (length bs - e) (subst (λ (m : ℕ). k < m) count l) (omega arith)
      ∙ ap (λ (b : Bool). solve (externals S) (y_ee S) (λ (r : ℕ). cond b (entry_at n ys (get_or (take e bs) r 0) (get_or bs (e + (length bs - e)) 0)) (current base (get_or ps r nan) (get_or qs r nan))) k) (le-ltb (length bs - e) (length bs - e) (omega arith))

  value_in : (c : ℕ) → c < length bs - e + 1 → (k : ℕ) → k < externals S → Both 200 (entry_at w after k (externals S + c))
  value_in c h k l = entry_in e w after after-long done.work k (externals S + c) (subst (λ (m : ℕ). k < m) count l) (omega (arith, count, within))

  few : externals S ≤ 256
  few = omega (arith, count, within, G.distinct, G.few)

  entry-finite : (i q : ℕ) → i < n → q < length bs - e → Finite (csub (admittance S i (get_or bs (e + q) 0)) (row_times S i (solved_column S (get_or bs (e + q) 0))))
  unfolding row_times
  entry-finite i q x y =
      entry-below (externals S) (λ (k : ℕ). admittance S i (external_at S k)) (solved_column S (get_or bs (e + q) 0)) few
      (λ (k : ℕ) (l : k < externals S). given-in i (external_at S k) x (external-below k l))
      (λ (k : ℕ) (l : k < externals S). subst (Both 200) (column-value q y k l) (value_in q (omega arith) k l))
      (admittance S i (get_or bs (e + q) 0)) (given-in i (get_or bs (e + q) 0) x (bus-below (e + q) (omega (arith, within))))

  entries-numbers : T (all_finite (of_equivalent S))
  entries-numbers =
      entries-tell S none-external λ (p : ℕ) (x : p < length (retained S)) (q : ℕ) (y : q < length (retained S)).
      let x' = subst (λ (m : ℕ). p < m) kept-count x in
      let y' = subst (λ (m : ℕ). q < m) kept-count y in
      subst (λ (j : ℕ). Finite (csub (admittance S (get_or (retained S) p 0) j) (row_times S (get_or (retained S) p 0) (solved_column S j)))) (sym (kept_at q))
      (subst (λ (i : ℕ). Finite (csub (admittance S i (get_or bs (e + q) 0)) (row_times S i (solved_column S (get_or bs (e + q) 0))))) (sym (kept_at p)) (entry-finite (get_or bs (e + p) 0) q (bus-below (e + p) (omega (arith, within, x'))) y'))

  injections-numbers : T (all_finite (of_injections S))
  unfolding boundary_current row_times
  injections-numbers =
      injections-tell S none-external λ (t : ℕ) (l : t < length S.boundary).
      injection-below (externals S) (λ (k : ℕ). admittance S (get_or S.boundary t 0) (external_at S k)) (solved_currents S) few
      (λ (k : ℕ) (h : k < externals S). given-in (get_or S.boundary t 0) (external_at S k) (listed_below n ys (drop f bs) (listing-drop n ys bs f G.listing) t l) (external-below k h))
      (λ (k : ℕ) (h : k < externals S). subst (Both 200) (currents-value k h) (value_in (length bs - e) (omega arith) k h)) base done.base-below

  -- ---- the currents

  current-at : (k : ℕ) → k < e → entry_at w before k (length bs) ≡ current base (get_or ps k nan) (get_or qs k nan)
  unfolding work_matrix work_row
  current-at k h = done.held.filled k (length bs) h (omega arith) ∙ ap (λ (b : Bool). cond b (entry_at n ys (get_or bs k 0) (get_or bs (length bs) 0)) (current base (get_or ps k nan) (get_or qs k nan))) (le-ltb (length bs) (length bs) (omega arith))

  currents-finite : T (all_finite (of_currents S (externals S)))
  currents-finite =
      currents-tell S (externals S) λ (k : ℕ) (l : k < externals S).
      let h = subst (λ (m : ℕ). k < m) count l in
      subst Finite (current-at k h) (slice-entries e w before done.long done.finite k (length bs) h (omega arith))

  -- ---- together

  all-computed : T (all_finite (of_study S))
  unfolding of_study steps_of
  all-computed =
      rw none-external
      (steps-finite (of_each (steps_of_column S) (retained S)) _ columns-numbers
      (numbers-finite (of_equivalent S ++ of_currents S (externals S)) _ (all_join (of_equivalent S) (of_currents S (externals S)) entries-numbers currents-finite)
      (steps-finite (steps_of_currents S) _ currents-numbers
      (subst (λ (l : List Float). T (all_finite l)) (sym (numbers-alone (of_injections S ++ of_ratio (length (retained S)) n)))
      (all_join (of_injections S) (of_ratio (length (retained S)) n) injections-numbers
      (ratio-finite (length (retained S)) n (omega (arith, within, some, G.distinct)) (subst (λ (m : ℕ). m ≤ n) (sym kept-count) (omega (arith, G.distinct))) G.few))))))

  -- the elimination counts as each solve does
  rows_are : allowed - left ≡ rows_of_solve S
  rows_are =
      let c = done.count in
      let same = run-count operations workings e w (entry_at w before) ∙ pairs_of n ys bs e f base ps qs within before done.held.filled in
      omega arith

  pub left-within : left ≤ allowed
  left-within = let c = done.count in omega arith

  regular : singular_study S ≡ false
  regular = pick (singular_study S) refl
    where
      met : ◌≡◌ {A = ℕ} 0 (cond (ltb allowed (pairs operations e (entry_at w before))) 18 (cond (singular_study S) 13 0))
      met =
          sym done.none ∙ run-met operations workings e w (entry_at w before) allowed
          (finite-unlost _ _ (all-finite allowed (steps_of_run operations workings e w (entry_at w before)) done.none))
          ∙ ap (λ (b : Bool). cond (ltb allowed (pairs operations e (entry_at w before))) 18 (cond b 13 0)) (pivots-of n ys bs e f base ps qs within before done.held.filled)

      refuse : (t : Bool) → ◌≡◌ {A = ℕ} 0 (cond t 18 13) → ⊥
      refuse true h = omega arith
      refuse false h = omega arith

      pick : (b : Bool) → singular_study S ≡ b → b ≡ false
      pick false h = refl
      pick true h = absurd (refuse (ltb allowed (pairs operations e (entry_at w before))) (met ∙ ap (λ (b : Bool). cond (ltb allowed (pairs operations e (entry_at w before))) 18 (cond b 13 0)) h))

  total : (length bs + 1 - e) * (allowed - left) ≡ (length (retained S) + 1) * rows_of_solve S
  total =
      let solves : length bs + 1 - e ≡ length (retained S) + 1 = omega (arith, kept-count, within) in
      ap (λ (k : ℕ). k * (allowed - left)) solves ∙ ap (λ (k : ℕ). (length (retained S) + 1) * k) rows_are

  met-is : meets allowed (steps_of S) ≡ cond (ltb allowed ((length (retained S) + 1) * rows_of_solve S)) 18 0
  unfolding numbers_in of_study
  met-is =
      study-met S none-external (finite-unlost (reductions (steps_of S)) (steps_of S) all-computed) allowed
      ∙ ap (λ (b : Bool). cond b (cond (ltb allowed (rows_of_solve S)) 18 13) (cond (ltb allowed ((length (retained S) + 1) * rows_of_solve S)) 18 0)) regular

  -- and so many fit
  pub total-fits : Fits w64 ((length bs + 1 - e) * (allowed - left))
  total-fits =
      let bound = pairs-bound operations (externals S) (y_ee S) in
      let most : externals S ≤ 256 = few in
      let less : externals S - 1 ≤ 256 = omega arith in
      let square = mul-le-mul most less in
      let solves : length bs + 1 - e ≤ 257 = omega (arith, G.distinct, G.few) in
      let each : allowed - left ≤ 65536 = omega (arith, rows_are) in
      product-fits (length bs + 1 - e) (allowed - left) 257 65536 solves each tt

  pub decided-beyond : allowed < (length bs + 1 - e) * (allowed - left) → (r : Result Decided Refusal) → r ≡ Err BeyondAllowance → (last : List Float) → length last ≡ length after → last ≡ zeros (length after)
      → Decides n ys (take e bs) (drop e bs) bs (cut n ys bs e f base ps qs) allowed r last
  decided-beyond h r said last long clear =
      refused-decided n ys bs e f base ps qs G.first allowed last BeyondAllowance
      (sym (met-is ∙ ap (λ (b : Bool). cond b 18 0) (lt-ltb allowed ((length (retained S) + 1) * rows_of_solve S) (subst (λ (k : ℕ). allowed < k) total h)))) r said (length after) long clear

  pub decided-done : (length bs + 1 - e) * (allowed - left) ≤ allowed → Decides n ys (take e bs) (drop e bs) bs (cut n ys bs e f base ps qs) allowed (Ok (Together ((length bs + 1 - e) * (allowed - left)))) after
  decided-done h =
      together-decided n ys bs e f base ps qs G.first allowed after ((length bs + 1 - e) * (allowed - left))
      (met-is ∙ ap (λ (b : Bool). cond b 18 0) (le-ltb allowed ((length (retained S) + 1) * rows_of_solve S) (subst (λ (k : ℕ). k ≤ allowed) total h)))
      (total ∙ sym (study-count S)) (subst (λ (k : ℕ). AllTogether n ys bs k base ps qs after) (sym count) done.held)
