-- One column's step: the pivot row in place, its pivot weighed, its row scaled, and the others reduced. And the run over the columns.
use Rattle.prelude.proofs.Prelude.{◌≡◌, refl, sym, ap, ◌∙◌, subst, Bool, true, false, cond, List, [], ◌∷◌, ◌++◌, ℕ, suc, ◌+◌, ◌-◌, ◌*◌, ◌≤◌, ◌<◌, arith, T, eqb, is_true, length, Float, lt, finite, add-one, sub-zero, eqb-true}
use Rattle.std.proofs.Common.{Result, Ok, Err, is_ok}
use Rattle.refusals.specs.declared.Refusal.{Refusal}
use Rattle.refusals.specs.declared.Refusal.TheVariants.{Singular, ComputedNotFinite}
use Rattle.binary64.specs.Values.{all_finite}
use Rattle.complex.specs.{Complex, division_limit, cmul, sqmag, complex_inv, unit, of_sqmag, of_quotient, Matrix, entry_at}
use Rattle.complex.proofs.Finite.{all_join, all_left, all_right}
use Rattle.complex.proofs.FiniteEntries.{AllFinite, entries-slice, slice-entries, same-finite}
use Rattle.complex.proofs.Leaves.{undivided}
use Rattle.complex.proofs.Matrices.{grid-ext}
use Rattle.lists.specs.Buses.{up_to}
use Rattle.refusals.specs.Work.{Step, pivot_too_small, computing, meets}
use Rattle.refusals.proofs.Work.{meets-numbers, count-numbers}
use Rattle.solver.specs.GaussJordan.{pivot_row, swapped, scaled, pivoted, cleared, gauss_jordan_from, gauss_jordan}
use Rattle.solver.specs.Solving.{operations}
use Rattle.solver.specs.Steps.{workings, of_search, of_scaling, steps_of_rows, steps_from, steps_of_run}
use Rattle.solver.specs.Inner.Work.{with_row, Told, steps_of_clearing, steps_of_column, ColumnDone, Ran, Met}
use Rattle.solver.proofs.GaussJordan.{Same, cleared-same, run-first, run-stops, run-goes-on, run_ends}
use Rattle.solver.proofs.StepsSame.{others_same, clearing-same, steps-from-same, column-first}
use Rattle.solver.proofs.FiniteWork.{small-finite, search-tells, swapped-finite, finite-swapped, scaling-tells, scaling-kept}
use Rattle.solver.proofs.Told.{Came, came-first, came-done, came-then, came-ended, told-then, told_same, told-numbers, told-not-finite, not_done, not-small}

module _ (n w c p : ℕ) (A B : Matrix) (g : ℕ → Complex) (chosen : p ≡ pivot_row operations n A c)
    (swap : (i j : ℕ) → j < w → B i j ≡ swapped operations c p A i j) (held : (j : ℕ) → j < w → g j ≡ B c j) where
  pub placed : (i j : ℕ) → j < w → B i j ≡ pivoted operations n c A i j
  unfolding pivoted
  placed i j h = swap i j h ∙ ap (λ (x : ℕ). swapped operations c x A i j) chosen

  pub weighed : n ≤ w → c < n → (x : Complex) (s : Float) (b : Bool) → x ≡ g c → s ≡ sqmag x → lt s division_limit ≡ b
      → b ≡ operations.small (pivoted operations n c A c c)
  weighed wide here x s b ex es t =
      let col : c < w = omega arith in
      sym t ∙ ap (λ (y : Float). lt y division_limit) (es ∙ ap sqmag (ex ∙ held c col ∙ placed c c col))

-- ---- what is met

-- the weights of column c
abbrev weights : ℕ → ℕ → Matrix → List Float
weights n c A = of_search operations workings A c c (suc c) (n - suc c) ++ of_sqmag (pivoted operations n c A c c)

-- the pivot's inverse and its row scaled
abbrev scaling : ℕ → ℕ → Matrix → List Float
scaling w c B = of_quotient unit (B c c) ++ of_scaling operations workings B c (up_to w)

front-lost : (xs ys : List Float) → all_finite xs ≡ false → all_finite (xs ++ ys) ≡ false
front-lost xs ys t = pick (all_finite (xs ++ ys)) refl
  where
    pick : (b : Bool) → all_finite (xs ++ ys) ≡ b → all_finite (xs ++ ys) ≡ false
    pick true e = absurd (subst T t (all_left xs ys (subst T (sym e) tt)))
    pick false e = e

inverse-lost : (m n w c : ℕ) (B : Matrix) → all_finite (of_quotient unit (B c c)) ≡ false → meets m (steps_of_clearing n w c B) ≡ 20
unfolding steps_of_clearing
inverse-lost m n w c B t =
    let rows = steps_of_rows operations workings (scaled operations c B) c (up_to n) (up_to w) in
    meets-numbers m (scaling w c B) rows ∙ ap (λ (b : Bool). cond b (meets m rows) 20) (front-lost (of_quotient unit (B c c)) (of_scaling operations workings B c (up_to w)) t)

-- what is met from the pivot's inverse on is met from the search on: a weight that is not finite leaves the pivot's so, which the inverse meets
weights-first : (m n w c : ℕ) (A : Matrix) → c < n → n ≤ w → AllFinite n w A
    → meets m (computing (weights n c A) ++ steps_of_clearing n w c (pivoted operations n c A)) ≡ meets m (steps_of_clearing n w c (pivoted operations n c A))
weights-first m n w c A here wide f = meets-numbers m (weights n c A) es ∙ pick (finite (sqmag (pivoted operations n c A c c))) refl
  where
    es : List Step
    es = steps_of_clearing n w c (pivoted operations n c A)

    either : (b : Bool) → ◌≡◌ {A = ℕ} (cond b 20 20) 20
    either true = refl
    either false = refl

    pick : (b : Bool) → finite (sqmag (pivoted operations n c A c c)) ≡ b → cond (all_finite (weights n c A)) (meets m es) 20 ≡ meets m es
    pick true t = ap (λ (b : Bool). cond b (meets m es) 20) (is_true (all_finite (weights n c A)) (search-tells n w c A here wide f (subst T (sym t) tt)))
    pick false t =
        let met : meets m es ≡ 20 = inverse-lost m n w c (pivoted operations n c A) (undivided unit (pivoted operations n c A c c) t) in
        ap (λ (k : ℕ). cond (all_finite (weights n c A)) k 20) met ∙ either (all_finite (weights n c A)) ∙ sym met

-- ---- the pivot's row scaled and the others reduced

module _ (n w c allowed : ℕ) (before : List Float) where
  pub clearing-not-finite : all_finite (of_quotient unit (entry_at w before c c)) ≡ false → Told allowed (steps_of_clearing n w c (entry_at w before)) before before (Err ComputedNotFinite)
  unfolding steps_of_clearing
  clearing-not-finite t = told-not-finite allowed (scaling w c (entry_at w before)) _ before (front-lost (of_quotient unit (entry_at w before c c)) (of_scaling operations workings (entry_at w before) c (up_to w)) t)

  -- the inverse is finite, and `now` has the scaled row
  module _ (wide : n ≤ w) (here : c < n) (full : length before ≡ 2 * (n * w)) (inverse : all_finite (of_quotient unit (entry_at w before c c)) ≡ true) (now : List Float)
      (long : length now ≡ 2 * (n * w)) (put : (i q : ℕ) → q < w → entry_at w now i q ≡ scaled operations c (entry_at w before) i q) where
    scaled-row : (i q : ℕ) → q < w → entry_at w now i q ≡ with_row c (λ (j : ℕ). cmul (entry_at w before c j) (complex_inv (entry_at w before c c))) (entry_at w before) i q
    unfolding scaled with_row
    scaled-row i q y = put i q y ∙ pick (eqb i c) refl
      where
        pick : (b : Bool) → eqb i c ≡ b → cond b (cmul (entry_at w before i q) (complex_inv (entry_at w before c c))) (entry_at w before i q)
            ≡ cond b (cmul (entry_at w before c q) (complex_inv (entry_at w before c c))) (entry_at w before i q)
        pick true t = ap (λ (k : ℕ). cmul (entry_at w before k q) (complex_inv (entry_at w before c c))) (eqb-true i c t)
        pick false t = refl

    pub clearing-told : (after : List Float) (r : Result ℕ Refusal) → Told allowed (steps_of_rows operations workings (entry_at w now) c (up_to n) (up_to w)) now after r
        → Told allowed (steps_of_clearing n w c (entry_at w before)) before after r
    unfolding steps_of_clearing
    clearing-told after r others =
        let A = entry_at w before in
        told-then allowed (computing (scaling w c A)) before now allowed (steps_of_rows operations workings (scaled operations c A) c (up_to n) (up_to w)) after r
        (told-numbers allowed (scaling w c A) before now
        (λ h. let (a, k) = scaling-tells n w c A (entry_at w now) here scaled-row (slice-entries n w now long h) in
        (entries-slice n w before full a, all_join (of_quotient unit (A c c)) (of_scaling operations workings A c (up_to w)) (subst T (sym inverse) tt) k))
        (λ a k. entries-slice n w now long
        (scaling-kept n w c A (entry_at w now) here scaled-row (slice-entries n w before full a) (all_right (of_quotient unit (A c c)) (of_scaling operations workings A c (up_to w)) k))))
        (told_same allowed (steps_of_rows operations workings (entry_at w now) c (up_to n) (up_to w)) now after (steps_of_rows operations workings (scaled operations c A) c (up_to n) (up_to w)) r
        (others_same operations workings n w wide (entry_at w now) (scaled operations c A) (λ (i j : ℕ) x y. put i j y) c here) others)

-- ---- a column's turn, by its pivot's test

module _ (n w c allowed : ℕ) (wide : n ≤ w) (here : c < n) (before swap : List Float) (full : length before ≡ 2 * (n * w)) (long : length swap ≡ 2 * (n * w))
    (same : (i j : ℕ) → j < w → entry_at w swap i j ≡ pivoted operations n c (entry_at w before) i j) where
  to-swap : T (all_finite before) → T (all_finite swap)
  to-swap h = entries-slice n w swap long
      (same-finite n w (pivoted operations n c (entry_at w before)) (entry_at w swap) (λ i j x y. sym (same i j y)) (swapped-finite n w c (entry_at w before) here (slice-entries n w before full h)))

  from-swap : T (all_finite swap) → T (all_finite before)
  from-swap h = entries-slice n w before full
      (finite-swapped n w c (entry_at w before) here (same-finite n w (entry_at w swap) (pivoted operations n c (entry_at w before)) (λ i j x y. same i j y) (slice-entries n w swap long h)))

  weighed-finite : T (all_finite before) → operations.small (pivoted operations n c (entry_at w before) c c) ≡ true → T (all_finite (weights n c (entry_at w before)))
  weighed-finite h t =
      let f = slice-entries n w before full h in
      search-tells n w c (entry_at w before) here wide f
      (small-finite (pivoted operations n c (entry_at w before) c c) t)

  pub column-small : true ≡ operations.small (pivoted operations n c (entry_at w before) c c) → ColumnDone n w c allowed (Err Singular) before swap
  unfolding steps_of_column meets
  column-small t =
      let ws = weights n c (entry_at w before) in
      record {
        told = told_same allowed (computing ws ++ (pivot_too_small ∷ [])) before swap _ (Err Singular)
            (ap (λ (b : Bool). computing ws ++ cond b (pivot_too_small ∷ []) (steps_of_clearing n w c (pivoted operations n c (entry_at w before)))) t)
            (record {
              finite = λ h. let a = from-swap h in (a, meets-numbers allowed ws (pivot_too_small ∷ []) ∙ ap (λ (b : Bool). cond b 13 20) (is_true (all_finite ws) (weighed-finite a (sym t))));
              lost = λ a k. absurd (subst T k (to-swap a));
              count = λ left e. absurd (not_done refl e);
            });
        entries = λ left e. absurd (not_done refl e);
        small = λ _. (sym t, λ i j x y. same i j y);
      }

  -- the column is cleared, or the work ends on the way
  module _ (t : false ≡ operations.small (pivoted operations n c (entry_at w before) c c)) (after : List Float) (r : Result ℕ Refusal)
      (turn : Told allowed (steps_of_clearing n w c (entry_at w swap)) swap after r)
      (left : (rest : ℕ) → r ≡ Ok rest → (i j : ℕ) → i < n → j < w → entry_at w after i j ≡ cleared operations c (entry_at w swap) i j)
      (large : r ≡ Err Singular → ⊥) where
    alike : (i j : ℕ) → i < n → j < w → entry_at w swap i j ≡ pivoted operations n c (entry_at w before) i j
    alike i j x y = same i j y

    pub column-cleared : ColumnDone n w c allowed r before after
    unfolding steps_of_column
    column-cleared =
        let A = entry_at w before in
        let B = pivoted operations n c A in
        let es = steps_of_clearing n w c B in
        let steps : steps_of_clearing n w c (entry_at w swap) ≡ es = clearing-same n w wide (entry_at w swap) B alike c here in
        let told : Told allowed es swap after r = told_same allowed (steps_of_clearing n w c (entry_at w swap)) swap after es r steps turn in
        record {
          told = told_same allowed (computing (weights n c A) ++ es) before after _ r (ap (λ (b : Bool). computing (weights n c A) ++ cond b (pivot_too_small ∷ []) es) t)
              (record {
                finite = λ h. let (b, met) = told.finite h in let a = from-swap b in (a, weights-first allowed n w c A here wide (slice-entries n w before full a) ∙ met);
                lost = λ a k. weights-first allowed n w c A here wide (slice-entries n w before full a) ∙ told.lost (to-swap a) k;
                count = λ rest e. ap (λ (k : ℕ). k + rest) (count-numbers (weights n c A) es) ∙ told.count rest e;
              });
          entries = λ rest e. (sym t, λ i j x y. left rest e i j x y ∙ cleared-same operations n w wide (entry_at w swap) B alike c here i j x y);
          small = λ e. absurd (large e);
        }

-- ---- the run over the columns

-- The loop over the columns: the run of Gauss-Jordan from column c on, over what the slice holds, ends as the whole run, and the steps behind are told.
pub record Running (n w c allowed left : ℕ) (first now row : List Float) : Type 0 where
  pub most : c ≤ n
  pub full : length now ≡ 2 * (n * w)
  pub room : length row ≡ 4 * w
  pub ends : Same operations n w (gauss_jordan_from operations n (n - c) c (entry_at w now)) (gauss_jordan operations n (entry_at w first))
  pub came : Came allowed (steps_of_run operations workings n w (entry_at w first)) first now left (steps_from operations workings n w (n - c) c (entry_at w now))

pub running-first : (n w allowed : ℕ) (first row : List Float) → length first ≡ 2 * (n * w) → length row ≡ 4 * w → Running n w 0 allowed allowed first first row
unfolding steps_of_run
running-first n w allowed first row full room =
    record {
      most = omega arith;
      full = full;
      room = room;
      ends = run-first operations n w (entry_at w first);
      came = subst (λ (k : ℕ). Came allowed (steps_from operations workings n w n 0 (entry_at w first)) first first allowed (steps_from operations workings n w k 0 (entry_at w first)))
          (sym (sub-zero n)) (came-first allowed (steps_from operations workings n w n 0 (entry_at w first)) first);
    }

module _ (n w c allowed left : ℕ) (first now row : List Float) (s : Running n w c allowed left first now row) where
  pub running-end : n ≤ c → Ran n w allowed (Ok left) first now
  unfolding steps_from
  running-end h =
      let ends = run_ends operations n w c (entry_at w now) _ (omega (arith, s.most)) s.ends in
      let none : n - c ≡ 0 = omega arith in
      record {
        told = came-done allowed left (steps_of_run operations workings n w (entry_at w first)) (steps_from operations workings n w (n - c) c (entry_at w now)) first now s.came
            (ap (λ (k : ℕ). steps_from operations workings n w k c (entry_at w now)) none);
        entries = λ _ _. grid-ext n w _ now s.full ends.1;
        small = λ e. absurd (not-small refl e);
      }

  -- the next column has its turn
  module _ (turn : Result ℕ Refusal) (next : List Float) (h : c < n) (d : ColumnDone n w c left turn now next) (same : length next ≡ length now) where
    -- the steps to come begin with it
    split : steps_from operations workings n w (n - c) c (entry_at w now)
        ≡ steps_of_column n w c (entry_at w now) ++ cond (operations.small (pivoted operations n c (entry_at w now) c c)) [] (steps_from operations workings n w (n - suc c) (suc c) (cleared operations c (pivoted operations n c (entry_at w now))))
    split =
        let one : n - c ≡ suc (n - suc c) = omega arith in
        ap (λ (k : ℕ). steps_from operations workings n w k c (entry_at w now)) one ∙ column-first n w (n - suc c) c (entry_at w now)

    pub running-ended : (r : Result ℕ Refusal) → is_ok r ≡ false → turn ≡ r → Ran n w allowed r first next
    running-ended r not e =
        record {
          told = came-ended allowed left (steps_of_run operations workings n w (entry_at w first)) (steps_from operations workings n w (n - c) c (entry_at w now)) first now s.came
              (steps_of_column n w c (entry_at w now)) _ next split r not (subst (λ (x : Result ℕ Refusal). Told left (steps_of_column n w c (entry_at w now)) now next x) e d.told);
          entries = λ rest k. absurd (not_done not k);
          small = λ k. let (low, entered) = d.small (e ∙ k) in
              grid-ext n w _ next (same ∙ s.full) (run-stops operations n w c (entry_at w now) (entry_at w next) _ h low entered s.ends).1;
        }

    pub running-next : n ≤ w → (after : List Float) → length after ≡ length row → (rest : ℕ) → turn ≡ Ok rest → Running n w (c + 1) allowed rest first next after
    running-next wide after long rest e =
        let B = pivoted operations n c (entry_at w now) in
        let (large, entered) = d.entries rest e in
        let later = steps_from operations workings n w (n - suc c) (suc c) (cleared operations c B) in
        let step : n - (c + 1) ≡ n - suc c = omega arith in
        let on : later ≡ steps_from operations workings n w (n - (c + 1)) (c + 1) (entry_at w next)
        = sym (steps-from-same operations workings n w wide (entry_at w next) (cleared operations c B) entered (n - suc c) (suc c) (omega arith))
        ∙ ap (λ (k : ℕ). steps_from operations workings n w (n - k) k (entry_at w next)) (sym (add-one c)) in
        record {
          most = omega arith;
          full = same ∙ s.full;
          room = long ∙ s.room;
          ends = run-goes-on operations n w c (entry_at w now) (entry_at w next) _ wide h large entered s.ends;
          came = came-then allowed left (steps_of_run operations workings n w (entry_at w first)) (steps_from operations workings n w (n - c) c (entry_at w now)) first now s.came
              (steps_of_column n w c (entry_at w now)) (steps_from operations workings n w (n - (c + 1)) (c + 1) (entry_at w next)) next
              (split ∙ ap (λ (b : Bool). steps_of_column n w c (entry_at w now) ++ cond b [] later) large ∙ ap (λ (l : List Step). steps_of_column n w c (entry_at w now) ++ l) on)
              rest (subst (λ (x : Result ℕ Refusal). Told left (steps_of_column n w c (entry_at w now)) now next x) e d.told);
        }

-- ---- the slice looked at where the work ended

module _ (n w allowed : ℕ) (r : Result ℕ Refusal) (first last : List Float) (ran : Ran n w allowed r first last) (kept : length last ≡ length first) where
  pub met-finite : T (all_finite last) → Met n w allowed r first last
  met-finite h = record {
    number = sym (ran.told.finite h).1;
    done = λ left e. record { count = ran.told.count left e; entries = ran.entries left e; finite = h };
    small = λ e. (ran.small e, h);
    length-kept = kept;
  }

  pub met-lost : T (all_finite first) → all_finite last ≡ false → Met n w allowed (Err ComputedNotFinite) first last
  met-lost h k = record { number = sym (ran.told.lost h k); done = λ left e. absurd (not_done refl e); small = λ e. absurd (not-small refl e); length-kept = kept }
