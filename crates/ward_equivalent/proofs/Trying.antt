-- One elimination for all right sides tried: how each end of `together` meets its contract, and what it tells where it decides.
use Rattle.prelude.proofs.Prelude.{◌≡◌, refl, sym, ap, ◌∙◌, subst, Bool, true, false, ◌&&◌, cond, List, ℕ, ◌+◌, ◌-◌, ◌*◌, ◌<◌, arith, T, eqb, length, Float, and_l, and_r, is_true, eqb→eq, ne_eqb}
use Rattle.binary64.specs.Values.{all_finite}
use Rattle.complex.specs.{entry_at, grid}
use Rattle.complex.specs.Inner.Ordinary.{ordinary, all_ordinary}
use Rattle.complex.proofs.Matrices.{length-grid, entry-grid, grid-ext}
use Rattle.refusals.specs.Work.{meets, reductions}
use Rattle.std.proofs.Common.{Option, Some, None, Result, Ok, Err}
use Rattle.std.specs.Result.{result_ok}
use Rattle.refusals.specs.declared.Refusal.{Refusal}
use Rattle.refusals.specs.declared.Refusal.TheVariants.{Singular}
use Rattle.refusals.specs.Refusals.{number_of}
use Rattle.solver.specs.Solving.{operations}
use Rattle.solver.specs.Steps.{workings, steps_of_run}
use Rattle.solver.specs.GaussJordan.{gauss_jordan}
use Rattle.solver.specs.Inner.Work.{Met}
use Rattle.solver.proofs.Told.{some_number}
use Rattle.ward_equivalent.specs.Inner.Work.{work_matrix}
use Rattle.ward_equivalent.specs.Inner.Sequence.{filled_rows, made_ordinary, decides_all, Tries, TogetherDone}

not-both : {b : Bool} → b ≡ false → T b → ⊥
not-both e t = subst T e t

module _ (n : ℕ) (ys : List Float) (bs : List ℕ) (e : ℕ) (base : Float) (ps qs : List Float) (allowed : ℕ) (before : List Float) where
  abbrev w : ℕ
  w = length bs + 1

  abbrev xs : List Float
  xs = filled_rows n ys bs e base ps qs

  abbrev given : Bool
  given = ordinary base && all_ordinary ys

  abbrev met : ℕ
  met = meets allowed (steps_of_run operations workings e w (entry_at w xs))

  abbrev Trial : Option ℕ → List Float → Type 0
  Trial r after = Tries n ys bs e base ps qs allowed r before after

  abbrev told : Bool → Option ℕ
  told b = cond b (Some (allowed - reductions (steps_of_run operations workings e w (entry_at w xs)))) None

  -- the slice that was filled
  pub filled_is : (zs : List Float) → length zs ≡ 2 * (e * (length bs + 1)) → ((k j : ℕ) → k < e → j < length bs + 1 → entry_at (length bs + 1) zs k j ≡ work_matrix n ys bs base ps qs k j) → zs ≡ filled_rows n ys bs e base ps qs
  filled_is zs long h = grid-ext e w (work_matrix n ys bs base ps qs) zs long h

  -- base or matrix beyond ordinary size
  pub tried-none : (ordinary base && all_ordinary ys) ≡ false → Tries n ys bs e base ps qs allowed None before before
  unfolding decides_all
  tried-none h = record {
    answer = sym (ap (λ (b : Bool). told (b && (all_finite xs && (eqb met 0 && made_ordinary e w xs)))) h);
    untouched = λ _. refl;
    filled = λ t. absurd (not-both h t);
    end = Err Singular;
    eliminated = λ t. absurd (not-both h t);
  }

  module _ (fine : T (ordinary base && all_ordinary ys)) where
    -- a current that is not finite
    pub tried-filled : (after : List Float) → after ≡ filled_rows n ys bs e base ps qs → all_finite (filled_rows n ys bs e base ps qs) ≡ false → Tries n ys bs e base ps qs allowed None before after
    unfolding decides_all
    tried-filled after same h = record {
      answer =
          sym (ap (λ (b : Bool). told (b && (all_finite xs && (eqb met 0 && made_ordinary e w xs)))) (is_true given fine)
          ∙ ap (λ (b : Bool). told (b && (eqb met 0 && made_ordinary e w xs))) h);
      untouched = λ f. absurd (not-both f fine);
      filled = λ _ _. same;
      end = Err Singular;
      eliminated = λ _ t. absurd (not-both h t);
    }

    -- eliminated
    module _ (numbers : T (all_finite (filled_rows n ys bs e base ps qs))) (after : List Float) (end : Result ℕ Refusal) (ran : Met e (length bs + 1) allowed end (filled_rows n ys bs e base ps qs) after) where
      ended : (r : Option ℕ) → r ≡ told (eqb met 0 && made_ordinary e w xs) → Trial r after
      unfolding decides_all
      ended r h = record {
        answer =
            h
            ∙ sym (ap (λ (b : Bool). told (b && (all_finite xs && (eqb met 0 && made_ordinary e w xs)))) (is_true given fine)
            ∙ ap (λ (b : Bool). told (b && (eqb met 0 && made_ordinary e w xs))) (is_true (all_finite xs) numbers));
        untouched = λ f. absurd (not-both f fine);
        filled = λ _ f. absurd (not-both f numbers);
        end = end;
        eliminated = λ _ _. ran;
      }

      abbrev small : Bool
      small = made_ordinary e w xs

      -- where it is done, within the allowance
      made : met ≡ 0 → (d : Result ℕ Refusal) → end ≡ d → after ≡ grid e w (gauss_jordan operations e (entry_at w xs)).left
      made z (Ok left) q = (ran.done left q).entries
      made z (Err r) q = absurd (some_number (Err r) refl (sym (ap number_of q) ∙ ran.number ∙ z))

      pub tried-large : all_ordinary after ≡ false → Tries n ys bs e base ps qs allowed None before after
      tried-large h = ended None (pick (eqb met 0) refl)
        where
          pick : (b : Bool) → eqb met 0 ≡ b → None ≡ told (eqb met 0 && small)
          pick false z = sym (ap (λ (b : Bool). told (b && small)) z)
          pick true z =
              let none : met ≡ 0 = eqb→eq met 0 (subst T (sym z) tt) in
              sym (ap (λ (b : Bool). told (b && small)) z ∙ ap told (ap all_ordinary (sym (made none end refl)) ∙ h))

      lost : (met ≡ 0 → ⊥) → None ≡ told (eqb met 0 && small)
      lost h = sym (ap (λ (b : Bool). told (b && small)) (ne_eqb met 0 h))

      end-told : T (all_ordinary after) → (d : Result ℕ Refusal) → end ≡ d → result_ok d ≡ told (eqb met 0 && small)
      end-told h (Ok left) q =
          let none : eqb met 0 ≡ true = ap (λ (k : ℕ). eqb k 0) (sym ran.number ∙ ap number_of q) in
          let count = (ran.done left q).count in
          let rest : allowed - reductions (steps_of_run operations workings e w (entry_at w xs)) ≡ left = omega arith in
          sym (ap (λ (b : Bool). told (b && small)) none ∙ ap told (ap all_ordinary (sym (ran.done left q).entries) ∙ is_true (all_ordinary after) h) ∙ ap Some rest)
      end-told h (Err r) q = lost (λ (z : met ≡ 0). some_number (Err r) refl (sym (ap number_of q) ∙ ran.number ∙ z))

      pub tried-done : T (all_ordinary after) → (r : Option ℕ) → r ≡ result_ok end → Tries n ys bs e base ps qs allowed r before after
      tried-done h r q = ended r (q ∙ end-told h end refl)

  -- ---- it decides

  module _ (after : List Float) (answered : Option ℕ) (tries : Tries n ys bs e base ps qs allowed answered before after) (left : ℕ) (said : answered ≡ Some left) where
    decides : decides_all base ys e w allowed xs ≡ true
    decides = pick (decides_all base ys e w allowed xs) refl
      where
        pick : (b : Bool) → decides_all base ys e w allowed xs ≡ b → b ≡ true
        pick true h = refl
        pick false h = absurd (let e : ◌≡◌ {A = Option ℕ} None (Some left) = sym (tries.answer ∙ ap told h) ∙ said in cc)

    rest : allowed - reductions (steps_of_run operations workings e w (entry_at w xs)) ≡ left
    rest = let e : Some (allowed - reductions (steps_of_run operations workings e w (entry_at w xs))) ≡ Some left = sym (tries.answer ∙ ap told decides) ∙ said in cc

    finish : T given → T (all_finite xs) → T (made_ordinary e w xs) → Met e w allowed tries.end xs after → met ≡ 0 → (end : Result ℕ Refusal) → tries.end ≡ end → number_of end ≡ 0
        → TogetherDone n ys bs e base ps qs allowed left after
    finish fine numbers small ran none (Ok k) q z =
        let F = ran.done k q in
        let count = F.count in
        let all = rest in
        record {
          held = record { before = xs; filled = λ (i j : ℕ) x y. entry-grid e w (work_matrix n ys bs base ps qs) i j x y; reached = F.entries };
          finite = numbers;
          long = length-grid e w (work_matrix n ys bs base ps qs);
          none = none;
          count = omega arith;
          given = and_r (ordinary base) (all_ordinary ys) fine;
          base-below = and_l (ordinary base) (all_ordinary ys) fine;
          work = subst (λ (l : List Float). T (all_ordinary l)) (sym F.entries) small;
        }
    finish fine numbers small ran none (Err r) q z = absurd (some_number (Err r) refl z)

    pub left-done : TogetherDone n ys bs e base ps qs allowed left after
    unfolding decides_all
    left-done =
        let all : T (decides_all base ys e w allowed xs) = subst T (sym decides) tt in
        let more = all_finite xs && (eqb met 0 && made_ordinary e w xs) in
        let last = eqb met 0 && made_ordinary e w xs in
        let fine : T given = and_l given more all in
        let behind : T more = and_r given more all in
        let numbers : T (all_finite xs) = and_l (all_finite xs) last behind in
        let ends : T last = and_r (all_finite xs) last behind in
        let none : met ≡ 0 = eqb→eq met 0 (and_l (eqb met 0) (made_ordinary e w xs) ends) in
        let ran = tries.eliminated fine numbers in
        finish fine numbers (and_r (eqb met 0) (made_ordinary e w xs) ends) ran none tries.end refl (ran.number ∙ none)
