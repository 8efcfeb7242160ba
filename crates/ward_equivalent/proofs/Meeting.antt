-- What the steps of a study meet where no number that the work reaches is lost. All its solves have one system, so that each counts and meets the same.
--     study-met   13 or 18 of the first solve where the system is singular, else 18 where all solves together exceed the allowance
use Rattle.prelude.proofs.Prelude.{◌≡◌, refl, sym, ap, ◌∙◌, Bool, true, false, cond, List, [], ◌∷◌, ◌++◌, append_assoc, ℕ, ◌+◌, ◌*◌, arith, T, eqb, ltb, length, Float}
use Rattle.binary64.specs.Values.{all_finite}
use Rattle.complex.specs.{Complex}
use Rattle.refusals.specs.Work.{Step, computing, meets, reductions}
use Rattle.refusals.proofs.Work.{meets-first, finite-meets, unlost-meets, marks, marks-both, marks-numbers, none-marked, none-counted}
use Rattle.solver.specs.GaussJordan.{gauss_jordan, augmented}
use Rattle.solver.specs.Solving.{operations}
use Rattle.solver.specs.Steps.{workings, steps_of_solve}
use Rattle.solver.proofs.GaussJordan.{augmented-singular}
use Rattle.solver.proofs.Pairs.{pairs-system}
use Rattle.solver.proofs.Steps.{stopped, stopped_none, met_by, OnlyCounted, counted-both, counted_none, counted-numbers, run-marked}
use Rattle.ward_equivalent.specs.Ward.{Study, externals, retained, y_ee}
use Rattle.ward_equivalent.specs.Extended.{ExtendedStudy}
use Rattle.ward_equivalent.specs.Steps.{of_each, steps_of_column, steps_of_currents, of_equivalent, of_currents, of_injections, of_ratio, steps_of, of_study, of_correction, steps_of_extended, of_extended}
use Rattle.ward_equivalent.proofs.Steps.{rows_of_solve, singular_study, column-count, currents-count, study-count}

-- by marks alone
module _ (S : Study) where
  solve-marked : (b : ℕ → Complex) (m : ℕ) → meets m (marks (steps_of_solve (externals S) (y_ee S) b)) ≡ met_by m (rows_of_solve S) (singular_study S)
  unfolding steps_of_solve
  solve-marked b m =
      let n = externals S in
      let B = augmented operations n (y_ee S) (λ (r k : ℕ). b r) in
      run-marked operations workings n (n + 1) B m
      ∙ ap (λ (k : ℕ). met_by m k (gauss_jordan operations n B).singular) (pairs-system operations n (y_ee S) (λ (r k : ℕ). b r))
      ∙ ap (met_by m (rows_of_solve S)) (augmented-singular operations n (y_ee S) (λ (r k : ℕ). b r))

  column-met : (j m : ℕ) → meets m (marks (steps_of_column S j)) ≡ met_by m (rows_of_solve S) (singular_study S)
  unfolding steps_of_column
  column-met j m = solve-marked _ m

  currents-met : (m : ℕ) → meets m (marks (steps_of_currents S)) ≡ met_by m (rows_of_solve S) (singular_study S)
  unfolding steps_of_currents
  currents-met m = solve-marked _ m

  -- a regular system meets nothing but 18
  module _ (regular : singular_study S ≡ false) where
    column-counted : (j : ℕ) → OnlyCounted (steps_of_column S j)
    column-counted j m = column-met j m ∙ ap (met_by m (rows_of_solve S)) regular ∙ ap (λ (k : ℕ). stopped m k 0) (sym (column-count S j))

    currents-counted : OnlyCounted (steps_of_currents S)
    currents-counted m = currents-met m ∙ ap (met_by m (rows_of_solve S)) regular ∙ ap (λ (k : ℕ). stopped m k 0) (sym (currents-count S))

    columns-counted : (js : List ℕ) → OnlyCounted (of_each (steps_of_column S) js)
    unfolding of_each
    columns-counted [] = counted_none
    columns-counted (j ∷ js) = counted-both (steps_of_column S j) (of_each (steps_of_column S) js) (column-counted j) (columns-counted js)

    last-counted : (xs : List Float) → OnlyCounted (computing xs)
    unfolding meets
    last-counted xs m = ap (meets m) (none-marked xs) ∙ stopped_none m 0 ∙ ap (λ (k : ℕ). stopped m k 0) (sym (none-counted xs))

    study-counted : OnlyCounted (steps_of S)
    unfolding steps_of
    study-counted = pick (eqb (externals S) 0)
      where
        pick : (b : Bool) → OnlyCounted (cond b [] (of_each (steps_of_column S) (retained S)
            ++ (computing (of_equivalent S ++ of_currents S (externals S)) ++ (steps_of_currents S ++ computing (of_injections S ++ of_ratio (length (retained S)) S.size)))))
        pick true = counted_none
        pick false =
            counted-both (of_each (steps_of_column S) (retained S)) _ (columns-counted (retained S))
            (counted-numbers (of_equivalent S ++ of_currents S (externals S)) _ (counted-both (steps_of_currents S) _ currents-counted (last-counted (of_injections S ++ of_ratio (length (retained S)) S.size))))

  -- a singular one is told by the first solve
  module _ (small : singular_study S ≡ true) where
    first-met : (m : ℕ) (es : List Step) → meets m (marks es) ≡ met_by m (rows_of_solve S) (singular_study S) → meets m (marks es) ≡ cond (ltb m (rows_of_solve S)) 18 13
    first-met m es e = e ∙ ap (met_by m (rows_of_solve S)) small

    some-met : (m : ℕ) (es : List Step) → meets m (marks es) ≡ met_by m (rows_of_solve S) (singular_study S) → meets m (marks es) ≡ 0 → ⊥
    some-met m es e z = pick (ltb m (rows_of_solve S)) (meets m (marks es)) (first-met m es e) z
      where
        pick : (b : Bool) (x : ℕ) → x ≡ cond b 18 13 → x ≡ 0 → ⊥
        pick true x h k = omega arith
        pick false x h k = omega arith

    -- a solve, and whatever comes behind it
    solve-first : (m : ℕ) (es fs : List Step) → meets m (marks es) ≡ met_by m (rows_of_solve S) (singular_study S) → meets m (marks (es ++ fs)) ≡ cond (ltb m (rows_of_solve S)) 18 13
    solve-first m es fs e = ap (meets m) (marks-both es fs) ∙ meets-first m (marks es) (marks fs) (some-met m es e) ∙ first-met m es e

    solves-met : (m : ℕ) (js : List ℕ) (xs ys : List Float) → meets m (marks (of_each (steps_of_column S) js ++ (computing xs ++ (steps_of_currents S ++ computing ys)))) ≡ cond (ltb m (rows_of_solve S)) 18 13
    unfolding of_each
    solves-met m [] xs ys = ap (meets m) (marks-numbers xs _) ∙ solve-first m (steps_of_currents S) (computing ys) (currents-met m)
    solves-met m (j ∷ js) xs ys =
        ap (λ (l : List Step). meets m (marks l)) (append_assoc (steps_of_column S j) (of_each (steps_of_column S) js) (computing xs ++ (steps_of_currents S ++ computing ys)))
        ∙ solve-first m (steps_of_column S j) (of_each (steps_of_column S) js ++ (computing xs ++ (steps_of_currents S ++ computing ys))) (column-met j m)

    singular-met : eqb (externals S) 0 ≡ false → (m : ℕ) → meets m (marks (steps_of S)) ≡ cond (ltb m (rows_of_solve S)) 18 13
    unfolding steps_of
    singular-met some m = rw some (solves-met m (retained S) (of_equivalent S ++ of_currents S (externals S)) (of_injections S ++ of_ratio (length (retained S)) S.size))

  pub study-met : eqb (externals S) 0 ≡ false → (meets (reductions (steps_of S)) (steps_of S) ≡ 20 → ⊥) → (m : ℕ)
      → meets m (steps_of S) ≡ cond (singular_study S) (cond (ltb m (rows_of_solve S)) 18 13) (cond (ltb m ((length (retained S) + 1) * rows_of_solve S)) 18 0)
  study-met some unlost m = unlost-meets m (steps_of S) unlost ∙ pick (singular_study S) refl
    where
      pick : (b : Bool) → singular_study S ≡ b → meets m (marks (steps_of S)) ≡ cond b (cond (ltb m (rows_of_solve S)) 18 13) (cond (ltb m ((length (retained S) + 1) * rows_of_solve S)) 18 0)
      pick true e = singular-met e some m
      pick false e = study-counted e m ∙ ap (λ (k : ℕ). stopped m k 0) (study-count S)

  -- a regular system with finite numbers meets nothing but 18
  pub study-regular : T (all_finite (of_study S)) → singular_study S ≡ false → (m : ℕ) → meets m (steps_of S) ≡ cond (ltb m (reductions (steps_of S))) 18 0
  unfolding of_study
  study-regular computed regular m = finite-meets m (steps_of S) computed ∙ study-counted regular m

pub extended-regular : (X : ExtendedStudy) → T (all_finite (of_extended X)) → singular_study X.study ≡ false → (m : ℕ) → meets m (steps_of_extended X) ≡ cond (ltb m (reductions (steps_of_extended X))) 18 0
unfolding of_extended steps_of_extended
extended-regular X computed regular m =
    let xs = of_each (of_correction X) X.study.boundary in
    finite-meets m (steps_of X.study ++ computing xs) computed ∙ counted-both (steps_of X.study) (computing xs) (study-counted X.study regular) (last-counted X.study regular xs) m
