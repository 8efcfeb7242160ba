-- What the steps of a study compute and count. All its solves have one system, so that each counts the same.
--     study-count  the row reductions are retained + 1 times those of one solve
use Rattle.prelude.proofs.Prelude.{◌≡◌, refl, sym, ap, ◌∙◌, subst, Bool, true, false, cond, List, [], ◌∷◌, ◌++◌, ℕ, suc, ◌+◌, ◌-◌, ◌*◌, ◌≤◌, arith, T, eqb, length, Float, eqb-true, mul-le-mul_left, finite, lit<}
use native.Mathlib.Nat.{suc-mul, mul-zero}
use Rattle.binary64.specs.Values.{all_finite}
use Rattle.complex.proofs.Finite.{all_left, all_right, all-at}
use Rattle.refusals.specs.Work.{Step, computing, numbers_in, reductions}
use Rattle.refusals.proofs.Work.{count-both, count-numbers, none-counted, numbers-both, numbers-alone, numbers-back}
use Rattle.solver.specs.GaussJordan.{pairs}
use Rattle.solver.specs.Solving.{operations, is_singular}
use Rattle.solver.proofs.Pairs.{pairs-bound}
use Rattle.solver.proofs.Allowances.{solve-count}
use Rattle.ward_equivalent.specs.Ward.{Study, externals, retained, y_ee, ratio}
use Rattle.ward_equivalent.specs.Extended.{ExtendedStudy}
use Rattle.ward_equivalent.specs.Steps.{of_each, steps_of_column, steps_of_currents, of_equivalent, of_currents, of_injections, of_ratio, steps_of, of_study, of_correction, steps_of_extended, of_extended}
use Rattle.ward_equivalent.specs.Allowances.{most_rows}

-- ---- the numbers

-- of steps, and of numbers in front of steps
first-computed : (es fs : List Step) → T (all_finite (numbers_in (es ++ fs))) → T (all_finite (numbers_in es))
first-computed es fs h = all_left (numbers_in es) (numbers_in fs) (subst (λ (l : List Float). T (all_finite l)) (numbers-both es fs) h)

then-computed : (es fs : List Step) → T (all_finite (numbers_in (es ++ fs))) → T (all_finite (numbers_in fs))
then-computed es fs h = all_right (numbers_in es) (numbers_in fs) (subst (λ (l : List Float). T (all_finite l)) (numbers-both es fs) h)

numbers-computed : (xs : List Float) (es : List Step) → T (all_finite (numbers_in (computing xs ++ es))) → T (all_finite xs)
numbers-computed xs es h = all_left xs (numbers_in es) (subst (λ (l : List Float). T (all_finite l)) (numbers-back xs es) h)

last-computed : (xs : List Float) → T (all_finite (numbers_in (computing xs))) → T (all_finite xs)
last-computed xs h = subst (λ (l : List Float). T (all_finite l)) (numbers-alone xs) h

module _ (S : Study) (some : eqb (externals S) 0 ≡ false) (computed : T (all_finite (of_study S))) where
  -- the solves for the columns; the entries and the currents; the injections and the ratio
  abbrev columns : List Step
  columns = of_each (steps_of_column S) (retained S)

  abbrev entered : List Float
  entered = of_equivalent S ++ of_currents S (externals S)

  abbrev ended : List Float
  ended = of_injections S ++ of_ratio (length (retained S)) S.size

  whole : T (all_finite (numbers_in (columns ++ (computing entered ++ (steps_of_currents S ++ computing ended)))))
  unfolding of_study steps_of
  whole = rw some at computed

  behind : T (all_finite (numbers_in (computing entered ++ (steps_of_currents S ++ computing ended))))
  behind = then-computed columns (computing entered ++ (steps_of_currents S ++ computing ended)) whole

  pub entries-computed : T (all_finite (of_equivalent S))
  entries-computed = all_left (of_equivalent S) (of_currents S (externals S)) (numbers-computed entered (steps_of_currents S ++ computing ended) behind)

  pub injections-computed : T (all_finite (of_injections S))
  injections-computed =
      all_left (of_injections S) (of_ratio (length (retained S)) S.size)
      (last-computed ended (then-computed (steps_of_currents S) (computing ended) (then-computed (computing entered) (steps_of_currents S ++ computing ended) behind)))

  pub ratio-computed : T (finite (ratio (length (retained S)) S.size))
  unfolding of_ratio
  ratio-computed =
      let numbers = all_right (of_injections S) (of_ratio (length (retained S)) S.size) (last-computed ended (then-computed (steps_of_currents S) (computing ended) (then-computed (computing entered) (steps_of_currents S ++ computing ended) behind))) in
      all-at (of_ratio (length (retained S)) S.size) 3 (lit< tt) numbers

module _ (X : ExtendedStudy) (computed : T (all_finite (of_extended X))) where
  abbrev corrected : List Float
  corrected = of_each (of_correction X) X.study.boundary

  pub study-computed : T (all_finite (of_study X.study))
  unfolding of_extended steps_of_extended of_study
  study-computed = first-computed (steps_of X.study) (computing corrected) computed

  pub corrections-computed : T (all_finite (of_each (of_correction X) X.study.boundary))
  unfolding of_extended steps_of_extended
  corrections-computed = last-computed corrected (then-computed (steps_of X.study) (computing corrected) computed)

-- ---- the count

-- the row reductions of one solve, and whether the system is singular
abbrev pub rows_of_solve : Study → ℕ
rows_of_solve S = pairs operations (externals S) (y_ee S)

abbrev pub singular_study : Study → Bool
singular_study S = is_singular (externals S) (y_ee S)

module _ (S : Study) where
  pub column-count : (j : ℕ) → reductions (steps_of_column S j) ≡ rows_of_solve S
  unfolding steps_of_column
  column-count j = solve-count (externals S) (y_ee S) _

  pub currents-count : reductions (steps_of_currents S) ≡ rows_of_solve S
  unfolding steps_of_currents
  currents-count = solve-count (externals S) (y_ee S) _

  columns-count : (js : List ℕ) → reductions (of_each (steps_of_column S) js) ≡ length js * rows_of_solve S
  unfolding of_each reductions
  columns-count [] = omega arith
  columns-count (j ∷ js) =
      let one : suc (length js) * rows_of_solve S ≡ length js * rows_of_solve S + rows_of_solve S = suc-mul (length js) (rows_of_solve S) in
      let both = count-both (steps_of_column S j) (of_each (steps_of_column S) js) in
      let first = column-count j in
      let rest = columns-count js in
      omega arith

  pub study-count : reductions (steps_of S) ≡ (length (retained S) + 1) * rows_of_solve S
  unfolding steps_of reductions
  study-count = pick (eqb (externals S) 0) refl
    where
      pick : (b : Bool) → eqb (externals S) 0 ≡ b
          → reductions (cond b [] (of_each (steps_of_column S) (retained S)
          ++ (computing (of_equivalent S ++ of_currents S (externals S)) ++ (steps_of_currents S ++ computing (of_injections S ++ of_ratio (length (retained S)) S.size)))))
          ≡ (length (retained S) + 1) * rows_of_solve S
      pick true e =
          let none : externals S ≡ 0 = eqb-true (externals S) 0 e in
          let bound = pairs-bound operations (externals S) (y_ee S) in
          let zero-bound : externals S * (externals S - 1) ≡ 0 = ap (λ (k : ℕ). k * (k - 1)) none in
          let rows : rows_of_solve S ≡ 0 = omega arith in
          sym (ap (λ (k : ℕ). (length (retained S) + 1) * k) rows ∙ mul-zero (length (retained S) + 1))
      pick false e =
          let currents = steps_of_currents S in
          let last = computing (of_injections S ++ of_ratio (length (retained S)) S.size) in
          let rest = computing (of_equivalent S ++ of_currents S (externals S)) ++ (currents ++ last) in
          let a = count-both (of_each (steps_of_column S) (retained S)) rest in
          let b = columns-count (retained S) in
          let c = count-numbers (of_equivalent S ++ of_currents S (externals S)) (currents ++ last) in
          let d = count-both currents last in
          let f = currents-count in
          let g = none-counted (of_injections S ++ of_ratio (length (retained S)) S.size) in
          let one : suc (length (retained S)) * rows_of_solve S ≡ length (retained S) * rows_of_solve S + rows_of_solve S = suc-mul (length (retained S)) (rows_of_solve S) in
          let more : length (retained S) + 1 ≡ suc (length (retained S)) = omega arith in
          let total : reductions (of_each (steps_of_column S) (retained S) ++ rest) ≡ length (retained S) * rows_of_solve S + rows_of_solve S = omega arith in
          total ∙ sym one ∙ ap (λ (k : ℕ). k * rows_of_solve S) (sym more)

  pub study-bound : reductions (steps_of S) ≤ most_rows S
  unfolding most_rows
  study-bound = let most = mul-le-mul_left (length (retained S) + 1) (pairs-bound operations (externals S) (y_ee S)) in let same = study-count in omega arith
