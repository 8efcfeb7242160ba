-- What an elimination meets by the answers of its operations: the same as by all their numbers, since a list of numbers counts by whether all are finite.
use Rattle.prelude.proofs.Prelude.{◌≡◌, refl, sym, ap, ◌∙◌, ap₂, Bool, true, false, ◌&&◌, ◌||◌, cond, List, [], ◌∷◌, ◌++◌, append_assoc, ℕ, zero, suc, ◌-◌, eqb, Float, of_bits}
use Rattle.binary64.specs.Values.{all_finite}
use Rattle.complex.specs.{Complex, plus0}
use Rattle.std.proofs.Common.{Some, None}
use Rattle.complex.specs.Leaves.{pair, product, difference, inverse, quotient}
use Rattle.complex.proofs.Finite.{all_both}
use Rattle.lists.specs.Buses.{up_to}
use Rattle.refusals.specs.Work.{Step, reduces, pivot_too_small, computing, meets}
use Rattle.refusals.proofs.Work.{meets-numbers}
use Rattle.solver.specs.GaussJordan.{Operations, MatrixOf, stays, pivoted, scaled, cleared}
use Rattle.solver.specs.Solving.{operations}
use Rattle.solver.specs.Steps.{Workings, workings, of_search, of_scaling, of_reducing, steps_of_row, steps_of_rows, steps_from, steps_of_run}
use Rattle.solver.specs.PassedOn.{told, answers, RunPassedOn}

-- two lists of steps that meet the same
abbrev Alike : List Step → List Step → Type 0
Alike es fs = (m : ℕ) → meets m es ≡ meets m fs

both : (xs ys xs' ys' : List Float) → all_finite xs ≡ all_finite xs' → all_finite ys ≡ all_finite ys' → all_finite (xs ++ ys) ≡ all_finite (xs' ++ ys')
both xs ys xs' ys' e f = all_both xs ys ∙ ap₂ ◌&&◌ e f ∙ sym (all_both xs' ys')

numbers-alike : (xs ys : List Float) (es fs : List Step) → all_finite xs ≡ all_finite ys → Alike es fs → Alike (computing xs ++ es) (computing ys ++ fs)
numbers-alike xs ys es fs e rest m =
    meets-numbers m xs es ∙ ap₂ (λ (b : Bool) (k : ℕ). cond b k 20) e (rest m) ∙ sym (meets-numbers m ys fs)

all-behind : (xs : List Float) (rows later es : List Step) → (computing xs ++ (rows ++ later)) ++ es ≡ computing xs ++ (rows ++ (later ++ es))
all-behind xs rows later es = append_assoc (computing xs) (rows ++ later) es ∙ ap (λ (l : List Step). computing xs ++ l) (append_assoc rows later es)

row-alike : (skipped : Bool) (xs ys : List Float) (es fs : List Step) → all_finite xs ≡ all_finite ys → Alike es fs
    → Alike (cond skipped [] (reduces ∷ computing xs) ++ es) (cond skipped [] (reduces ∷ computing ys) ++ fs)
unfolding meets
row-alike true xs ys es fs e rest m = rest m
row-alike false xs ys es fs e rest zero = refl
row-alike false xs ys es fs e rest (suc m) = numbers-alike xs ys es fs e rest m

module _ {E : Type 0} (O : Operations E) (W U : Workings E)
    (times : (a b : E) → all_finite (W.of_times a b) ≡ all_finite (U.of_times a b)) (minus : (a b : E) → all_finite (W.of_minus a b) ≡ all_finite (U.of_minus a b))
    (inverted : (b : E) → all_finite (W.of_inverse b) ≡ all_finite (U.of_inverse b)) (weight : (b : E) → all_finite (W.of_weight b) ≡ all_finite (U.of_weight b)) where
  search-alike : (A : MatrixOf E) (c held next count : ℕ) → all_finite (of_search O W A c held next count) ≡ all_finite (of_search O U A c held next count)
  unfolding of_search
  search-alike A c held next zero = refl
  search-alike A c held next (suc count) =
      both _ _ _ _ (both _ _ _ _ (weight (A held c)) (weight (A next c)))
      (search-alike A c (cond (stays (O.weight (A held c)) (O.weight (A next c))) held next) (suc next) count)

  scaling-alike : (B : MatrixOf E) (c : ℕ) (js : List ℕ) → all_finite (of_scaling O W B c js) ≡ all_finite (of_scaling O U B c js)
  unfolding of_scaling
  scaling-alike B c [] = refl
  scaling-alike B c (j ∷ js) = both _ _ _ _ (times (B c j) (O.inverse (B c c))) (scaling-alike B c js)

  reducing-alike : (C : MatrixOf E) (c i : ℕ) (js : List ℕ) → all_finite (of_reducing O W C c i js) ≡ all_finite (of_reducing O U C c i js)
  unfolding of_reducing
  reducing-alike C c i [] = refl
  reducing-alike C c i (j ∷ js) =
      both _ _ _ _ (both _ _ _ _ (times (C i c) (C c j)) (minus (C i j) (O.times (C i c) (C c j)))) (reducing-alike C c i js)

  rows_alike : (C : MatrixOf E) (c : ℕ) (is js : List ℕ) (es fs : List Step) → Alike es fs → Alike (steps_of_rows O W C c is js ++ es) (steps_of_rows O U C c is js ++ fs)
  unfolding steps_of_rows steps_of_row
  rows_alike C c [] js es fs rest m = rest m
  rows_alike C c (i ∷ is) js es fs rest m =
      ap (meets m) (append_assoc (steps_of_row O W C c i js) (steps_of_rows O W C c is js) es)
      ∙ row-alike (eqb i c || O.skips (C i c)) _ _ _ _ (reducing-alike C c i js) (rows_alike C c is js es fs rest) m
      ∙ sym (ap (meets m) (append_assoc (steps_of_row O U C c i js) (steps_of_rows O U C c is js) fs))

  -- a column's steps once its pivot is chosen, with those of the later columns behind them
  abbrev after_pivot : Workings E → (n w c : ℕ) → MatrixOf E → Bool → List Step → List Step
  after_pivot X n w c B small later =
      cond small (pivot_too_small ∷ []) (computing (X.of_inverse (B c c) ++ of_scaling O X B c (up_to w)) ++ (steps_of_rows O X (scaled O c B) c (up_to n) (up_to w) ++ later))

  column-alike : (n w c : ℕ) (B : MatrixOf E) (small : Bool) (later later' es fs : List Step) → Alike (later ++ es) (later' ++ fs)
      → Alike (after_pivot W n w c B small later ++ es) (after_pivot U n w c B small later' ++ fs)
  unfolding meets
  column-alike n w c B true later later' es fs rest m = refl
  column-alike n w c B false later later' es fs rest m =
      ap (meets m) (all-behind (W.of_inverse (B c c) ++ of_scaling O W B c (up_to w)) (steps_of_rows O W (scaled O c B) c (up_to n) (up_to w)) later es)
      ∙ numbers-alike _ _ _ _ (both _ _ _ _ (inverted (B c c)) (scaling-alike B c (up_to w))) (rows_alike (scaled O c B) c (up_to n) (up_to w) _ _ rest) m
      ∙ sym (ap (meets m) (all-behind (U.of_inverse (B c c) ++ of_scaling O U B c (up_to w)) (steps_of_rows O U (scaled O c B) c (up_to n) (up_to w)) later' fs))

  from-alike : (n w count c : ℕ) (A : MatrixOf E) (es fs : List Step) → Alike es fs → Alike (steps_from O W n w count c A ++ es) (steps_from O U n w count c A ++ fs)
  unfolding steps_from
  from-alike n w zero c A es fs rest m = rest m
  from-alike n w (suc count) c A es fs rest m =
      let B = pivoted O n c A in
      let small = O.small (B c c) in
      let later = steps_from O W n w count (suc c) (cleared O c B) in
      let later' = steps_from O U n w count (suc c) (cleared O c B) in
      let xs = of_search O W A c c (suc c) (n - suc c) ++ W.of_weight (B c c) in
      let ys = of_search O U A c c (suc c) (n - suc c) ++ U.of_weight (B c c) in
      ap (meets m) (append_assoc (computing xs) (after_pivot W n w c B small later) es)
      ∙ numbers-alike xs ys _ _ (both _ _ _ _ (search-alike A c c (suc c) (n - suc c)) (weight (B c c)))
      (column-alike n w c B small later later' es fs (from-alike n w count (suc c) (cleared O c B) es fs rest)) m
      ∙ sym (ap (meets m) (append_assoc (computing ys) (after_pivot U n w c B small later') fs))

-- an answer is finite as all its numbers are
told-tells : (xs : List Float) (c : Complex) → all_finite (told (pair xs c) ∷ []) ≡ all_finite xs
unfolding pair told all_finite plus0 of_bits
told-tells xs c = go (all_finite xs)
  where
    go : (b : Bool) → all_finite (told (cond b (Some c) None) ∷ []) ≡ b
    go true = refl
    go false = refl

pub run-passed-on : RunPassedOn
unfolding product difference inverse quotient steps_of_run
run-passed-on m n w A rest = from-alike operations answers workings (λ a b. told-tells _ _) (λ a b. told-tells _ _) (λ b. told-tells _ _) (λ b. refl) n w n 0 A rest rest (λ (k : ℕ). refl) m
