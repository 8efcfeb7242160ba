-- Sums of products and entries of the equivalent by operations that answer a finite number or none.
use Rattle.prelude.proofs.Prelude.{◌≡◌, refl, sym, ap, ◌∙◌, Bool, true, false, not, cond, List, [], ◌++◌, append_assoc, ℕ, zero, suc, T, eqb, Float}
use Rattle.binary64.specs.Values.{all_finite}
use Rattle.complex.specs.{Complex, cadd, cmul, csub, of_sum, of_product}
use Rattle.std.proofs.Common.{Option, Some}
use Rattle.complex.specs.Leaves.{pair, product, sum, difference, passing}
use Rattle.complex.proofs.LeafSteps.{passes_on}
use Rattle.ward_equivalent.specs.Arithmetic.{sum_up}
use Rattle.ward_equivalent.specs.Ward.{Study, externals, external_at, admittance, row_times, solved_column, equivalent, solved_currents, boundary_current}
use Rattle.ward_equivalent.specs.Steps.{of_products, of_row_times, of_equivalent_entry}
use Rattle.ward_equivalent.specs.PassedOn.{sum_answer, row_answer, StudyPassedOn}

-- one product more
more-passed : (xs : List Float) (s a x : Complex)
    → passing (pair xs s) (λ (s : Complex). passing (product a x) (λ (p : Complex). sum s p)) ≡ pair (xs ++ of_product a x ++ of_sum s (cmul a x)) (cadd s (cmul a x))
unfolding product sum
more-passed xs s a x =
    let p = cmul a x in
    passes_on xs s _ (of_product a x ++ of_sum s p) (cadd s p) (passes_on (of_product a x) p (λ (p : Complex). sum s p) (of_sum s p) (cadd s p) refl)
    ∙ ap (λ (l : List Float). pair l (cadd s p)) (sym (append_assoc xs (of_product a x) (of_sum s p)))

none_passed : (c : Complex) → Some c ≡ pair [] c
unfolding pair all_finite
none_passed c = refl

sum-passed : (n : ℕ) (a x : ℕ → Complex) → sum_answer n a x ≡ pair (of_products n a x) (sum_up n (λ (k : ℕ). cmul (a k) (x k)))
unfolding sum_answer of_products sum_up
sum-passed zero a x = none_passed _
sum-passed (suc n) a x =
    ap (λ (c : Option Complex). passing c (λ (s : Complex). passing (product (a n) (x n)) (λ (p : Complex). sum s p))) (sum-passed n a x)
    ∙ more-passed (of_products n a x) (sum_up n (λ (k : ℕ). cmul (a k) (x k))) (a n) (x n)

row-passed : (S : Study) (i : ℕ) (x : ℕ → Complex) → row_answer S i x ≡ pair (of_row_times S i x) (row_times S i x)
unfolding row_answer of_row_times row_times
row-passed S i x = sum-passed (externals S) (λ (k : ℕ). admittance S i (external_at S k)) x

entry-passed : (S : Study) → T (not (eqb (externals S) 0)) → (i j : ℕ)
    → passing (row_answer S i (solved_column S j)) (λ (s : Complex). difference (admittance S i j) s) ≡ pair (of_equivalent_entry S i j) (equivalent S i j)
unfolding of_equivalent_entry equivalent difference
entry-passed S some i j =
    ap (λ (c : Option Complex). passing c (λ (s : Complex). difference (admittance S i j) s)) (row-passed S i (solved_column S j))
    ∙ passes_on (of_row_times S i (solved_column S j)) (row_times S i (solved_column S j)) _ _ _ refl
    ∙ ap (pair _) (go (eqb (externals S) 0) some)
  where
    go : (b : Bool) → T (not b) → csub (admittance S i j) (row_times S i (solved_column S j)) ≡ cond b (admittance S i j) (csub (admittance S i j) (row_times S i (solved_column S j)))
    go true h = absurd h
    go false h = refl

pub study-passed-on : StudyPassedOn
unfolding boundary_current
study-passed-on = record { entries = entry-passed; boundary-currents = λ S i. row-passed S i (solved_currents S) }
