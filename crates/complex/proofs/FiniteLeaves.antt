-- A number that an operation answers is finite.
use Rattle.std.proofs.Common.{Option, Some, None}
use Rattle.prelude.proofs.Prelude.{◌≡◌, refl, sym, ap, subst, ◌∙◌, Bool, true, false, cond, true≢false, List, [], ◌∷◌, T, Float, finite}
use Rattle.binary64.specs.Values.{all_finite}
use Rattle.binary64.specs.Root.{root}
use Rattle.complex.specs.declared.Complex.{Complex}
use Rattle.complex.specs.Arithmetic.{cadd, csub, cneg, cmul, cdiv, unit}
use Rattle.complex.specs.Computed.{of_parts, of_sum, of_difference, of_product, of_quotient}
use Rattle.complex.specs.Magnitude.{abs, magnitude}
use Rattle.complex.specs.Leaves.{pair, real, sum, difference, product, quotient, inverse, negative, absolute, square_root, magnitude_of, of_magnitude, FinitePair, FiniteReal, FiniteAnswers}
use Rattle.complex.proofs.Answers.{pair-tells}
use Rattle.complex.proofs.Leaves.{one-finite, turned_same, abs-finite}
use Rattle.complex.proofs.Roots.{magnitude-tells}
use Rattle.complex.proofs.Sticky.{parts_all, product-tells, quotient-result}

of-true : (b : Bool) → b ≡ true → T b
of-true b e = subst T (sym e) tt

-- where the numbers that decide tell of the result's parts
by_parts : (xs : List Float) (c : Complex) → (all_finite xs ≡ true → T (all_finite (of_parts c))) → FinitePair (pair xs c)
by_parts xs c h z e = let (all, same) = pair-tells xs c z (sym e) in subst (λ (x : Complex). T (all_finite (of_parts x))) (sym same) (h all)

is_finite : Option Float → Bool
is_finite (Some x) = true
is_finite None = false

value_or : Float → Option Float → Float
value_or d (Some x) = x
value_or d None = d

real-tells : (xs : List Float) (x y : Float) → real xs x ≡ Some y → (all_finite xs ≡ true) × (y ≡ x)
unfolding real is_finite value_or
real-tells xs x y e = go (all_finite xs) e
  where
    go : (b : Bool) → cond b (Some x) None ≡ Some y → (b ≡ true) × (y ≡ x)
    go true h = (refl, sym (ap (value_or x) h))
    go false h = absurd (true≢false (sym (ap is_finite h)))

by_value : (xs : List Float) (x : Float) → (all_finite xs ≡ true → T (finite x)) → FiniteReal (real xs x)
by_value xs x h y e = let (all, same) = real-tells xs x y e in subst (λ (z : Float). T (finite z)) (sym same) (h all)

pub finite-answers : FiniteAnswers
unfolding sum difference product quotient inverse negative absolute square_root magnitude_of
finite-answers = record {
  sums = λ a b. by_parts (of_sum a b) (cadd a b) (λ h. of-true (all_finite (of_parts (cadd a b))) h);
  differences = λ a b. by_parts (of_difference a b) (csub a b) (λ h. of-true (all_finite (of_parts (csub a b))) h);
  products = λ a b. by_parts (of_product a b) (cmul a b) (λ h. of-true (all_finite (of_parts (cmul a b))) (product-tells a b ∙ h));
  quotients = λ a b. by_parts (of_quotient a b) (cdiv a b) (λ h. parts_all (cdiv a b) (quotient-result a b (of-true (all_finite (of_quotient a b)) h)).0);
  inverses = λ b. by_parts (of_quotient unit b) (cdiv unit b) (λ h. parts_all (cdiv unit b) (quotient-result unit b (of-true (all_finite (of_quotient unit b)) h)).0);
  negatives = λ a. by_parts (of_parts a) (cneg a) (λ h. of-true (all_finite (of_parts (cneg a))) (turned_same a ∙ h));
  absolutes = λ x. by_value (x ∷ []) (abs x) (λ h. of-true (finite (abs x)) (abs-finite x ∙ sym (one-finite x) ∙ h));
  roots = λ x. by_value (root x ∷ []) (root x) (λ h. of-true (finite (root x)) (sym (one-finite (root x)) ∙ h));
  magnitudes = λ c. by_value (of_magnitude c) (magnitude c) (λ h. of-true (finite (magnitude c)) (magnitude-tells c ∙ h));
}
