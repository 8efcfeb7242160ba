-- Calls on single numbers: where all computed are finite, so are all given, so that the operation's answer and the given numbers tell the refusal.
use Rattle.prelude.proofs.Prelude.{◌≡◌, refl, sym, ap, ap₂, ◌∙◌, Bool, true, false, not, cond, List, [], ◌∷◌, ◌++◌, ℕ, T, eqb, Float}
use Rattle.binary64.specs.Values.{all_finite}
use Rattle.binary64.specs.Root.{root}
use Rattle.std.proofs.Common.{Option, Some, None}
use Rattle.complex.specs.{Complex, unit, cadd, csub, of_parts, of_sum, of_difference, of_product, of_sqmag, of_quotient, magnitude}
use Rattle.complex.specs.Leaves.{pair, real, of_magnitude, single_refusal, pair_number, real_number}
use Rattle.complex.proofs.Finite.{none, all_more, all_join, all_left, first_of}
use Rattle.complex.proofs.Sticky.{Finite, parts_all, all-parts, sum-given, terms-given, factors-given, product-result, square-given, square-result, quotient-given}
use Rattle.complex.proofs.Roots.{root-given}
use Rattle.refusals.specs.Refusals.{refuse, then_given, then_computed, given_not_finite, computed_not_finite}
use Rattle.entries.specs.Answers.{answer_after}
use Rattle.entries.specs.Singles.{pair_after, real_after}

-- by the two tests, the second of which implies the first
cases : (P : Bool → Bool → Type 0) → P true true → P true false → P false false → (given computed : Bool) → (T computed → T given) → P given computed
cases P a b c true true h = a
cases P a b c true false h = b
cases P a b c false true h = absurd (h tt)
cases P a b c false false h = c

-- the refusal by the two tests
by : Bool → Bool → ℕ
by g k = cond (eqb (refuse (not g) given_not_finite 0) 0) (refuse (not k) computed_not_finite 0) (refuse (not g) given_not_finite 0)

module _ (given computed : List Float) (h : T (all_finite computed) → T (all_finite given)) where
  pub pair-number : (c : Complex) → pair_number (all_finite given) (pair computed c) ≡ single_refusal given computed
  unfolding pair pair_number single_refusal then_computed then_given by
  pair-number c = cases (λ (g k : Bool). pair_number g (cond k (Some c) None) ≡ by g k) refl refl refl (all_finite given) (all_finite computed) h

  pub pair-after : (c held : Complex) → pair_after (pair computed c) held ≡ answer_after (single_refusal given computed) c held
  unfolding pair pair_after answer_after single_refusal then_computed then_given by
  pair-after c held =
      cases (λ (g k : Bool). pair_after (cond k (Some c) None) held ≡ cond (eqb (by g k) 0) c held) refl refl refl (all_finite given) (all_finite computed) h

  pub real-number : (x : Float) → real_number (all_finite given) (real computed x) ≡ single_refusal given computed
  unfolding real real_number single_refusal then_computed then_given by
  real-number x = cases (λ (g k : Bool). real_number g (cond k (Some x) None) ≡ by g k) refl refl refl (all_finite given) (all_finite computed) h

  pub real-after : (x held : Float) → real_after (real computed x) held ≡ answer_after (single_refusal given computed) x held
  unfolding real real_after answer_after single_refusal then_computed then_given by
  real-after x held =
      cases (λ (g k : Bool). real_after (cond k (Some x) None) held ≡ cond (eqb (by g k) 0) x held) refl refl refl (all_finite given) (all_finite computed) h

  -- a call by its operation's answer, and by the test of what is given
  pub pair-told : (c held : Complex) (answer : Option Complex) (test : Bool) (f : ℕ) (out : Complex) → answer ≡ pair computed c → test ≡ all_finite given
      → f ≡ pair_number test answer → out ≡ pair_after answer held → (f ≡ single_refusal given computed) × (out ≡ answer_after f c held)
  pair-told c held answer test f out e t n o =
      let number = n ∙ ap₂ pair_number t e ∙ pair-number c in
      (number, o ∙ ap (λ (x : Option Complex). pair_after x held) e ∙ pair-after c held ∙ ap (λ (k : ℕ). answer_after k c held) (sym number))

  pub real-told : (x held : Float) (answer : Option Float) (test : Bool) (f : ℕ) (out : Float) → answer ≡ real computed x → test ≡ all_finite given
      → f ≡ real_number test answer → out ≡ real_after answer held → (f ≡ single_refusal given computed) × (out ≡ answer_after f x held)
  real-told x held answer test f out e t n o =
      let number = n ∙ ap₂ real_number t e ∙ real-number x in
      (number, o ∙ ap (λ (y : Option Float). real_after y held) e ∙ real-after x held ∙ ap (λ (k : ℕ). answer_after k x held) (sym number))

-- ---- what a finite result says of the numbers given

both-parts : (a b : Complex) → Finite a × Finite b → T (all_finite (of_parts a ++ of_parts b))
both-parts a b (h, k) = all_join (of_parts a) (of_parts b) (parts_all a h) (parts_all b k)

pub given-of-sum : (a b : Complex) → T (all_finite (of_sum a b)) → T (all_finite (of_parts a ++ of_parts b))
given-of-sum a b h = both-parts a b (sum-given a b (all-parts (cadd a b) h))

pub given-of-difference : (a b : Complex) → T (all_finite (of_difference a b)) → T (all_finite (of_parts a ++ of_parts b))
given-of-difference a b h = both-parts a b (terms-given a b (all-parts (csub a b) h))

pub given-of-product : (a b : Complex) → T (all_finite (of_product a b)) → T (all_finite (of_parts a ++ of_parts b))
given-of-product a b h = both-parts a b (factors-given a b (product-result a b h))

pub given-of-quotient : (a b : Complex) → T (all_finite (of_quotient a b)) → T (all_finite (of_parts a ++ of_parts b))
given-of-quotient a b h = both-parts a b (quotient-given a b h)

pub given-of-inverse : (b : Complex) → T (all_finite (of_quotient unit b)) → T (all_finite (of_parts b))
given-of-inverse b h = parts_all b (quotient-given unit b h).1

pub given-of-root : (x : Float) → T (all_finite (root x ∷ [])) → T (all_finite (x ∷ []))
given-of-root x h = all_more x [] (root-given x (first_of (root x) [] h)) none

pub given-of-magnitude : (c : Complex) → T (all_finite (of_magnitude c)) → T (all_finite (of_parts c))
given-of-magnitude c h = parts_all c (square-given c (square-result c (all_left (of_sqmag c) (magnitude c ∷ []) h)))
