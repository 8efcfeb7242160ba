-- A loop over the ties of one boundary bus to the external ones: the sums that it holds, and what they are at its end.
use Rattle.prelude.proofs.Prelude.{◌≡◌, refl, sym, ap, ◌∙◌, subst, Bool, true, false, not, ◌&&◌, and_i, T, finite, not-false, true≢false, cond, List, ℕ, ◌+◌, add-one, length, get_or, Float, nan, neg, lt}
use Rattle.complex.specs.{Complex, plus0, one, small_magnitude, ◌⊕◌, ◌⊖◌, ◌⊗◌, ◌⊘◌, entry_at, magnitude}
use Rattle.ward_equivalent.specs.Ward.{admittance}
use Rattle.ward_equivalent.specs.Extended.{ExtendedStudy, add_up, boundary_tie, weight, deviation, reactive, weight_sum, weighted_sum, voltage_correction, q_compensation}
use Rattle.ward_equivalent.specs.Extended.{mean_of}
use Rattle.ward_equivalent.specs.Inner.Listed.{correction_input, CorrectionFinite}

-- the sums over the ties of bus i to the first k external buses
pub record TiesTo (S : ExtendedStudy) (i k : ℕ) (a b c : Float) : Type 0 where
  pub weights : a ≡ add_up k (weight S i)
  pub weighted : b ≡ add_up k (λ (m : ℕ). weight S i m ⊗ deviation S m)
  pub reactives : c ≡ add_up k (λ (m : ℕ). reactive S.study.base (boundary_tie S i m) (deviation S m))

module _ (n : ℕ) (ys : List Float) (es : List ℕ) (vs : List Float) (base : Float) (i : ℕ) where
  pub ties-none : TiesTo (correction_input n ys es vs base) i 0 plus0 plus0 plus0
  unfolding add_up
  ties-none = record { weights = refl; weighted = refl; reactives = refl }

  pub ties-more : (k : ℕ) (a b c w : Float) (g : Complex) → TiesTo (correction_input n ys es vs base) i k a b c → g ≡ entry_at n ys i (get_or es k 0) → w ≡ magnitude g
      → TiesTo (correction_input n ys es vs base) i (k + 1) (a ⊕ w) (b ⊕ w ⊗ (get_or vs k nan ⊖ one)) (c ⊕ neg g.im ⊗ (get_or vs k nan ⊖ one) ⊗ base)
  unfolding add_up weight deviation reactive admittance
  ties-more k a b c w g t e m =
      let f : w ≡ magnitude (entry_at n ys i (get_or es k 0)) = m ∙ ap magnitude e in
      let d = get_or vs k nan ⊖ one in
      record {
        weights = rw add-one (λ j. t.weights j ⊕ f j);
        weighted = rw add-one (λ j. t.weighted j ⊕ f j ⊗ d);
        reactives = rw add-one (λ j. t.reactives j ⊕ neg (e j).im ⊗ d ⊗ base);
      }

  pub ties-all : (k : ℕ) (a b c : Float) → TiesTo (correction_input n ys es vs base) i k a b c → k ≡ length es
      → (a ≡ weight_sum (correction_input n ys es vs base) i) × (b ≡ weighted_sum (correction_input n ys es vs base) i) × (c ≡ q_compensation (correction_input n ys es vs base) i)
  unfolding weight_sum weighted_sum q_compensation
  ties-all k a b c t e =
      let u = subst (λ (m : ℕ). TiesTo (correction_input n ys es vs base) i m a b c) e t in
      (u.weights, u.weighted, u.reactives)

-- the mean of the two sums is the correction
pub mean-is : (S : ExtendedStudy) (i : ℕ) (a b : Float) → a ≡ weight_sum S i → b ≡ weighted_sum S i → mean_of a b ≡ voltage_correction S i
unfolding mean_of voltage_correction
mean-is S i a b e f = λ j. cond (lt small_magnitude (e j)) (f j ⊘ e j) plus0

-- the test of the sums and their mean
module _ (S : ExtendedStudy) (i : ℕ) (a b c m : Float) (x : a ≡ weight_sum S i) (y : b ≡ weighted_sum S i) (z : c ≡ q_compensation S i) (w : m ≡ voltage_correction S i) where
  test-is : (finite a && (finite b && (finite c && finite m))) ≡ (finite (weight_sum S i) && (finite (weighted_sum S i) && (finite (q_compensation S i) && finite (voltage_correction S i))))
  test-is = λ j. finite (x j) && (finite (y j) && (finite (z j) && finite (w j)))

  pub correction-fine : (t : Bool) → t ≡ (finite a && (finite b && (finite c && finite m))) → not t ≡ false → CorrectionFinite S i
  correction-fine t e n = pick (finite (weight_sum S i)) (finite (weighted_sum S i)) (finite (q_compensation S i)) (finite (voltage_correction S i)) refl refl refl refl (sym test-is ∙ sym e ∙ not-false t n)
    where
      pick : (p q r s : Bool) → finite (weight_sum S i) ≡ p → finite (weighted_sum S i) ≡ q → finite (q_compensation S i) ≡ r → finite (voltage_correction S i) ≡ s → (p && (q && (r && s))) ≡ true → CorrectionFinite S i
      pick true true true true p q r s h = record { weights = subst T (sym p) tt; weighted = subst T (sym q) tt; correction = subst T (sym s) tt; compensation = subst T (sym r) tt }
      pick true true true false p q r s h = absurd (true≢false (sym h))
      pick true true false s' p q r s h = absurd (true≢false (sym h))
      pick true false r' s' p q r s h = absurd (true≢false (sym h))
      pick false q' r' s' p q r s h = absurd (true≢false (sym h))

  pub correction-lost : (finite a && (finite b && (finite c && finite m))) ≡ false → CorrectionFinite S i → ⊥
  correction-lost n h =
      subst T (sym test-is ∙ n)
      (and_i (finite (weight_sum S i)) _ h.weights (and_i (finite (weighted_sum S i)) _ h.weighted (and_i (finite (q_compensation S i)) (finite (voltage_correction S i)) h.compensation h.correction)))
