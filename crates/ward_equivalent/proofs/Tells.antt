-- Which numbers tell of all numbers on the way to them: an entry of the equivalent, an injection, the sums of a correction. A number that
-- is not finite stays in a sum, a difference and a product.
--     entry-tells       of an entry's products and sums
--     injection-tells   of an injection's
--     correction-tells  of a correction's
--     ratio-finite      the ratio's numbers are finite
use Rattle.prelude.proofs.Prelude.{◌≡◌, refl, sym, ap, ◌∙◌, subst, Bool, true, false, ◌&&◌, and_i, and_l, and_r, List, [], ◌∷◌, ◌++◌, ℕ, zero, suc, ◌<◌, arith, T, eqb, length, get_or, Float, binary64, neg, finite, inl, inr, eq-or-lt_of_le}
use lib.Ieee.{inf, fin, nan, of_bits}
use Rattle.binary64.specs.Values.{all_finite}
use Rattle.binary64.proofs.Operands.{add-operands, mul-operands}
use Rattle.complex.specs.{Complex, plus0, ◌⊗◌, cadd, csub, cmul, of_parts, of_product, of_sum, of_difference, of_sqmag, magnitude}
use Rattle.complex.proofs.Finite.{none, all_more, all_join, all_left, all_right, first_of, rest_of}
use Rattle.complex.proofs.Sticky.{Finite, same_test, parts_all, all-parts, sum-given, terms-given, product-finite}
use Rattle.complex.proofs.Roots.{magnitude-tells}
use Rattle.ward_equivalent.specs.Arithmetic.{sum_up, current, injected_p, injected_q}
use Rattle.ward_equivalent.specs.Ward.{Study, externals, external_at, retained, admittance, row_times, solved_column, boundary_current, solved_currents, injection_p, injection_q}
use Rattle.ward_equivalent.specs.Extended.{ExtendedStudy, add_up, deviation, boundary_tie, weight, weight_sum, weighted_sum, voltage_correction, reactive, q_compensation}
use Rattle.ward_equivalent.specs.Steps.{of_each, of_products, of_row_times, of_equivalent_entry, of_equivalent, of_currents, of_injection, of_injections, of_sums, of_ties, of_correction}
use Rattle.ward_equivalent.specs.Inner.Listed.{CorrectionFinite}
use Rattle.ward_equivalent.proofs.Sums.{each_at}

-- ---- lists

pub each-finite : (f : ℕ → List Float) (is : List ℕ) → ((t : ℕ) → t < length is → T (all_finite (f (get_or is t 0)))) → T (all_finite (of_each f is))
unfolding of_each
each-finite f [] h = none
each-finite f (i ∷ is) h = all_join (f i) (of_each f is) (h 0 (omega arith)) (each-finite f is (λ (t : ℕ) (l : t < length is). h (suc t) (omega arith)))

-- of the numbers given
pub both_finite : (xs ys : List Float) → all_finite (xs ++ ys) ≡ (all_finite xs && all_finite ys)
both_finite xs ys =
    same_test _ _ (λ (h : T (all_finite (xs ++ ys))). and_i (all_finite xs) (all_finite ys) (all_left xs ys h) (all_right xs ys h))
    (λ (h : T (all_finite xs && all_finite ys)). all_join xs ys (and_l (all_finite xs) (all_finite ys) h) (and_r (all_finite xs) (all_finite ys) h))

pub given_is : (ys : List Float) (base : Float) (ps qs : List Float) → all_finite (ys ++ (base ∷ (ps ++ qs))) ≡ (all_finite ys && (finite base && (all_finite ps && all_finite qs)))
unfolding all_finite
given_is ys base ps qs = both_finite ys (base ∷ (ps ++ qs)) ∙ ap (λ (b : Bool). all_finite ys && (finite base && b)) (both_finite ps qs)

pub lost-first : (a b : Bool) → a ≡ false → false ≡ (a && b)
lost-first a b h = sym (ap (λ (t : Bool). t && b) h)

pub lost-second : (a b : Bool) → b ≡ false → false ≡ (a && b)
lost-second true b h = sym h
lost-second false b h = refl

pub all-four : (a b c d : Bool) → a ≡ true → b ≡ true → c ≡ true → (a && (b && (c && d))) ≡ d
all-four a b c d x y z = rw (x, y, z)

-- ---- sums of products

pub products-told : (n : ℕ) (a x : ℕ → Complex) → Finite (sum_up n (λ (k : ℕ). cmul (a k) (x k))) → T (all_finite (of_products n a x))
unfolding sum_up of_products
products-told zero a x h = none
products-told (suc n) a x h =
    let sum = sum_up n (λ (k : ℕ). cmul (a k) (x k)) in
    let (before, term) = sum-given sum (cmul (a n) (x n)) h in
    all_join (of_products n a x ++ of_product (a n) (x n)) (of_sum sum (cmul (a n) (x n)))
    (all_join (of_products n a x) (of_product (a n) (x n)) (products-told n a x before) (product-finite (a n) (x n) term)) (parts_all (cadd sum (cmul (a n) (x n))) h)

neg-given : (x : Float) → T (finite (neg x)) → T (finite x)
unfolding neg
neg-given nan h = h
neg-given (inf s) h = h
neg-given (fin s m e) h = tt

-- ---- entries and injections

module _ (S : Study) (some : eqb (externals S) 0 ≡ false) where
  pub entry-tells : (i j : ℕ) → Finite (csub (admittance S i j) (row_times S i (solved_column S j))) → T (all_finite (of_equivalent_entry S i j))
  unfolding of_equivalent_entry of_row_times row_times
  entry-tells i j h =
      let (own, product) = terms-given (admittance S i j) (row_times S i (solved_column S j)) h in
      all_join (of_row_times S i (solved_column S j)) (of_difference (admittance S i j) (row_times S i (solved_column S j)))
      (products-told (externals S) (λ (k : ℕ). admittance S i (external_at S k)) (solved_column S j) product) (parts_all (csub (admittance S i j) (row_times S i (solved_column S j))) h)

  pub entry-told : (i j : ℕ) → T (all_finite (of_equivalent_entry S i j)) → Finite (csub (admittance S i j) (row_times S i (solved_column S j)))
  unfolding of_equivalent_entry
  entry-told i j h =
      all-parts (csub (admittance S i j) (row_times S i (solved_column S j))) (all_right (of_row_times S i (solved_column S j)) (of_difference (admittance S i j) (row_times S i (solved_column S j))) h)

  pub entries-tell : ((p : ℕ) → p < length (retained S) → (q : ℕ) → q < length (retained S) → let i = get_or (retained S) p 0 in let j = get_or (retained S) q 0 in Finite (csub (admittance S i j) (row_times S i (solved_column S j))))
      → T (all_finite (of_equivalent S))
  unfolding of_equivalent
  entries-tell h =
      each-finite (λ (i : ℕ). of_each (of_equivalent_entry S i) (retained S)) (retained S) λ (p : ℕ) (x : p < length (retained S)).
      each-finite (of_equivalent_entry S (get_or (retained S) p 0)) (retained S) λ (q : ℕ) (y : q < length (retained S)).
      entry-tells (get_or (retained S) p 0) (get_or (retained S) q 0) (h p x q y)

  pub entries-told : T (all_finite (of_equivalent S)) → (p : ℕ) → p < length (retained S) → (q : ℕ) → q < length (retained S)
      → let i = get_or (retained S) p 0 in let j = get_or (retained S) q 0 in Finite (csub (admittance S i j) (row_times S i (solved_column S j)))
  unfolding of_equivalent
  entries-told h p x q y =
      let i = get_or (retained S) p 0 in
      let row = each_at (λ (i : ℕ). of_each (of_equivalent_entry S i) (retained S)) (retained S) p x h in
      entry-told i (get_or (retained S) q 0) (each_at (of_equivalent_entry S i) (retained S) q y row)

  abbrev pub InjectionFinite : ℕ → Type 0
  InjectionFinite i = T (finite (injected_p S.base (boundary_current S i))) × T (finite (injected_q S.base (boundary_current S i)))

  injection-tells : (i : ℕ) → InjectionFinite i → T (all_finite (of_injection S i))
  unfolding of_injection of_row_times injection_p injection_q boundary_current row_times injected_p injected_q
  injection-tells i (p, q) =
      let c = boundary_current S i in
      let re = neg-given c.re (mul-operands binary64 (neg c.re) S.base p).0 in
      let im = (mul-operands binary64 c.im S.base q).0 in
      all_join (of_row_times S i (solved_currents S)) (injection_p S i ∷ injection_q S i ∷ [])
      (products-told (externals S) (λ (k : ℕ). admittance S i (external_at S k)) (solved_currents S) (re, im))
      (rw some (all_more _ _ p (all_more _ _ q none)))

  injection-told : (i : ℕ) → T (all_finite (of_injection S i)) → InjectionFinite i
  unfolding of_injection injection_p injection_q
  injection-told i h =
      let own : T (all_finite (injected_p S.base (boundary_current S i) ∷ injected_q S.base (boundary_current S i) ∷ [])) = rw some at (all_right (of_row_times S i (solved_currents S)) (injection_p S i ∷ injection_q S i ∷ []) h) in
      (first_of _ _ own, first_of _ _ (rest_of _ _ own))

  pub injections-tell : ((t : ℕ) → t < length S.boundary → InjectionFinite (get_or S.boundary t 0)) → T (all_finite (of_injections S))
  unfolding of_injections
  injections-tell h = each-finite (of_injection S) S.boundary λ (t : ℕ) (l : t < length S.boundary). injection-tells (get_or S.boundary t 0) (h t l)

  pub injections-told : T (all_finite (of_injections S)) → (t : ℕ) → t < length S.boundary → InjectionFinite (get_or S.boundary t 0)
  unfolding of_injections
  injections-told h t l = injection-told (get_or S.boundary t 0) (each_at (of_injection S) S.boundary t l h)

-- ---- currents

pub currents-told : (S : Study) (count : ℕ) → T (all_finite (of_currents S count)) → (k : ℕ) → k < count → Finite (current S.base (get_or S.p-ext k nan) (get_or S.q-ext k nan))
unfolding of_currents
currents-told S zero h k l = absurd (omega arith)
currents-told S (suc count) h k l =
    elim (eq-or-lt_of_le {n = k} {m = count} (omega arith)) [
      | inr m ↦ currents-told S count (all_left (of_currents S count) _ h) k m
      | inl e ↦ rw e (all-parts (current S.base (get_or S.p-ext count nan) (get_or S.q-ext count nan)) (all_right (of_currents S count) _ h))
    ]

pub currents-tell : (S : Study) (count : ℕ) → ((k : ℕ) → k < count → Finite (current S.base (get_or S.p-ext k nan) (get_or S.q-ext k nan))) → T (all_finite (of_currents S count))
unfolding of_currents
currents-tell S zero h = none
currents-tell S (suc count) h =
    all_join (of_currents S count) (of_parts (current S.base (get_or S.p-ext count nan) (get_or S.q-ext count nan)))
    (currents-tell S count (λ (k : ℕ) (l : k < count). h k (omega arith)))
    (parts_all (current S.base (get_or S.p-ext count nan) (get_or S.q-ext count nan)) (h count (omega arith)))

-- ---- corrections

plus0-finite : T (finite plus0)
unfolding plus0 of_bits
plus0-finite = tt

-- a sum tells of its terms and of the sums before
sums-tell : (n : ℕ) (f : ℕ → Float) → T (finite (add_up n f)) → T (all_finite (of_sums n f))
unfolding add_up of_sums
sums-tell zero f h = none
sums-tell (suc n) f h =
    all_join (of_sums n f) (add_up (suc n) f ∷ []) (sums-tell n f (add-operands binary64 (add_up n f) (f n) h).0) (all_more _ _ h none)

terms-told : (n : ℕ) (f : ℕ → Float) → T (finite (add_up n f)) → (k : ℕ) → k < n → T (finite (f k))
unfolding add_up
terms-told zero f h k l = absurd (omega arith)
terms-told (suc n) f h k l =
    let (before, last) = add-operands binary64 (add_up n f) (f n) h in
    elim (eq-or-lt_of_le {n = k} {m = n} (omega arith)) [
      | inr m ↦ terms-told n f before k m
      | inl e ↦ rw e last
    ]

sums-told : (n : ℕ) (f : ℕ → Float) → T (all_finite (of_sums n f)) → T (finite (add_up n f))
unfolding add_up of_sums
sums-told zero f h = plus0-finite
sums-told (suc n) f h = first_of (add_up (suc n) f) [] (all_right (of_sums n f) (add_up (suc n) f ∷ []) h)

module _ (X : ExtendedStudy) (i : ℕ) where
  tie-finite : (k : ℕ) → T (finite (weight X i k)) → T (finite (weight X i k ⊗ deviation X k)) → T (finite (reactive X.study.base (boundary_tie X i k) (deviation X k)))
      → T (all_finite (of_sqmag (boundary_tie X i k)
      ++ (weight X i k ∷ deviation X k ∷ weight X i k ⊗ deviation X k ∷ neg (boundary_tie X i k).im ⊗ deviation X k ∷ reactive X.study.base (boundary_tie X i k) (deviation X k) ∷ [])))
  unfolding weight reactive
  tie-finite k w d r =
      let g = boundary_tie X i k in
      let squares : T (all_finite (of_sqmag g)) = all_left (of_sqmag g) (magnitude g ∷ []) (subst T (magnitude-tells g) w) in
      all_join (of_sqmag g) _ squares
      (all_more _ _ w (all_more _ _ (mul-operands binary64 (weight X i k) (deviation X k) d).1 (all_more _ _ d (all_more _ _ (mul-operands binary64 (neg g.im ⊗ deviation X k) X.study.base r).0 (all_more _ _ r none)))))

  ties-finite : (count : ℕ) → ((k : ℕ) → k < count → T (finite (weight X i k)) × T (finite (weight X i k ⊗ deviation X k)) × T (finite (reactive X.study.base (boundary_tie X i k) (deviation X k))))
      → T (all_finite (of_ties X i count))
  unfolding of_ties
  ties-finite zero h = none
  ties-finite (suc count) h =
      let (w, d, r) = h count (omega arith) in
      let own = tie-finite count w d r in
      let terms = weight X i count ∷ deviation X count ∷ weight X i count ⊗ deviation X count ∷ neg (boundary_tie X i count).im ⊗ deviation X count ∷ reactive X.study.base (boundary_tie X i count) (deviation X count) ∷ [] in
      all_join (of_ties X i count ++ of_sqmag (boundary_tie X i count)) terms
      (all_join (of_ties X i count) (of_sqmag (boundary_tie X i count)) (ties-finite count (λ (k : ℕ) (l : k < count). h k (omega arith))) (all_left (of_sqmag (boundary_tie X i count)) terms own))
      (all_right (of_sqmag (boundary_tie X i count)) terms own)

  pub correction-tells : CorrectionFinite X i → T (all_finite (of_correction X i))
  unfolding of_correction weight_sum weighted_sum q_compensation
  correction-tells h =
      let e = externals X.study in
      let weighted : ℕ → Float = λ (k : ℕ). weight X i k ⊗ deviation X k in
      let powers : ℕ → Float = λ (k : ℕ). reactive X.study.base (boundary_tie X i k) (deviation X k) in
      let ties = ties-finite e (λ (k : ℕ) (l : k < e). (terms-told e (weight X i) h.weights k l, terms-told e weighted h.weighted k l, terms-told e powers h.compensation k l)) in
      all_join (of_ties X i e ++ of_sums e weighted ++ of_sums e powers ++ of_sums e (weight X i)) (voltage_correction X i ∷ [])
      (all_join (of_ties X i e ++ of_sums e weighted ++ of_sums e powers) (of_sums e (weight X i))
      (all_join (of_ties X i e ++ of_sums e weighted) (of_sums e powers)
      (all_join (of_ties X i e) (of_sums e weighted) ties (sums-tell e weighted h.weighted)) (sums-tell e powers h.compensation)) (sums-tell e (weight X i) h.weights))
      (all_more _ _ h.correction none)

  pub correction-told : T (all_finite (of_correction X i)) → CorrectionFinite X i
  unfolding of_correction weight_sum weighted_sum q_compensation
  correction-told h =
      let e = externals X.study in
      let weighted : ℕ → Float = λ (k : ℕ). weight X i k ⊗ deviation X k in
      let powers : ℕ → Float = λ (k : ℕ). reactive X.study.base (boundary_tie X i k) (deviation X k) in
      let last = voltage_correction X i ∷ [] in
      let h4 = all_left (of_ties X i e ++ of_sums e weighted ++ of_sums e powers ++ of_sums e (weight X i)) last h in
      let h3 = all_left (of_ties X i e ++ of_sums e weighted ++ of_sums e powers) (of_sums e (weight X i)) h4 in
      let h2 = all_left (of_ties X i e ++ of_sums e weighted) (of_sums e powers) h3 in
      record {
        weights = sums-told e (weight X i) (all_right (of_ties X i e ++ of_sums e weighted ++ of_sums e powers) (of_sums e (weight X i)) h4);
        weighted = sums-told e weighted (all_right (of_ties X i e) (of_sums e weighted) h2);
        correction = first_of _ _ (all_right (of_ties X i e ++ of_sums e weighted ++ of_sums e powers ++ of_sums e (weight X i)) last h);
        compensation = sums-told e powers (all_right (of_ties X i e ++ of_sums e weighted) (of_sums e powers) h3);
      }

pub corrections-tell : (X : ExtendedStudy) → ((t : ℕ) → t < length X.study.boundary → CorrectionFinite X (get_or X.study.boundary t 0)) → T (all_finite (of_each (of_correction X) X.study.boundary))
corrections-tell X h = each-finite (of_correction X) X.study.boundary λ (t : ℕ) (l : t < length X.study.boundary). correction-tells X (get_or X.study.boundary t 0) (h t l)

pub corrections-told : (X : ExtendedStudy) → T (all_finite (of_each (of_correction X) X.study.boundary)) → (t : ℕ) → t < length X.study.boundary → CorrectionFinite X (get_or X.study.boundary t 0)
corrections-told X h t l = correction-told X (get_or X.study.boundary t 0) (each_at (of_correction X) X.study.boundary t l h)
