-- What an accepted study writes is finite, and what is accepted.
use Rattle.prelude.proofs.Prelude.{◌≡◌, refl, sym, ap, ◌∙◌, subst, Bool, true, false, not, cond, List, [], ◌∷◌, ◌++◌, ℕ, suc, ◌<◌, arith, T, eqb, ltb, is_true, and_r, length, get_or, map, Float, finite, eq-eqb, le-ltb, of_bits}
use Rattle.binary64.specs.Values.{all_finite}
use Rattle.complex.specs.{plus0, csub, zeros}
use Rattle.complex.proofs.Finite.{none, all_more, all_left}
use Rattle.complex.proofs.Sticky.{Finite}
use Rattle.complex.proofs.FiniteEntries.{Each, rows-finite, slice-entries}
use Rattle.refusals.specs.declared.Allowance.{Allowance}
use Rattle.refusals.specs.declared.Allowance.TheVariants.{Unlimited, Rows}
use Rattle.refusals.specs.Work.{Step, reductions, meets, granted, work_refusal, then_work, ◌no_more_than◌}
use Rattle.ward_equivalent.proofs.Named.{given-all}
use Rattle.lists.specs.Buses.{all_below}
use Rattle.lists.proofs.Buses.{below_all, get_or-in}
use Rattle.ward_equivalent.specs.Ward.{Study, Outputs, given_of, externals, retained, listed, admittance, equivalent, row_times, solved_column, boundary_current, injection_p, injection_q, ratio}
use Rattle.ward_equivalent.specs.Arithmetic.{injected_p, injected_q}
use Rattle.ward_equivalent.specs.Extended.{ExtendedOutputs, voltage_correction, q_compensation}
use Rattle.ward_equivalent.specs.Steps.{steps_of, of_study, steps_of_extended, of_extended}
use Rattle.ward_equivalent.specs.Studied.{accepted_outputs, summary}
use Rattle.ward_equivalent.specs.Numbers.{NumberedStudy, NumberedExtended, in_rows, extended_in_rows, ward_shape_refusal, ward_refusal, extended_shape_refusal, extended_refusal, AcceptedStudy, AcceptedExtended, after_compute, after_compute_extended}
use Rattle.ward_equivalent.specs.FiniteAnswers.{FiniteOutputs, Regular, FiniteStudies}
use Rattle.ward_equivalent.proofs.Laws.{Sound, sound, sound_x, left-accepted, left-accepted_x, correction-accepted, compensation-accepted, given-finite, computed-finite, given-finite_x, computed-finite_x}
use Rattle.ward_equivalent.proofs.Steps.{singular_study, entries-computed, injections-computed, ratio-computed, study-computed, corrections-computed}
use Rattle.ward_equivalent.proofs.Meeting.{study-regular, extended-regular}
use Rattle.ward_equivalent.proofs.Allowances.{extended-count}
use Rattle.ward_equivalent.proofs.Tells.{entries-told, injections-told, corrections-told}

-- ---- lists

each_of : (P : ℕ → Type 0) (is : List ℕ) → ((t : ℕ) → t < length is → P (get_or is t 0)) → Each P is
each_of P [] h = tt
each_of P (i ∷ is) h = (h 0 (omega arith), each_of P is (λ (t : ℕ) (l : t < length is). h (suc t) (omega arith)))

map-finite : (f : ℕ → Float) (is : List ℕ) → ((t : ℕ) → t < length is → T (finite (f (get_or is t 0)))) → T (all_finite (map f is))
map-finite f [] h = none
map-finite f (i ∷ is) h = all_more (f i) (map f is) (h 0 (omega arith)) (map-finite f is (λ (t : ℕ) (l : t < length is). h (suc t) (omega arith)))

below_right : (n : ℕ) (is js : List ℕ) → T (all_below n (is ++ js)) → T (all_below n js)
below_right n [] js h = h
below_right n (i ∷ is) js h = below_right n is js (and_r (ltb i n) (all_below n (is ++ js)) h)

plus0-finite : T (finite plus0)
unfolding plus0 of_bits
plus0-finite = tt

-- ---- a study

module _ (S : Study) (right : Sound S) (given : T (all_finite S.given)) (computed : T (all_finite (of_study S))) where
  kept-below : (p : ℕ) → p < length (retained S) → get_or (retained S) p 0 < S.size
  unfolding listed
  kept-below p l = below_all S.size (retained S) (below_right S.size S.external (retained S) right.below) (get_or (retained S) p 0) (get_or-in (retained S) p l)

  entry-finite : (p : ℕ) → p < length (retained S) → (q : ℕ) → q < length (retained S) → Finite (equivalent S (get_or (retained S) p 0) (get_or (retained S) q 0))
  unfolding equivalent admittance
  entry-finite p x q y = pick (eqb (externals S) 0) refl
    where
      pick : (b : Bool) → eqb (externals S) 0 ≡ b → let i = get_or (retained S) p 0 in let j = get_or (retained S) q 0 in Finite (cond b (admittance S i j) (csub (admittance S i j) (row_times S i (solved_column S j))))
      pick true e = slice-entries S.size S.size S.given right.given given (get_or (retained S) p 0) (get_or (retained S) q 0) (kept-below p x) (kept-below q y)
      pick false e = entries-told S e (entries-computed S e computed) p x q y

  active-finite : (t : ℕ) → t < length S.boundary → T (finite (injection_p S (get_or S.boundary t 0))) × T (finite (injection_q S (get_or S.boundary t 0)))
  unfolding injection_p injection_q
  active-finite t l = pick (eqb (externals S) 0) refl
    where
      pick : (b : Bool) → eqb (externals S) 0 ≡ b → let i = get_or S.boundary t 0 in
          T (finite (cond b plus0 (injected_p S.base (boundary_current S i)))) × T (finite (cond b plus0 (injected_q S.base (boundary_current S i))))
      pick true e = (plus0-finite, plus0-finite)
      pick false e = injections-told S e (injections-computed S e computed) t l

  written : (ws : List Float) → FiniteOutputs (accepted_outputs S ws)
  unfolding accepted_outputs
  written ws = record {
    y-ward = rows-finite (equivalent S) (retained S) (retained S) (each_of _ (retained S) λ (p : ℕ) (x : p < length (retained S)). each_of _ (retained S) λ (q : ℕ) (y : q < length (retained S)). entry-finite p x q y);
    p-ward = map-finite (injection_p S) S.boundary λ (t : ℕ) (l : t < length S.boundary). (active-finite t l).0;
    q-ward = map-finite (injection_q S) S.boundary λ (t : ℕ) (l : t < length S.boundary). (active-finite t l).1;
  }

  share-finite : T (finite (summary S).reduction_ratio)
  unfolding summary
  share-finite = pick (eqb (externals S) 0) refl
    where
      pick : (b : Bool) → eqb (externals S) 0 ≡ b → T (finite (cond b plus0 (ratio (length (retained S)) S.size)))
      pick true e = plus0-finite
      pick false e = ratio-computed S e computed

pub matrix-given : (S : Study) → T (all_finite (given_of S)) → T (all_finite S.given)
unfolding given_of
matrix-given S h = all_left S.given (S.base ∷ (S.p-ext ++ S.q-ext)) h

outputs-finite : (N : NumberedStudy) (a : Allowance) (o : Outputs) → AcceptedStudy N a o → FiniteOutputs (after_compute N a o).outputs
outputs-finite N a o h =
    subst FiniteOutputs (sym (left-accepted N a o h)) (written (in_rows N) (sound N a o h) (matrix-given (in_rows N) (given-finite N a o h)) (computed-finite N a o h) (zeros (length o.work)))

ratio-finite : (N : NumberedStudy) (a : Allowance) (o : Outputs) → AcceptedStudy N a o → T (finite (summary (in_rows N)).reduction_ratio)
ratio-finite N a o h = share-finite (in_rows N) (sound N a o h) (matrix-given (in_rows N) (given-finite N a o h)) (computed-finite N a o h)

outputs-finite-extended : (X : NumberedExtended) (a : Allowance) (o : ExtendedOutputs) → AcceptedExtended X a o
    → FiniteOutputs (after_compute_extended X a o).outputs.outputs × T (all_finite (after_compute_extended X a o).outputs.correction) × T (all_finite (after_compute_extended X a o).outputs.compensation)
unfolding extended_in_rows
outputs-finite-extended X a o h =
    let E = extended_in_rows X in let S = in_rows X.study in
    let computed = computed-finite_x X a o h in
    let told = corrections-told E (corrections-computed E computed) in (
      subst FiniteOutputs (sym (left-accepted_x X a o h))
          (written S (sound_x X a o h) (matrix-given S (all_left (given_of S) X.v-ext (given-finite_x X a o h))) (study-computed E computed) (zeros (length o.outputs.work))),
      subst (λ (l : List Float). T (all_finite l)) (sym (correction-accepted X a o h)) (map-finite (voltage_correction E) S.boundary λ (t : ℕ) (l : t < length S.boundary). (told t l).correction),
      subst (λ (l : List Float). T (all_finite l)) (sym (compensation-accepted X a o h)) (map-finite (q_compensation E) S.boundary λ (t : ℕ) (l : t < length S.boundary). (told t l).compensation),
    )

ratio-finite-extended : (X : NumberedExtended) (a : Allowance) (o : ExtendedOutputs) → AcceptedExtended X a o → T (finite (summary (in_rows X.study)).reduction_ratio)
unfolding extended_in_rows
ratio-finite-extended X a o h =
    let S = in_rows X.study in
    share-finite S (sound_x X a o h) (matrix-given S (all_left (given_of S) X.v-ext (given-finite_x X a o h))) (study-computed (extended_in_rows X) (computed-finite_x X a o h))

-- ---- what is accepted

enough : (a : Allowance) (es : List Step) → ((m : ℕ) → meets m es ≡ cond (ltb m (reductions es)) 18 0) → Rows (reductions es) no_more_than a → work_refusal a es ≡ 0
unfolding work_refusal granted ◌no_more_than◌
enough Unlimited es h k = h (reductions es) ∙ ap (λ (b : Bool). cond b 18 0) (le-ltb (reductions es) (reductions es) (omega arith))
enough (Rows m) es h k = h m ∙ ap (λ (b : Bool). cond b 18 0) (le-ltb m (reductions es) k)

passes : (told : ℕ) (a : Allowance) (es : List Step) → told ≡ 0 → work_refusal a es ≡ 0 → T (eqb (then_work told a es) 0)
unfolding then_work
passes told a es t w = subst T (sym (eq-eqb (cond (eqb told 0) (work_refusal a es) told) 0 (rw (t, w)))) tt

regular-is : (S : Study) → Regular S → singular_study S ≡ false
unfolding Regular
regular-is S h = pick (singular_study S) h
  where
    pick : (b : Bool) → T (not b) → b ≡ false
    pick true t = absurd t
    pick false t = refl

accepted : (N : NumberedStudy) (a : Allowance) (o : Outputs) → ward_shape_refusal N o ≡ 0 → T (all_finite (given_of (in_rows N))) → T (all_finite (of_study (in_rows N))) → Regular (in_rows N)
    → Rows (reductions (steps_of (in_rows N))) no_more_than a → AcceptedStudy N a o
unfolding ward_refusal in_rows given_of
accepted N a o shape given computed regular much =
    passes (ward_refusal N o) a (steps_of (in_rows N)) (sym (given-all (ward_shape_refusal N o) (given_of N.study) (sym shape) (is_true (all_finite (given_of N.study)) given)))
    (enough a (steps_of (in_rows N)) (study-regular (in_rows N) computed (regular-is (in_rows N) regular)) much)

accepted-extended : (X : NumberedExtended) (a : Allowance) (o : ExtendedOutputs) → extended_shape_refusal X o ≡ 0 → T (all_finite (given_of (in_rows X.study) ++ X.v-ext)) → T (all_finite (of_extended (extended_in_rows X)))
    → Regular (in_rows X.study) → Rows (reductions (steps_of (in_rows X.study))) no_more_than a → AcceptedExtended X a o
unfolding extended_refusal extended_in_rows in_rows given_of
accepted-extended X a o shape given computed regular much =
    let E = extended_in_rows X in
    passes (extended_refusal X o) a (steps_of_extended E) (sym (given-all (extended_shape_refusal X o) (given_of X.study.study ++ X.v-ext) (sym shape) (is_true (all_finite (given_of X.study.study ++ X.v-ext)) given)))
    (enough a (steps_of_extended E) (extended-regular E computed (regular-is E.study regular)) (subst (λ (k : ℕ). Rows k no_more_than a) (sym (extended-count E)) much))

pub finite-studies : FiniteStudies
finite-studies = record {
  outputs-finite = outputs-finite;
  ratio-finite = ratio-finite;
  accepted = accepted;
  outputs-finite-extended = outputs-finite-extended;
  ratio-finite-extended = ratio-finite-extended;
  accepted-extended = accepted-extended;
}
