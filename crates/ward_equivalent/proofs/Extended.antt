-- An extended study on rows: Ward's own answer and slices, and the corrections where it is accepted.
use Rattle.prelude.proofs.Prelude.{◌≡◌, refl, sym, ap, ◌∙◌, subst, Bool, true, false, cond, List, ◌++◌, ℕ, zero, suc, ◌-◌, ◌<◌, arith, T, get_or, eqb, is_true, length, take, drop, Float, map, sub-zero}
use lib.Dec.{eqb-suc-zero}
use Rattle.binary64.specs.Values.{all_finite}
use Rattle.complex.specs.{zeros}
use Rattle.lists.proofs.Chains.{rest-is}
use Rattle.ward_equivalent.specs.declared.answers.WardSummary.{WardSummary}
use Rattle.std.proofs.Common.{Result, Ok, Err}
use Rattle.refusals.specs.declared.Refusal.{Refusal}
use Rattle.refusals.specs.Refusals.{refusal, answered}
use Rattle.refusals.proofs.Answering.{accepted}
use Rattle.ward_equivalent.specs.Ward.{Outputs, admittance}
use Rattle.ward_equivalent.specs.Studied.{summary, AfterWard, studied}
use Rattle.ward_equivalent.specs.Extended.{ExtendedStudy, ExtendedOutputs, deviation, weight, weight_sum, weighted_sum, voltage_correction, q_compensation}
use Rattle.ward_equivalent.specs.Studied.{outputs_after, work_after, extended_outputs_after, studied_extended}
use Rattle.refusals.specs.declared.Allowance.TheVariants.{Rows}
use Rattle.refusals.specs.Work.{computing, reductions, meets, granted, work_refusal, then_work}
use Rattle.refusals.proofs.Work.{meets-after, meets-first, numbers-met}
use Rattle.ward_equivalent.specs.Steps.{of_each, of_correction, steps_of, steps_of_extended}
use Rattle.ward_equivalent.specs.Calls.{outputs_of, after_ward, after_extended}
use Rattle.ward_equivalent.specs.Inner.Listed.{cut, correction_input, extended_of, uncorrected_answer, CorrectionFinite}
use Rattle.ward_equivalent.proofs.Tells.{corrections-tell, corrections-told}

-- ---- what an answer says of the refusal

refused-some : (k : ℕ) (r : Refusal) (s : WardSummary) → Err r ≡ answered s k → eqb k 0 ≡ false
unfolding answered
refused-some zero r s e = absurd (cc)
refused-some (suc k) r s e = eqb-suc-zero k

-- ---- the slices together

pub same-extended : {r r' : Result WardSummary Refusal} {o o' : Outputs} {cs cs' ks ks' : List Float} → r ≡ r' → o ≡ o' → cs ≡ cs' → ks ≡ ks' → after_extended r o cs ks ≡ after_extended r' o' cs' ks'
same-extended a b c d = λ i. record { answer = a i; outputs = record { outputs = b i; correction = c i; compensation = d i } }

-- the numbers of the corrections
abbrev pub correction_numbers : ExtendedStudy → List Float
correction_numbers X = of_each (of_correction X) X.study.boundary

-- finite, they meet nothing
same_met : (X : ExtendedStudy) (m : ℕ) → T (all_finite (of_each (of_correction X) X.study.boundary)) → meets m (steps_of_extended X) ≡ meets m (steps_of X.study)
unfolding steps_of_extended
same_met X m fine = pick (meets m (steps_of X.study)) refl
  where
    pick : (k : ℕ) → meets m (steps_of X.study) ≡ k → meets m (steps_of X.study ++ computing (correction_numbers X)) ≡ meets m (steps_of X.study)
    pick zero e =
        meets-after m (steps_of X.study) (computing (correction_numbers X)) e
        ∙ numbers-met (m - reductions (steps_of X.study)) (correction_numbers X) ∙ ap (λ (b : Bool). cond b 0 20) (is_true (all_finite (correction_numbers X)) fine) ∙ sym e
    pick (suc k) e = meets-first m (steps_of X.study) (computing (correction_numbers X)) (λ (z : meets m (steps_of X.study) ≡ 0). let n = sym e ∙ z in omega arith)

-- else they meet 20, behind the study's own refusal
lost-met : (X : ExtendedStudy) (m : ℕ) → all_finite (of_each (of_correction X) X.study.boundary) ≡ false → (k : ℕ) → meets m (steps_of X.study) ≡ k
    → ((j : ℕ) × (meets m (steps_of_extended X) ≡ suc j) × (uncorrected_answer k ≡ refusal (suc j)))
unfolding steps_of_extended uncorrected_answer
lost-met X m lost zero e = (
  19,
  meets-after m (steps_of X.study) (computing (correction_numbers X)) e
      ∙ numbers-met (m - reductions (steps_of X.study)) (correction_numbers X) ∙ ap (λ (b : Bool). cond b 0 20) lost,
  refl,
)
lost-met X m lost (suc k) e =
    (k, meets-first m (steps_of X.study) (computing (correction_numbers X)) (λ (z : meets m (steps_of X.study) ≡ 0). let n = sym e ∙ z in omega arith) ∙ e, refl)

module _ (X : ExtendedStudy) (m : ℕ) (o : ExtendedOutputs) where
  pub extended-lost : all_finite (of_each (of_correction X) X.study.boundary) ≡ false
      → after_extended (Err (uncorrected_answer (meets m (steps_of X.study)))) (outputs_of o.outputs.y-ward o.outputs.p-ward o.outputs.q-ward (zeros (length o.outputs.work))) o.correction o.compensation ≡ studied_extended X (Rows m) o 0
  unfolding studied_extended then_work work_refusal granted answered extended_outputs_after outputs_after work_after
  extended-lost lost = let (j, met, answer) = lost-met X m lost (meets m (steps_of X.study)) refl in simp (answer, met, eqb-suc-zero)

module _ (X : ExtendedStudy) (m : ℕ) (o : ExtendedOutputs) (fine : T (all_finite (of_each (of_correction X) X.study.boundary))) {r : Result WardSummary Refusal} {yw pw qw ws : List Float}
    (e : after_ward r yw pw qw ws ≡ studied X.study (Rows m) o.outputs 0) where
  -- the study's number, which is the call's
  number : ℕ
  number = then_work 0 (Rows m) (steps_of X.study)

  same_number : then_work 0 (Rows m) (steps_of_extended X) ≡ number
  unfolding then_work work_refusal granted number
  same_number = same_met X m fine

  answer-is : r ≡ answered (summary X.study) number
  unfolding studied number
  answer-is = ap (λ (a : AfterWard). a.answer) e

  -- with its own slices and the corrections
  whole : {cs ks : List Float} → cs ≡ cond (eqb number 0) (map (voltage_correction X) X.study.boundary) o.correction
      → ks ≡ cond (eqb number 0) (map (q_compensation X) X.study.boundary) o.compensation → after_extended r (outputs_of yw pw qw ws) cs ks ≡ studied_extended X (Rows m) o 0
  unfolding studied studied_extended extended_outputs_after number
  whole c k =
      same-extended answer-is (ap (λ (a : AfterWard). a.outputs) e) c k
      ∙ ap (λ (n : ℕ). record { answer = answered (summary X.study) n; outputs = extended_outputs_after X 0 n o }) (sym same_number)

  -- accepted: the corrections of the boundary buses stand in their slices
  pub extended-done : {cs ks : List Float} (s : WardSummary) → r ≡ Ok s → cs ≡ map (voltage_correction X) X.study.boundary → ks ≡ map (q_compensation X) X.study.boundary
      → after_extended (Ok s) (outputs_of yw pw qw ws) cs ks ≡ studied_extended X (Rows m) o 0
  extended-done {cs} {ks} s d c k =
      let z : number ≡ 0 = (accepted (tt {0}) (summary X.study) number s (sym d ∙ answer-is)).0 in
      ap (λ (a : Result WardSummary Refusal). after_extended a (outputs_of yw pw qw ws) cs ks) (sym d)
      ∙ whole (c ∙ ap (λ (n : ℕ). cond (eqb n 0) (map (voltage_correction X) X.study.boundary) o.correction) (sym z))
      (k ∙ ap (λ (n : ℕ). cond (eqb n 0) (map (q_compensation X) X.study.boundary) o.compensation) (sym z))

  -- refused: they are as they were
  pub extended-not : (j : Refusal) → r ≡ Err j → after_extended r (outputs_of yw pw qw ws) o.correction o.compensation ≡ studied_extended X (Rows m) o 0
  extended-not j d =
      let z : eqb number 0 ≡ false = refused-some number j (summary X.study) (sym d ∙ answer-is) in
      whole (ap (λ (b : Bool). cond b (map (voltage_correction X) X.study.boundary) o.correction) (sym z))
      (ap (λ (b : Bool). cond b (map (q_compensation X) X.study.boundary) o.compensation) (sym z))

-- ---- the formulas read the matrix, the external buses, their voltages and the base

module _ (n : ℕ) (ys : List Float) (rows : List ℕ) (e f : ℕ) (base : Float) (ps qs vs : List Float) where
  pub corrections-seen : map (voltage_correction (correction_input n ys (take (e - 0) rows) vs base)) (take (length rows - f) (drop f rows)) ≡ map (voltage_correction (extended_of (cut n ys rows e f base ps qs) vs)) (drop f rows)
  unfolding voltage_correction weight_sum weighted_sum weight deviation admittance
  corrections-seen = ap (λ (m : ℕ). map (voltage_correction (correction_input n ys (take m rows) vs base)) (take (length rows - f) (drop f rows))) (sub-zero e) ∙ ap (map (voltage_correction (correction_input n ys (take e rows) vs base))) (rest-is rows f)

  pub compensations-seen : map (q_compensation (correction_input n ys (take (e - 0) rows) vs base)) (take (length rows - f) (drop f rows)) ≡ map (q_compensation (extended_of (cut n ys rows e f base ps qs) vs)) (drop f rows)
  unfolding q_compensation deviation admittance
  compensations-seen = ap (λ (m : ℕ). map (q_compensation (correction_input n ys (take m rows) vs base)) (take (length rows - f) (drop f rows))) (sub-zero e) ∙ ap (map (q_compensation (correction_input n ys (take e rows) vs base))) (rest-is rows f)

  -- the sums that are tested
  abbrev tested : List ℕ
  tested = take (length rows - f) (drop f rows)

  abbrev whole-study : ExtendedStudy
  whole-study = extended_of (cut n ys rows e f base ps qs) vs

  to-study : (i : ℕ) → CorrectionFinite (correction_input n ys (take (e - 0) rows) vs base) i → CorrectionFinite whole-study i
  unfolding voltage_correction weight_sum weighted_sum weight deviation q_compensation admittance
  to-study i h =
      let k = subst (λ (m : ℕ). CorrectionFinite (correction_input n ys (take m rows) vs base) i) (sub-zero e) h in
      record { weights = k.weights; weighted = k.weighted; correction = k.correction; compensation = k.compensation }

  from-study : (i : ℕ) → CorrectionFinite whole-study i → CorrectionFinite (correction_input n ys (take (e - 0) rows) vs base) i
  unfolding voltage_correction weight_sum weighted_sum weight deviation q_compensation admittance
  from-study i h =
      subst (λ (m : ℕ). CorrectionFinite (correction_input n ys (take m rows) vs base) i) (sym (sub-zero e))
      (record { weights = h.weights; weighted = h.weighted; correction = h.correction; compensation = h.compensation })

  pub corrections-fine : ((t : ℕ) → t < length (take (length rows - f) (drop f rows)) → CorrectionFinite (correction_input n ys (take (e - 0) rows) vs base) (get_or (take (length rows - f) (drop f rows)) t 0))
      → T (all_finite (of_each (of_correction (extended_of (cut n ys rows e f base ps qs) vs)) (drop f rows)))
  corrections-fine h =
      corrections-tell whole-study
      (subst (λ (l : List ℕ). (t : ℕ) → t < length l → CorrectionFinite whole-study (get_or l t 0)) (rest-is rows f) λ (t : ℕ) (l : t < length tested). to-study (get_or tested t 0) (h t l))

  pub corrections-not : (((t : ℕ) → t < length (take (length rows - f) (drop f rows)) → CorrectionFinite (correction_input n ys (take (e - 0) rows) vs base) (get_or (take (length rows - f) (drop f rows)) t 0)) → ⊥)
      → all_finite (of_each (of_correction (extended_of (cut n ys rows e f base ps qs) vs)) (drop f rows)) ≡ false
  corrections-not h = pick (all_finite (of_each (of_correction whole-study) (drop f rows))) refl
    where
      pick : (b : Bool) → all_finite (of_each (of_correction whole-study) (drop f rows)) ≡ b → b ≡ false
      pick false q = refl
      pick true q =
          absurd (h λ (t : ℕ) (l : t < length tested). from-study (get_or tested t 0)
          (subst (λ (k : List ℕ). (t : ℕ) → t < length k → CorrectionFinite whole-study (get_or k t 0)) (sym (rest-is rows f)) (corrections-told whole-study (subst T (sym q) tt)) t l))
