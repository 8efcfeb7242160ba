-- What a study counts and meets under an allowance.
use Rattle.prelude.proofs.Prelude.{◌≡◌, refl, sym, ap, ◌∙◌, Bool, true, false, not, cond, List, ◌++◌, ℕ, zero, suc, ◌+◌, ◌-◌, ◌*◌, ◌≤◌, arith, T, eqb, ltb, length, length-append, mul-le-mul, Float}
use lib.Dec.{eqb-suc-zero}
use Rattle.refusals.specs.declared.Allowance.{Allowance}
use Rattle.refusals.specs.declared.Allowance.TheVariants.{Unlimited, Rows}
use Rattle.refusals.specs.Work.{Step, computing, reductions, meets, granted, work_refusal, then_work, ◌no_more_than◌, allowed_rows}
use Rattle.binary64.specs.Values.{all_finite}
use Rattle.refusals.specs.Refusals.{answered, number_of, then_given}
use Rattle.refusals.proofs.Answering.{then-none, accepted, Told, told-given, number_of-answered}
use Rattle.refusals.proofs.Work.{told-work, meets-after, meets-first, numbers-met, meets-within, larger-work, from-count, unlimited-met, allowed-met, count-both, none-counted}
use Rattle.lists.specs.Buses.{rows_in}
use Rattle.lists.proofs.Lookups.{length-rows_in}
use Rattle.ward_equivalent.specs.declared.answers.WardSummary.{WardSummary}
use Rattle.std.proofs.Common.{Result, Ok, Err}
use Rattle.refusals.specs.declared.Refusal.{Refusal}
use Rattle.refusals.specs.declared.Refusal.TheVariants.{BeyondAllowance}
use Rattle.ward_equivalent.specs.Ward.{Study, Outputs, given_of, externals, retained, listed}
use Rattle.ward_equivalent.specs.Extended.{ExtendedStudy, ExtendedOutputs}
use Rattle.ward_equivalent.specs.Steps.{of_each, of_correction, steps_of, steps_of_extended}
use Rattle.ward_equivalent.specs.Studied.{summary, outputs_after, AfterWard, studied, extended_outputs_after, AfterExtended, studied_extended}
use Rattle.ward_equivalent.specs.Numbers.{NumberedStudy, NumberedExtended, lengths_of, extended_lengths_of, in_rows, extended_in_rows, bus_refusal, ward_shape_refusal, ward_refusal, extended_shape_refusal, extended_refusal, after_compute, after_compute_extended}
use Rattle.ward_equivalent.specs.Allowances.{most_rows, StudyAllowances}
use Rattle.ward_equivalent.proofs.Told.{Fitting, told-most}
use Rattle.ward_equivalent.proofs.Named.{bus-most, told-lengths, told-buses}
use Rattle.ward_equivalent.proofs.Steps.{rows_of_solve, singular_study, study-count, study-bound}
use Rattle.ward_equivalent.proofs.Meeting.{study-met}
use Rattle.ward_equivalent.proofs.Extended.{correction_numbers}

-- ---- the bound, of rows and of numbers

pub rows-most : (N : NumberedStudy) → most_rows (in_rows N) ≡ most_rows N.study
unfolding most_rows in_rows retained
rows-most N =
    let ns = N.numbers in let S = N.study in
    let e = length-rows_in ns S.external in
    let r : length (rows_in ns S.internal ++ rows_in ns S.boundary) ≡ length (S.internal ++ S.boundary)
    = length-append (rows_in ns S.internal) (rows_in ns S.boundary) ∙ ap (λ (k : ℕ). k + length (rows_in ns S.boundary)) (length-rows_in ns S.internal)
    ∙ ap (λ (k : ℕ). length S.internal + k) (length-rows_in ns S.boundary) ∙ sym (length-append S.internal S.boundary) in
    ap (λ (k : ℕ). (k + 1) * (length (rows_in ns S.external) * (length (rows_in ns S.external) - 1))) r
    ∙ ap (λ (k : ℕ). (length (S.internal ++ S.boundary) + 1) * (k * (k - 1))) e

pub count_most : (N : NumberedStudy) → reductions (steps_of (in_rows N)) ≤ most_rows N.study
count_most N = let most = study-bound (in_rows N) in let same = rows-most N in omega arith

-- the corrections reduce no row
pub extended-count : (X : ExtendedStudy) → reductions (steps_of_extended X) ≡ reductions (steps_of X.study)
unfolding steps_of_extended
extended-count X =
    let xs = of_each (of_correction X) X.study.boundary in
    let both = count-both (steps_of X.study) _ in
    let none = none-counted xs in
    both ∙ ap (λ (k : ℕ). reductions (steps_of X.study) + k) none ∙ omega arith

-- within the limit a count fits
few-rows : (N : NumberedStudy) (o : Outputs) → Fitting (lengths_of N o) → reductions (steps_of (in_rows N)) ≤ 0xffff_ffff_ffff_ffff
unfolding most_rows retained
few-rows N o F =
    let most = count_most N in
    let f = F.few in
    let S = N.study in
    let e : externals S ≤ 256 = f.external in
    let d : externals S - 1 ≤ 256 = omega arith in
    let square : externals S * (externals S - 1) ≤ 65536 = mul-le-mul e d in
    let join = length-append S.internal S.boundary in
    let r : length (S.internal ++ S.boundary) + 1 ≤ 513 = omega (arith, f.internal, f.boundary) in
    let all = mul-le-mul r square in
    omega arith

-- ---- a call by the number that its work meets

module _ (S : Study) (o : Outputs) (told : ℕ) where
  by : ℕ → AfterWard
  by met = record { answer = answered (summary S) (cond (eqb told 0) met told); outputs = outputs_after S told (cond (eqb told 0) met told) o }

  studied-by : (a : Allowance) → studied S a o told ≡ by (work_refusal a (steps_of S))
  unfolding studied then_work by
  studied-by a = refl

  pub studied-same : (a b : Allowance) → work_refusal b (steps_of S) ≡ work_refusal a (steps_of S) → studied S b o told ≡ studied S a o told
  studied-same a b e = studied-by b ∙ ap by e ∙ sym (studied-by a)

module _ (X : ExtendedStudy) (o : ExtendedOutputs) (told : ℕ) where
  by_x : ℕ → AfterExtended
  by_x met = record { answer = answered (summary X.study) (cond (eqb told 0) met told); outputs = extended_outputs_after X told (cond (eqb told 0) met told) o }

  extended-by : (a : Allowance) → studied_extended X a o told ≡ by_x (work_refusal a (steps_of_extended X))
  unfolding studied_extended then_work by_x
  extended-by a = refl

  pub extended-same : (a b : Allowance) → work_refusal b (steps_of_extended X) ≡ work_refusal a (steps_of_extended X) → studied_extended X b o told ≡ studied_extended X a o told
  extended-same a b e = extended-by b ∙ ap by_x e ∙ sym (extended-by a)

-- the number that stands for an allowance
pub allowed-study : (N : NumberedStudy) (o : Outputs) → Fitting (lengths_of N o) → (a : Allowance) → studied (in_rows N) (Rows (allowed_rows a)) o 0 ≡ studied (in_rows N) a o 0
unfolding granted work_refusal
allowed-study N o F a = studied-same (in_rows N) o 0 a (Rows (allowed_rows a)) (sym (allowed-met a (steps_of (in_rows N)) (few-rows N o F)))

pub allowed-extended : (X : NumberedExtended) (o : ExtendedOutputs) → Fitting (lengths_of X.study o.outputs) → (a : Allowance)
    → studied_extended (extended_in_rows X) (Rows (allowed_rows a)) o 0 ≡ studied_extended (extended_in_rows X) a o 0
unfolding granted work_refusal extended_in_rows
allowed-extended X o F a =
    let few = few-rows X.study o.outputs F in
    let same = extended-count (extended_in_rows X) in
    extended-same (extended_in_rows X) o 0 a (Rows (allowed_rows a)) (sym (allowed-met a (steps_of_extended (extended_in_rows X)) (omega arith)))

-- ---- what an allowance alters

-- an answer of a call by the number that its work meets; the input's refusal is none of the work's
module _ (es : List Step) (s : WardSummary) (told : ℕ) (numbered : Told told) (other : told ≡ 18 → ⊥) where
  answer : Allowance → Result WardSummary Refusal
  answer a = answered s (then_work told a es)

  met-number : (a : Allowance) → answer a ≡ Err BeyondAllowance → (told ≡ 0) × (work_refusal a es ≡ 18)
  unfolding answer then_work
  met-number a h = pick told other (sym (told-work told a es numbered) ∙ sym (number_of-answered s (then_work told a es)) ∙ ap number_of h)
    where
      pick : (t : ℕ) → (t ≡ 18 → ⊥) → cond (eqb t 0) (work_refusal a es) t ≡ 18 → (t ≡ 0) × (work_refusal a es ≡ 18)
      pick zero l e = (refl, e)
      pick (suc t) l e = absurd (l (simp eqb-suc-zero at e))

  met-answer : (a : Allowance) → told ≡ 0 → work_refusal a es ≡ 18 → answer a ≡ Err BeyondAllowance
  unfolding answer then_work answered
  met-answer a z e = rw (z, e)

  -- a refused input is told whatever the work would meet
  pub larger-number : (a b : Allowance) → a no_more_than b → (answered s (then_work told a es) ≡ Err BeyondAllowance → ⊥) → then_work told b es ≡ then_work told a es
  unfolding answer then_work
  larger-number a b h kept = pick told refl
    where
      pick : (t : ℕ) → told ≡ t → cond (eqb t 0) (work_refusal b es) t ≡ cond (eqb t 0) (work_refusal a es) t
      pick zero e = larger-work a b h es (λ m. kept (met-answer a e m))
      pick (suc t) e = simp eqb-suc-zero

  pub never-eighteen : answered s (then_work told Unlimited es) ≡ Err BeyondAllowance → ⊥
  unfolding answer
  never-eighteen h = unlimited-met es (met-number Unlimited h).1

-- the input's refusals are 1 to 8 and 19
given-other : (told : ℕ) (xs : List Float) → told ≤ 8 → then_given told xs ≡ 18 → ⊥
unfolding then_given
given-other zero xs low e = pick (all_finite xs) e
  where
    pick : (b : Bool) → ◌≡◌ {A = ℕ} (cond (not b) 19 0) 18 → ⊥
    pick true h = omega arith
    pick false h = omega arith
given-other (suc t) xs low e = let z : suc t ≡ 18 = simp eqb-suc-zero at e in omega arith

ward-told : (N : NumberedStudy) (o : Outputs) → ward_refusal N o ≡ 18 → ⊥
unfolding ward_refusal ward_shape_refusal
ward-told N o = given-other (ward_shape_refusal N o) (given_of N.study) (told-most (lengths_of N o) (bus_refusal N.numbers (listed N.study)) (bus-most N.numbers (listed N.study)))

extended-told : (X : NumberedExtended) (o : ExtendedOutputs) → extended_refusal X o ≡ 18 → ⊥
unfolding extended_refusal extended_shape_refusal
extended-told X o =
    given-other (extended_shape_refusal X o) (given_of X.study.study ++ X.v-ext)
    (told-most (extended_lengths_of X o) (bus_refusal X.study.numbers (listed X.study.study)) (bus-most X.study.numbers (listed X.study.study)))

pub ward-numbered : (N : NumberedStudy) (o : Outputs) → Told (ward_refusal N o)
unfolding ward_refusal ward_shape_refusal
ward-numbered N o = told-given _ (given_of N.study) (told-lengths (lengths_of N o) _ (told-buses N.numbers (listed N.study)))

pub extended-numbered : (X : NumberedExtended) (o : ExtendedOutputs) → Told (extended_refusal X o)
unfolding extended_refusal extended_shape_refusal
extended-numbered X o = told-given _ (given_of X.study.study ++ X.v-ext) (told-lengths (extended_lengths_of X o) _ (told-buses X.study.numbers (listed X.study.study)))

larger-study : (N : NumberedStudy) (a b : Allowance) (o : Outputs) → a no_more_than b → ((after_compute N a o).answer ≡ Err BeyondAllowance → ⊥) → after_compute N b o ≡ after_compute N a o
unfolding after_compute studied
larger-study N a b o h other =
    ap (λ (n : ℕ). record { answer = answered (summary (in_rows N)) n; outputs = outputs_after (in_rows N) (ward_refusal N o) n o })
    (larger-number (steps_of (in_rows N)) (summary (in_rows N)) (ward_refusal N o) (ward-numbered N o) (ward-told N o) a b h other)

larger-extended : (X : NumberedExtended) (a b : Allowance) (o : ExtendedOutputs) → a no_more_than b → ((after_compute_extended X a o).answer ≡ Err BeyondAllowance → ⊥) → after_compute_extended X b o ≡ after_compute_extended X a o
unfolding after_compute_extended studied_extended
larger-extended X a b o h other =
    let E = extended_in_rows X in
    ap (λ (n : ℕ). record { answer = answered (summary E.study) n; outputs = extended_outputs_after E (extended_refusal X o) n o })
    (larger-number (steps_of_extended E) (summary E.study) (extended_refusal X o) (extended-numbered X o) (extended-told X o) a b h other)

from-bound : (N : NumberedStudy) (m : ℕ) (o : Outputs) → most_rows N.study ≤ m → after_compute N (Rows m) o ≡ after_compute N Unlimited o
unfolding after_compute
from-bound N m o h =
    let most = count_most N in
    studied-same (in_rows N) o (ward_refusal N o) Unlimited (Rows m) (from-count m (steps_of (in_rows N)) (omega arith))

from-bound-extended : (X : NumberedExtended) (m : ℕ) (o : ExtendedOutputs) → most_rows X.study.study ≤ m → after_compute_extended X (Rows m) o ≡ after_compute_extended X Unlimited o
unfolding after_compute_extended extended_in_rows
from-bound-extended X m o h =
    let most = count_most X.study in
    let same = extended-count (extended_in_rows X) in
    extended-same (extended_in_rows X) o (extended_refusal X o) Unlimited (Rows m) (from-count m (steps_of_extended (extended_in_rows X)) (omega arith))

unlimited : (N : NumberedStudy) (o : Outputs) → (after_compute N Unlimited o).answer ≡ Err BeyondAllowance → ⊥
unfolding after_compute studied
unlimited N o = never-eighteen (steps_of (in_rows N)) (summary (in_rows N)) (ward_refusal N o) (ward-numbered N o) (ward-told N o)

unlimited-extended : (X : NumberedExtended) (o : ExtendedOutputs) → (after_compute_extended X Unlimited o).answer ≡ Err BeyondAllowance → ⊥
unfolding after_compute_extended studied_extended
unlimited-extended X o = never-eighteen (steps_of_extended (extended_in_rows X)) (summary (extended_in_rows X).study) (extended_refusal X o) (extended-numbered X o) (extended-told X o)

-- an accepted study
answer-within : (es : List Step) (s s' : WardSummary) (told m : ℕ) → s.rows_reduced ≡ reductions es → Ok s' ≡ answered s (then_work told (Rows m) es) → s'.rows_reduced ≤ m
unfolding then_work work_refusal granted
answer-within es s s' told m count h =
    let (z, same) = accepted (tt {0}) s (cond (eqb told 0) (meets m es) told) s' h in
    let most = meets-within m es (then-none told (meets m es) z).1 in
    let rows : s'.rows_reduced ≡ s.rows_reduced = ap (λ (x : WardSummary). x.rows_reduced) same in
    omega arith

within : (N : NumberedStudy) (m : ℕ) (o : Outputs) (s : WardSummary) → (after_compute N (Rows m) o).answer ≡ Ok s → s.rows_reduced ≤ m
unfolding after_compute studied summary
within N m o s h = answer-within (steps_of (in_rows N)) (summary (in_rows N)) s (ward_refusal N o) m refl (sym h)

within-extended : (X : NumberedExtended) (m : ℕ) (o : ExtendedOutputs) (s : WardSummary) → (after_compute_extended X (Rows m) o).answer ≡ Ok s → s.rows_reduced ≤ m
unfolding after_compute_extended studied_extended summary
within-extended X m o s h =
    answer-within (steps_of_extended (extended_in_rows X)) (summary (extended_in_rows X).study) s (extended_refusal X o) m (sym (extended-count (extended_in_rows X))) (sym h)

met-first : (S : Study) (m : ℕ) → T (not (eqb (externals S) 0)) → (work_refusal Unlimited (steps_of S) ≡ 20 → ⊥)
    → work_refusal (Rows m) (steps_of S) ≡ cond (singular_study S) (cond (ltb m (rows_of_solve S)) 18 13) (cond (ltb m ((length (retained S) + 1) * rows_of_solve S)) 18 0)
unfolding work_refusal granted
met-first S m some unlost = study-met S (pick (eqb (externals S) 0) some) unlost m
  where
    pick : (b : Bool) → T (not b) → b ≡ false
    pick true h = absurd h
    pick false h = refl

-- the corrections behind it
met-first-extended : (X : ExtendedStudy) (m : ℕ) → T (not (eqb (externals X.study) 0)) → (work_refusal Unlimited (steps_of X.study) ≡ 20 → ⊥)
    → work_refusal (Rows m) (steps_of_extended X)
    ≡ cond (singular_study X.study) (cond (ltb m (rows_of_solve X.study)) 18 13)
    (cond (ltb m ((length (retained X.study) + 1) * rows_of_solve X.study)) 18 (cond (not (all_finite (correction_numbers X))) 20 0))
unfolding work_refusal granted steps_of_extended
met-first-extended X m some unlost =
    let S = X.study in
    pick (singular_study S) (ltb m (rows_of_solve S)) (ltb m ((length (retained S) + 1) * rows_of_solve S)) (all_finite (correction_numbers X)) refl (met-first S m some unlost)
  where
    pick : (singular first all fine : Bool) → all_finite (correction_numbers X) ≡ fine → meets m (steps_of X.study) ≡ cond singular (cond first 18 13) (cond all 18 0)
        → meets m (steps_of X.study ++ computing (correction_numbers X)) ≡ cond singular (cond first 18 13) (cond all 18 (cond (not fine) 20 0))
    pick true true a f t e = meets-first m (steps_of X.study) (computing (correction_numbers X)) (λ (z : meets m (steps_of X.study) ≡ 0). omega arith) ∙ e
    pick true false a f t e = meets-first m (steps_of X.study) (computing (correction_numbers X)) (λ (z : meets m (steps_of X.study) ≡ 0). omega arith) ∙ e
    pick false b true f t e = meets-first m (steps_of X.study) (computing (correction_numbers X)) (λ (z : meets m (steps_of X.study) ≡ 0). omega arith) ∙ e
    pick false b false true t e =
        meets-after m (steps_of X.study) (computing (correction_numbers X)) e
        ∙ numbers-met (m - reductions (steps_of X.study)) (correction_numbers X) ∙ ap (λ (b : Bool). cond b 0 20) t
    pick false b false false t e =
        meets-after m (steps_of X.study) (computing (correction_numbers X)) e
        ∙ numbers-met (m - reductions (steps_of X.study)) (correction_numbers X) ∙ ap (λ (b : Bool). cond b 0 20) t

pub study-allowances : StudyAllowances
study-allowances = record {
  counts-pairs = study-count;
  at_most = study-bound;
  meets-first = met-first;
  within = within;
  meets-first-extended = met-first-extended;
  within-extended = within-extended;
  larger = larger-study;
  from-bound = from-bound;
  unlimited = unlimited;
  larger-extended = larger-extended;
  from-bound-extended = from-bound-extended;
  unlimited-extended = unlimited-extended;
}
