-- What an accepted Ward study is: a matrix of its exact length, lists that name its rows alone. And what it leaves in its slices.
use Rattle.prelude.proofs.Prelude.{◌≡◌, sym, subst, Bool, not, List, ◌++◌, ℕ, ◌*◌, T, eqb, length, map, eqb→eq}
use Rattle.complex.specs.{zeros}
use Rattle.refusals.specs.declared.Allowance.{Allowance}
use Rattle.binary64.specs.Values.{all_finite}
use Rattle.refusals.proofs.Answering.{then-none}
use Rattle.refusals.proofs.Numbers.{given-none}
use Rattle.refusals.proofs.Work.{work-accepted}
use Rattle.refusals.specs.Work.{Step, work_refusal, then_work}
use Rattle.lists.specs.Buses.{all_below, repeats}
use Rattle.ward_equivalent.specs.Ward.{Study, Outputs, given_of, listed}
use Rattle.ward_equivalent.specs.Steps.{steps_of, of_study, steps_of_extended, of_extended}
use Rattle.ward_equivalent.specs.Studied.{accepted_outputs, work_after, outputs_after, studied}
use Rattle.ward_equivalent.specs.Extended.{ExtendedOutputs, voltage_correction, q_compensation}
use Rattle.ward_equivalent.specs.Studied.{extended_outputs_after, studied_extended}
use Rattle.ward_equivalent.specs.Numbers.{NumberedStudy, NumberedExtended, lengths_of, extended_lengths_of, in_rows, extended_in_rows, bus_refusal, ward_shape_refusal, ward_refusal, extended_shape_refusal, extended_refusal, AcceptedStudy, AcceptedExtended, after_compute, after_compute_extended}
use Rattle.ward_equivalent.proofs.Told.{lengths-pass}
use Rattle.ward_equivalent.proofs.Naming.{listed-rows}
use Rattle.ward_equivalent.proofs.Named.{rows-fine}

-- ---- refusals passed

accepted-input : (f : ℕ) (a : Allowance) (es : List Step) → T (eqb (then_work f a es) 0) → f ≡ 0
unfolding then_work
accepted-input f a es t = (then-none f (work_refusal a es) (eqb→eq (then_work f a es) 0 t)).0

-- ---- an accepted study

pub record Sound (S : Study) : Type 0 where
  pub given : length S.given ≡ 2 * (S.size * S.size)
  pub below : T (all_below S.size (listed S))
  pub distinct : T (not (repeats (listed S)))

sound-of : (N : NumberedStudy) → length N.study.given ≡ 2 * (N.study.size * N.study.size) → length N.numbers ≡ N.study.size → bus_refusal N.numbers (listed N.study) ≡ 0 → Sound (in_rows N)
unfolding in_rows
sound-of N given numbers z =
    let (below, distinct) = rows-fine N.numbers (listed N.study) N.study.size (listed (in_rows N)) numbers z (listed-rows N) in
    record { given = given; below = below; distinct = subst (λ (b : Bool). T (not b)) (sym distinct) tt }

input-passed : (N : NumberedStudy) (a : Allowance) (o : Outputs) → AcceptedStudy N a o → (ward_shape_refusal N o ≡ 0) × T (all_finite (given_of N.study))
unfolding ward_refusal
input-passed N a o h = given-none (ward_shape_refusal N o) (given_of N.study) (accepted-input (ward_refusal N o) a (steps_of (in_rows N)) h)

pub sound : (N : NumberedStudy) (a : Allowance) (o : Outputs) → AcceptedStudy N a o → Sound (in_rows N)
unfolding ward_shape_refusal
sound N a o h =
    let (l, z) = lengths-pass (lengths_of N o) (bus_refusal N.numbers (listed N.study)) (input-passed N a o h).0 in
    sound-of N l.fits.given l.fits.numbers z

-- all numbers given and all computed are finite
pub given-finite : (N : NumberedStudy) (a : Allowance) (o : Outputs) → AcceptedStudy N a o → T (all_finite (given_of (in_rows N)))
unfolding in_rows given_of
given-finite N a o h = (input-passed N a o h).1

pub computed-finite : (N : NumberedStudy) (a : Allowance) (o : Outputs) → AcceptedStudy N a o → T (all_finite (of_study (in_rows N)))
unfolding of_study
computed-finite N a o h = (work-accepted (ward_refusal N o) a (steps_of (in_rows N)) (eqb→eq (then_work (ward_refusal N o) a (steps_of (in_rows N))) 0 h)).2

input-passed_x : (X : NumberedExtended) (a : Allowance) (o : ExtendedOutputs) → AcceptedExtended X a o → (extended_shape_refusal X o ≡ 0) × T (all_finite (given_of X.study.study ++ X.v-ext))
unfolding extended_refusal
input-passed_x X a o h = given-none (extended_shape_refusal X o) (given_of X.study.study ++ X.v-ext) (accepted-input (extended_refusal X o) a (steps_of_extended (extended_in_rows X)) h)

pub sound_x : (X : NumberedExtended) (a : Allowance) (o : ExtendedOutputs) → AcceptedExtended X a o → Sound (in_rows X.study)
unfolding extended_shape_refusal
sound_x X a o h =
    let N = X.study in
    let (l, z) = lengths-pass (extended_lengths_of X o) (bus_refusal N.numbers (listed N.study)) (input-passed_x X a o h).0 in
    sound-of N l.fits.given l.fits.numbers z

pub given-finite_x : (X : NumberedExtended) (a : Allowance) (o : ExtendedOutputs) → AcceptedExtended X a o → T (all_finite (given_of (extended_in_rows X).study ++ (extended_in_rows X).v-ext))
unfolding in_rows extended_in_rows given_of
given-finite_x X a o h = (input-passed_x X a o h).1

pub computed-finite_x : (X : NumberedExtended) (a : Allowance) (o : ExtendedOutputs) → AcceptedExtended X a o → T (all_finite (of_extended (extended_in_rows X)))
unfolding of_extended
computed-finite_x X a o h = (work-accepted (extended_refusal X o) a (steps_of_extended (extended_in_rows X)) (eqb→eq (then_work (extended_refusal X o) a (steps_of_extended (extended_in_rows X))) 0 h)).2

-- ---- what it leaves

left-of : (S : Study) (a : Allowance) (es : List Step) (f : ℕ) (o : Outputs) → T (eqb (then_work f a es) 0) → outputs_after S f (then_work f a es) o ≡ accepted_outputs S (zeros (length o.work))
unfolding outputs_after work_after
left-of S a es f o t = rw (eqb→eq (then_work f a es) 0 t, accepted-input f a es t)

pub left-accepted : (N : NumberedStudy) (a : Allowance) (o : Outputs) → AcceptedStudy N a o → (after_compute N a o).outputs ≡ accepted_outputs (in_rows N) (zeros (length o.work))
unfolding after_compute studied
left-accepted N a o h = left-of (in_rows N) a (steps_of (in_rows N)) (ward_refusal N o) o h

module _ (X : NumberedExtended) (a : Allowance) (o : ExtendedOutputs) (h : AcceptedExtended X a o) where
  pub left-accepted_x : (after_compute_extended X a o).outputs.outputs ≡ accepted_outputs (in_rows X.study) (zeros (length o.outputs.work))
  unfolding after_compute_extended studied_extended extended_outputs_after extended_in_rows
  left-accepted_x = left-of (in_rows X.study) a (steps_of_extended (extended_in_rows X)) (extended_refusal X o) o.outputs h

  pub correction-accepted : (after_compute_extended X a o).outputs.correction ≡ map (voltage_correction (extended_in_rows X)) (in_rows X.study).boundary
  unfolding after_compute_extended studied_extended extended_outputs_after extended_in_rows
  correction-accepted = rw (eqb→eq (then_work (extended_refusal X o) a (steps_of_extended (extended_in_rows X))) 0 h)

  pub compensation-accepted : (after_compute_extended X a o).outputs.compensation ≡ map (q_compensation (extended_in_rows X)) (in_rows X.study).boundary
  unfolding after_compute_extended studied_extended extended_outputs_after extended_in_rows
  compensation-accepted = rw (eqb→eq (then_work (extended_refusal X o) a (steps_of_extended (extended_in_rows X))) 0 h)
