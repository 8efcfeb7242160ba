-- What a Ward study and an extended one answer and leave. Buses are rows here.
use Rattle.std.specs.Prelude.{ℕ, cond, List, map, eqb, length, Float, Result}
use Rattle.complex.specs.Constants.{plus0}
use Rattle.complex.specs.Matrices.{rows, zeros}
use Rattle.refusals.specs.declared.Allowance.{Allowance}
use Rattle.refusals.specs.declared.Refusal.{Refusal}
use Rattle.refusals.specs.Refusals.{answered}
use Rattle.refusals.specs.Work.{reductions, then_work}
use Rattle.ward_equivalent.specs.declared.answers.WardSummary.{WardSummary}
use Rattle.ward_equivalent.specs.Ward.{Study, Outputs, externals, retained, equivalent, injection_p, injection_q, ratio}
use Rattle.ward_equivalent.specs.Extended.{ExtendedStudy, ExtendedOutputs, voltage_correction, q_compensation}
use Rattle.ward_equivalent.specs.Steps.{steps_of, steps_of_extended}

-- ---- the answer of an accepted study

-- the original size, the size of the equivalent, the share left out, and how many rows the solves reduce
unfoldable pub summary : Study → WardSummary
unfolding ratio retained plus0 steps_of reductions
summary S =
    record {
      n_buses_reduced = S.size;
      n_buses_equivalent = length (retained S);
      reduction_ratio = cond (eqb (externals S) 0) plus0 (ratio (length (retained S)) S.size);
      rows_reduced = reductions (steps_of S);
    }

-- ---- the slices

-- the outputs of an accepted study
unfoldable pub accepted_outputs : Study → List Float → Outputs
unfolding equivalent injection_p injection_q retained rows
accepted_outputs S ws =
    record {
      y-ward = rows (equivalent S) (retained S) (retained S);
      p-ward = map (injection_p S) S.boundary;
      q-ward = map (injection_q S) S.boundary;
      work = ws;
    }

-- the work slice: +0 unless the input was refused
unfoldable pub work_after : ℕ → List Float → List Float
unfolding zeros
work_after told ws = cond (eqb told 0) (zeros (length ws)) ws

-- by the refusal from the input and the call's: outputs are written only where the call is not refused
unfoldable pub outputs_after : Study → ℕ → ℕ → Outputs → Outputs
unfolding accepted_outputs work_after
outputs_after S told number o =
    cond (eqb number 0)
    (accepted_outputs S (work_after told o.work))
    (record { y-ward = o.y-ward; p-ward = o.p-ward; q-ward = o.q-ward; work = work_after told o.work })

unfoldable pub extended_outputs_after : ExtendedStudy → ℕ → ℕ → ExtendedOutputs → ExtendedOutputs
unfolding outputs_after voltage_correction q_compensation
extended_outputs_after S told number o =
    record {
      outputs = outputs_after S.study told number o.outputs;
      correction = cond (eqb number 0) (map (voltage_correction S) S.study.boundary) o.correction;
      compensation = cond (eqb number 0) (map (q_compensation S) S.study.boundary) o.compensation;
    }

-- ---- both, after the refusal `told` from the input

pub record AfterWard : Type 0 where
  pub answer : Result WardSummary Refusal
  pub outputs : Outputs

unfoldable pub studied : Study → Allowance → Outputs → ℕ → AfterWard
unfolding then_work steps_of summary outputs_after
studied S allowance o told =
    let number = then_work told allowance (steps_of S) in
    record { answer = answered (summary S) number; outputs = outputs_after S told number o }

pub record AfterExtended : Type 0 where
  pub answer : Result WardSummary Refusal
  pub outputs : ExtendedOutputs

unfoldable pub studied_extended : ExtendedStudy → Allowance → ExtendedOutputs → ℕ → AfterExtended
unfolding then_work steps_of_extended summary extended_outputs_after
studied_extended X allowance o told =
    let number = then_work told allowance (steps_of_extended X) in
    record { answer = answered (summary X.study) number; outputs = extended_outputs_after X told number o }
