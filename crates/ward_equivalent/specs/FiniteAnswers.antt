-- Finite numbers only: what an accepted study writes is finite; and nothing else than a number given or computed that is not finite, a
-- pivot too small or an allowance refuses a study whose lengths and lists are right.
use Rattle.std.specs.Prelude.{◌≡◌, not, ◌++◌, T}
use Rattle.std.specs.Float.Ieee.Scale.{finite}
use Rattle.binary64.specs.Values.{all_finite}
use Rattle.refusals.specs.declared.Allowance.{Allowance}
use Rattle.refusals.specs.declared.Allowance.TheVariants.{Rows}
use Rattle.refusals.specs.Work.{reductions, ◌no_more_than◌}
use Rattle.solver.specs.Solving.{is_singular}
use Rattle.ward_equivalent.specs.Ward.{Study, Outputs, given_of, externals, y_ee}
use Rattle.ward_equivalent.specs.Extended.{ExtendedOutputs}
use Rattle.ward_equivalent.specs.Steps.{steps_of, of_study, of_extended}
use Rattle.ward_equivalent.specs.Studied.{summary}
use Rattle.ward_equivalent.specs.Numbers.{NumberedStudy, NumberedExtended, in_rows, extended_in_rows}
use Rattle.ward_equivalent.specs.Numbers.{ward_shape_refusal, extended_shape_refusal}
use Rattle.ward_equivalent.specs.Numbers.{AcceptedStudy, AcceptedExtended, after_compute, after_compute_extended}

pub record FiniteOutputs (o : Outputs) : Type 0 where
  pub y-ward : T (all_finite o.y-ward)
  pub p-ward : T (all_finite o.p-ward)
  pub q-ward : T (all_finite o.q-ward)

-- no pivot of the external part is too small
unfoldable pub Regular : Study → Type 0
unfolding y_ee
Regular S = T (not (is_singular (externals S) (y_ee S)))

pub record FiniteStudies : Type 0 where
  pub outputs-finite : (N : NumberedStudy) (a : Allowance) (o : Outputs) → AcceptedStudy N a o → FiniteOutputs (after_compute N a o).outputs
  pub ratio-finite : (N : NumberedStudy) (a : Allowance) (o : Outputs) → AcceptedStudy N a o
      → T (finite (summary (in_rows N)).reduction_ratio)
  pub accepted : (N : NumberedStudy) (a : Allowance) (o : Outputs) → ward_shape_refusal N o ≡ 0
      → T (all_finite (given_of (in_rows N))) → T (all_finite (of_study (in_rows N))) → Regular (in_rows N)
      → Rows (reductions (steps_of (in_rows N))) no_more_than a → AcceptedStudy N a o
  -- the same of an extended study
  pub outputs-finite-extended : (X : NumberedExtended) (a : Allowance) (o : ExtendedOutputs) → AcceptedExtended X a o
      → let left = (after_compute_extended X a o).outputs in
      FiniteOutputs left.outputs × T (all_finite left.correction) × T (all_finite left.compensation)
  pub ratio-finite-extended : (X : NumberedExtended) (a : Allowance) (o : ExtendedOutputs) → AcceptedExtended X a o
      → T (finite (summary (in_rows X.study)).reduction_ratio)
  pub accepted-extended : (X : NumberedExtended) (a : Allowance) (o : ExtendedOutputs) → extended_shape_refusal X o ≡ 0
      → T (all_finite (given_of (in_rows X.study) ++ X.v-ext)) → T (all_finite (of_extended (extended_in_rows X)))
      → Regular (in_rows X.study)
      → Rows (reductions (steps_of (in_rows X.study))) no_more_than a → AcceptedExtended X a o
