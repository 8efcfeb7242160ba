-- What a study counts, what it meets under an allowance, and what an allowance alters.
use Rattle.std.specs.Prelude.{ℕ, ◌+◌, ◌*◌, ◌-◌, ◌≤◌, ◌≡◌, not, cond, T, eqb, ltb, length, Ok, Err}
use Rattle.binary64.specs.Values.{all_finite}
use Rattle.refusals.specs.declared.Allowance.{Allowance}
use Rattle.refusals.specs.declared.Refusal.TheVariants.{BeyondAllowance}
use Rattle.refusals.specs.declared.Allowance.TheVariants.{Unlimited, Rows}
use Rattle.refusals.specs.Refusals.{singular, beyond_allowance, computed_not_finite, refuse}
use Rattle.refusals.specs.Work.{reductions, work_refusal, ◌no_more_than◌}
use Rattle.solver.specs.GaussJordan.{pairs}
use Rattle.solver.specs.Solving.{operations, is_singular}
use Rattle.ward_equivalent.specs.declared.answers.WardSummary.{WardSummary}
use Rattle.ward_equivalent.specs.Ward.{Study, Outputs, externals, retained, y_ee}
use Rattle.ward_equivalent.specs.Extended.{ExtendedStudy, ExtendedOutputs}
use Rattle.ward_equivalent.specs.Steps.{of_each, steps_of, of_correction, steps_of_extended}
use Rattle.ward_equivalent.specs.Numbers.{NumberedStudy, NumberedExtended, after_compute, after_compute_extended}

-- the most rows that a study can reduce: retained + 1 solves of e external buses each
unfoldable pub most_rows : Study → ℕ
unfolding retained
most_rows S = (length (retained S) + 1) * (externals S * (externals S - 1))

-- What a study meets first with this many rows allowed, where its own work does not meet 20: 18 in the first solve, or 13 where Y_ee is
-- singular; else 18 where all solves together exceed the allowance, and `behind` where they do not.
abbrev pub first_met : Study → ℕ → ℕ → ℕ
first_met S allowed behind =
    let count = pairs operations (externals S) (y_ee S) in
    cond (is_singular (externals S) (y_ee S)) (refuse (ltb allowed count) beyond_allowance singular)
    (refuse (ltb allowed ((length (retained S) + 1) * count)) beyond_allowance behind)

pub record StudyAllowances : Type 0 where
  -- the solves of a study reduce equally many rows: the pairs of column and other row whose factor is not skipped as Y_ee is eliminated
  pub counts-pairs : (S : Study) → reductions (steps_of S) ≡ (length (retained S) + 1) * pairs operations (externals S) (y_ee S)
  pub at_most : (S : Study) → reductions (steps_of S) ≤ most_rows S
  -- where the work without a limit does not meet 20
  pub meets-first : (S : Study) (allowed : ℕ) → T (not (eqb (externals S) 0))
      → (work_refusal Unlimited (steps_of S) ≡ computed_not_finite → ⊥)
      → work_refusal (Rows allowed) (steps_of S) ≡ first_met S allowed 0
  -- an accepted study reduces no more rows than are allowed
  pub within : (N : NumberedStudy) (allowed : ℕ) (o : Outputs) (s : WardSummary)
      → (after_compute N (Rows allowed) o).answer ≡ Ok s → s.rows_reduced ≤ allowed
  -- a larger allowance alters no answer but 18: neither number nor summary nor any slice
  pub larger : (N : NumberedStudy) (less more : Allowance) (o : Outputs) → less no_more_than more
      → ((after_compute N less o).answer ≡ Err BeyondAllowance → ⊥) → after_compute N more o ≡ after_compute N less o
  -- from the bound on an allowance limits nothing
  pub from-bound : (N : NumberedStudy) (allowed : ℕ) (o : Outputs) → most_rows N.study ≤ allowed
      → after_compute N (Rows allowed) o ≡ after_compute N Unlimited o
  -- without a limit there is no 18
  pub unlimited : (N : NumberedStudy) (o : Outputs) → (after_compute N Unlimited o).answer ≡ Err BeyondAllowance → ⊥
  -- the same of an extended study, where 20 of a correction stands behind its own work
  pub meets-first-extended : (X : ExtendedStudy) (allowed : ℕ) → T (not (eqb (externals X.study) 0))
      → (work_refusal Unlimited (steps_of X.study) ≡ computed_not_finite → ⊥)
      → work_refusal (Rows allowed) (steps_of_extended X)
      ≡ first_met X.study allowed (refuse (not (all_finite (of_each (of_correction X) X.study.boundary))) computed_not_finite 0)
  pub within-extended : (X : NumberedExtended) (allowed : ℕ) (o : ExtendedOutputs) (s : WardSummary)
      → (after_compute_extended X (Rows allowed) o).answer ≡ Ok s → s.rows_reduced ≤ allowed
  pub larger-extended : (X : NumberedExtended) (less more : Allowance) (o : ExtendedOutputs) → less no_more_than more
      → ((after_compute_extended X less o).answer ≡ Err BeyondAllowance → ⊥)
      → after_compute_extended X more o ≡ after_compute_extended X less o
  pub from-bound-extended : (X : NumberedExtended) (allowed : ℕ) (o : ExtendedOutputs) → most_rows X.study.study ≤ allowed
      → after_compute_extended X (Rows allowed) o ≡ after_compute_extended X Unlimited o
  pub unlimited-extended : (X : NumberedExtended) (o : ExtendedOutputs)
      → (after_compute_extended X Unlimited o).answer ≡ Err BeyondAllowance → ⊥
