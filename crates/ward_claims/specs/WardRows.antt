-- Demand 3 of Ward's study: a retained row with zeros towards all external buses keeps its values and gets zero injection.
-- A study's lists name buses by number; here each is told by its row in the given matrix (`in_rows`).
use Rattle.std.specs.Prelude.{ℕ, ◌+◌, ◌<◌, ◌≡◌, List, ◌++◌, T, length, get_or, Float}
use Rattle.std.specs.Float.{nan}
use Rattle.complex.specs.Matrices.{Matrix, entry_at}
use Rattle.complex.specs.Values.{◌≈◌, Zero}
use Rattle.binary64.specs.Values.{is_zero, all_finite, F64s}
use Rattle.lists.specs.Buses.{◌is_one_of◌}
use Rattle.refusals.specs.declared.Allowance.{Allowance}
use Rattle.refusals.specs.declared.Allowance.TheVariants.{Rows}
use Rattle.refusals.specs.Work.{reductions, ◌no_more_than◌}
use Rattle.ward_equivalent.specs.Ward.{Study, Outputs, given_of}
use Rattle.ward_equivalent.specs.Extended.{ExtendedStudy, ExtendedOutputs}
use Rattle.ward_equivalent.specs.Numbers.{NumberedStudy, NumberedExtended, in_rows, extended_in_rows, AcceptedStudy, AcceptedExtended}
use Rattle.ward_equivalent.specs.Numbers.{ward_shape_refusal, extended_shape_refusal, after_compute, after_compute_extended}
use Rattle.ward_equivalent.specs.Steps.{steps_of, of_study, of_extended}
use Rattle.ward_equivalent.specs.FiniteAnswers.{Regular}

-- ---- 01's premise

-- all given and all computed in the study are finite
pub record FiniteStudy (S : Study) : Type 0 where
  pub given : T (all_finite (given_of S))
  pub computed : T (all_finite (of_study S))

pub record FiniteExtended (S : ExtendedStudy) : Type 0 where
  pub given : T (all_finite (given_of S.study ++ S.v-ext))
  pub computed : T (all_finite (of_extended S))

-- ---- a retained row

-- the given entry between two buses; written out, as the demand is stated without the study's own `admittance`
unfoldable pub old : Study → Matrix
old S = entry_at S.size S.given

-- the buses of the equivalent's rows, each by its row in the given matrix: the internal ones first, then the boundary
-- ones; written out, as the demand is stated without the study's own `retained`
unfoldable pub row_buses : Study → List ℕ
row_buses S = S.internal ++ S.boundary

-- the bus of row p of the equivalent, by its row in the given matrix
unfoldable pub bus_of_row : Study → ℕ → ℕ
unfolding row_buses
bus_of_row S p = get_or (row_buses S) p 0

-- zeros towards all external buses
unfoldable pub ZeroRow : Study → ℕ → Type 0
unfolding old bus_of_row
ZeroRow S p = (e : ℕ) → e is_one_of S.external → Zero (old S (bus_of_row S p) e)

-- each entry of row p equals the given one between the same two buses
unfoldable pub KeepsValues : Study → Outputs → ℕ → Type 0
unfolding old bus_of_row row_buses
KeepsValues S o p =
    let r = length (row_buses S) in
    (q : ℕ) → q < r → entry_at r o.y-ward p q ≈ old S (bus_of_row S p) (bus_of_row S q)

-- what stands at row p's place among the boundary rows, if it is one, is zero
unfoldable pub ZeroAt : Study → ℕ → List Float → Type 0
ZeroAt S p xs = (t : ℕ) → t < length S.boundary → p ≡ length S.internal + t → T (is_zero (get_or xs t nan))

pub record KeepsRow (S : Study) (o : Outputs) (p : ℕ) : Type 0 where
  pub values : KeepsValues S o p
  pub active : ZeroAt S p o.p-ward
  pub reactive : ZeroAt S p o.q-ward

pub record KeepsExtendedRow (S : ExtendedStudy) (o : ExtendedOutputs) (p : ℕ) : Type 0 where
  pub row : KeepsRow S.study o.outputs p
  pub correction : ZeroAt S.study p o.correction
  pub compensation : ZeroAt S.study p o.compensation

-- ---- the claim

-- for every accepted study, of either kind and under any allowance; the matrix is a slice of f64 (F64s), which is no restriction
pub record WardRows : Type 0 where
  pub study : (N : NumberedStudy) (a : Allowance) (o : Outputs) → F64s N.study.given → AcceptedStudy N a o
      → (p : ℕ) → p < length (row_buses (in_rows N))
      → ZeroRow (in_rows N) p → KeepsRow (in_rows N) (after_compute N a o).outputs p
  pub extended : (N : NumberedExtended) (a : Allowance) (o : ExtendedOutputs) → F64s N.study.study.given → AcceptedExtended N a o
      → (p : ℕ) → p < length (row_buses (in_rows N.study))
      → ZeroRow (in_rows N.study) p → KeepsExtendedRow (extended_in_rows N) (after_compute_extended N a o).outputs p
  -- 01's premise follows: every number given, and every one computed on the way, is finite
  pub finite : (N : NumberedStudy) (a : Allowance) (o : Outputs) → AcceptedStudy N a o → FiniteStudy (in_rows N)
  pub finite-extended : (N : NumberedExtended) (a : Allowance) (o : ExtendedOutputs) → AcceptedExtended N a o
      → FiniteExtended (extended_in_rows N)
  -- and nothing finite is refused: where 1, 2, 3, 7 and 8 are not told, every number is finite, no pivot of Y_ee is too small and the
  -- allowance is enough for all solves, the study is accepted
  pub accepts : (N : NumberedStudy) (a : Allowance) (o : Outputs) → ward_shape_refusal N o ≡ 0 → FiniteStudy (in_rows N)
      → Regular (in_rows N) → Rows (reductions (steps_of (in_rows N))) no_more_than a → AcceptedStudy N a o
  pub accepts-extended : (N : NumberedExtended) (a : Allowance) (o : ExtendedOutputs) → extended_shape_refusal N o ≡ 0
      → FiniteExtended (extended_in_rows N) → Regular (in_rows N.study)
      → Rows (reductions (steps_of (in_rows N.study))) no_more_than a → AcceptedExtended N a o
