-- Demand 3 of Ward's study, whole (`ward_rows`): Ward's own by WardKeeps, and the extended study's correction and compensation.
use Rattle.prelude.proofs.Prelude.{◌≡◌, sym, subst, inl, inr, [], ◌∷◌, ℕ, zero, suc, ◌+◌, ◌<◌, arith, T, length, get_or, map, eq-or-lt_of_le, binary64, neg, finite, nan}
use lib.Ieee.Fits.{mul-fits}
use Rattle.complex.specs.{plus0, ◌⊗◌, of_sqmag, zeros, Zero}
use Rattle.binary64.specs.Values.{all_finite, F64s}
use Rattle.binary64.proofs.Floats as F
use Rattle.complex.proofs.Finite.{all_left, all_right, all-at, zero-times}
use Rattle.lists.specs.Buses.{◌is_one_of◌}
use Rattle.ward_equivalent.specs.Ward.{Outputs, given_of, retained, externals, admittance}
use Rattle.ward_equivalent.specs.Extended.{ExtendedStudy, ExtendedOutputs, deviation, boundary_tie, weight, weight_sum, voltage_correction, reactive, q_compensation}
use Rattle.refusals.specs.declared.Allowance.{Allowance}
use Rattle.ward_equivalent.specs.Steps.{of_study, of_ties, of_correction, of_extended}
use Rattle.ward_equivalent.proofs.Laws.{sound_x, left-accepted_x, correction-accepted, compensation-accepted, given-finite, computed-finite, given-finite_x, computed-finite_x}
use Rattle.ward_equivalent.proofs.FiniteAnswers.{matrix-given, finite-studies}
use Rattle.lists.proofs.Lookups.{get_or_map}
use Rattle.ward_equivalent.proofs.Sums.{Null, plus0-zero, sum-zero, magnitude-zero, none_above, each_at}
use Rattle.ward_equivalent.specs.Numbers.{NumberedExtended, in_rows, extended_in_rows, AcceptedExtended, after_compute_extended}
use Rattle.ward_claims.specs.WardRows.{old, row_buses, bus_of_row, ZeroRow, ZeroAt, KeepsRow, KeepsExtendedRow, WardRows}
use Rattle.ward_equivalent.proofs.Steps.{study-computed, corrections-computed}
use Rattle.ward_claims.proofs.WardKeeps.{row-null, bus-at, keeps-row, zero_row}

-- ---- the terms of one boundary tie

-- the numbers of boundary tie k are among those computed
pub record TieFinite (S : ExtendedStudy) (i k : ℕ) : Type 0 where
  pub squares : T (all_finite (of_sqmag (boundary_tie S i k)))
  pub slope : T (finite (neg (boundary_tie S i k).im ⊗ deviation S k))
  pub power : T (finite (reactive S.study.base (boundary_tie S i k) (deviation S k)))

tie-at : (S : ExtendedStudy) (i n k : ℕ) → k < n → T (all_finite (of_ties S i n)) → TieFinite S i k
unfolding of_ties
tie-at S i zero k h t = absurd (omega arith)
tie-at S i (suc n) k h t = elim (eq-or-lt_of_le {n = k} {m = n} (omega arith)) [
  | inr m ↦ tie-at S i n k m (search all_left)
  | inl e ↦
      let terms = weight S i n ∷ deviation S n ∷ weight S i n ⊗ deviation S n ∷ neg (boundary_tie S i n).im ⊗ deviation S n
      ∷ reactive S.study.base (boundary_tie S i n) (deviation S n) ∷ [] in
      let own : T (all_finite terms) = search all_right in
      rw e (record { squares = search (all_left, all_right); slope = all-at terms 3 (omega arith) own; power = all-at terms 4 (omega arith) own })
]

-- ---- a boundary bus with zeros towards all external buses

module _ (S : ExtendedStudy) (i : ℕ) (none : (e : ℕ) → e is_one_of S.study.external → Zero (admittance S.study i e)) (computed : T (all_finite (of_ties S i (externals S.study)))) where
  tie-null : (k : ℕ) → k < externals S.study → Null (boundary_tie S i k)
  tie-null k h = row-null S.study i none k h

  no-weight : F.Zero (weight_sum S i)
  unfolding weight_sum weight
  no-weight = sum-zero (externals S.study) (weight S i) λ (k : ℕ) (h : k < externals S.study).
      magnitude-zero (boundary_tie S i k) (tie-null k h) (tie-at S i (externals S.study) k h computed).squares

  pub no-correction : voltage_correction S i ≡ plus0
  unfolding voltage_correction
  no-correction = rw (none_above (weight_sum S i) no-weight)

  pub no-compensation : F.Zero (q_compensation S i)
  unfolding q_compensation reactive
  no-compensation = sum-zero (externals S.study) (λ (k : ℕ). reactive S.study.base (boundary_tie S i k) (deviation S k)) λ (k : ℕ) (h : k < externals S.study).
      let numbers = tie-at S i (externals S.study) k h computed in
      let b = (boundary_tie S i k).im in
      let slope = zero-times binary64 (neg b) (deviation S k) (F.neg-zero b (tie-null k h).1) numbers.slope in
      (zero-times binary64 (neg b ⊗ deviation S k) S.study.base slope numbers.power, mul-fits binary64 (neg b ⊗ deviation S k) S.study.base)

-- the ties of the bus at place t of the boundary
ties-computed : (S : ExtendedStudy) (t : ℕ) → t < length S.study.boundary → T (all_finite (of_extended S)) → T (all_finite (of_ties S (get_or S.study.boundary t 0) (externals S.study)))
unfolding of_correction
ties-computed S t l h =
    let own = each_at (of_correction S) S.study.boundary t l (corrections-computed S h) in
    search (all_left, all_right)

module _ (S : ExtendedStudy) (computed : T (all_finite (of_extended S))) (p : ℕ) (none : ZeroRow S.study p) where
  none-at : (t : ℕ) → p ≡ length S.study.internal + t → (e : ℕ) → e is_one_of S.study.external → Zero (admittance S.study (get_or S.study.boundary t 0) e)
  unfolding ZeroRow old bus_of_row row_buses admittance retained
  none-at t q e m = rw (bus-at S.study p t q) at (none e m)

  correction-zero : ZeroAt S.study p (map (voltage_correction S) S.study.boundary)
  unfolding ZeroAt
  correction-zero t l q =
      rw (get_or_map (voltage_correction S) 0 nan S.study.boundary t l, no-correction S (get_or S.study.boundary t 0) (none-at t q) (ties-computed S t l computed))
      (F.zero-eq plus0 plus0-zero)

  compensation-zero : ZeroAt S.study p (map (q_compensation S) S.study.boundary)
  unfolding ZeroAt
  compensation-zero t l q =
      rw (get_or_map (q_compensation S) 0 nan S.study.boundary t l)
      (F.zero-eq (q_compensation S (get_or S.study.boundary t 0)) (no-compensation S (get_or S.study.boundary t 0) (none-at t q) (ties-computed S t l computed)))

pub zero-row_x : (X : NumberedExtended) (a : Allowance) (o : ExtendedOutputs) → F64s X.study.study.given → AcceptedExtended X a o
    → (p : ℕ) → p < length (row_buses (in_rows X.study)) → ZeroRow (in_rows X.study) p → KeepsExtendedRow (extended_in_rows X) (after_compute_extended X a o).outputs p
unfolding in_rows extended_in_rows
zero-row_x X a o f64s h p at none =
    let S = in_rows X.study in
    let E = extended_in_rows X in
    let given : T (all_finite S.given) = matrix-given S (all_left (given_of S) X.v-ext (given-finite_x X a o h)) in
    let computed : T (all_finite (of_extended E)) = computed-finite_x X a o h in
    let study : T (all_finite (of_study S)) = study-computed E computed in
    record {
      row = subst (λ (room : Outputs). KeepsRow S room p) (sym (left-accepted_x X a o h)) (keeps-row S (sound_x X a o h) f64s given study p at none (zeros (length o.outputs.work)));
      correction = subst (ZeroAt S p) (sym (correction-accepted X a o h)) (correction-zero E computed p none);
      compensation = subst (ZeroAt S p) (sym (compensation-accepted X a o h)) (compensation-zero E computed p none);
    }

-- `search h` takes the part of the premise that is wanted: one that says more has it too
pub ward_rows : WardRows
unfolding extended_in_rows
ward_rows = record {
  study = λ N a o f64s h. zero_row N a o f64s (search h);
  extended = λ N a o f64s h. zero-row_x N a o f64s (search h);
  finite = λ N a o h. record { given = given-finite N a o h; computed = computed-finite N a o h };
  finite-extended = λ N a o h. record { given = given-finite_x N a o h; computed = computed-finite_x N a o h };
  accepts = λ N a o shape f regular h. finite-studies.accepted N a o shape f.given f.computed regular (search h);
  accepts-extended = λ N a o shape f regular h. finite-studies.accepted-extended N a o shape f.given f.computed regular (search h);
}
