-- `ward_equivalent::compute_extended` meets its contract.
use Rattle.prelude.proofs.Prelude.{List, ◌≡◌, sym, ap, ◌∙◌, subst, true, ◌+◌, ◌-◌, ◌*◌, ◌≤◌, ◌∷◌, ◌++◌, ℕ, arith, T, length, take, drop}
use Rattle.std.proofs.lemmas.Result.{err_from_is_err_and}
use Rattle.binary64.specs.Values.{all_finite}
use Rattle.complex.proofs.Finite.{all_left}
use Rattle.refusals.specs.Refusals.{limit}
use Rattle.refusals.proofs.Answering.{accepted}
use Rattle.ward_equivalent.specs.Lengths.{length_refusal}
use Rattle.lists.specs.Buses.{rows_in}
use Rattle.ward_equivalent.specs.declared.lengths.Lengths.{Lengths}
use Rattle.ward_equivalent.specs.Ward.{Study, given_of, retained, listed}
use Rattle.ward_equivalent.specs.Extended.{ExtendedOutputs}
use Rattle.ward_equivalent.specs.Studied.{studied_extended}
use Rattle.ward_equivalent.specs.Calls.{study_of, outputs_of, extended_outputs_of}
use Rattle.ward_equivalent.specs.Inner.Listed.{extended_of}
use Rattle.ward_equivalent.specs.Numbers.{lengths_of, NumberedExtended, numbered_of, numbered_extended_of, extended_lengths_of, extended_in_rows, bus_refusal, extended_shape_refusal}
use Rattle.refusals.specs.declared.Allowance.TheVariants.{Rows}
use Rattle.ward_equivalent.proofs.Allowances.{allowed-extended}
use Rattle.ward_equivalent.proofs.Told.{Fitting, lengths-pass}
use Rattle.ward_equivalent.proofs.Naming.{front-joined}
use Rattle.ward_equivalent.proofs.Named.{CheckedStudy, lengths-passed, told_none, without, rows-listed, rows-boundary, cut-rows, told-first, told-then, answered-done_x, answered-lost_x, answered-refused_x}
use Rattle.ward_equivalent.proofs.compute_extended.Goals.{After-placed, Else-not-extended_finite, In_ok-length_refusal, In_ok-placed, Start}
use Rattle.ward_equivalent.proofs.compute_extended.Goals as goal

-- what is given, the slices at entry, and all lengths
module _ (s : Start) where
  abbrev given : NumberedExtended
  given = numbered_extended_of (numbered_of s.args.numbers.now (study_of s.args.n s.args.y.now s.args.internal.now s.args.external.now s.args.boundary.now s.args.base_mva s.args.p_ext.now s.args.q_ext.now)) s.args.v_ext.now

  abbrev outputs : ExtendedOutputs
  outputs = extended_outputs_of (outputs_of s.args.y_ward.now s.args.p_ward.now s.args.q_ward.now s.args.work.now) s.args.voltage_correction.now s.args.q_compensation.now

  abbrev lengths : Lengths
  lengths = extended_lengths_of given outputs

pub returns-in_err-length_refusal : goal.returns-in_err-length_refusal
unfolding extended_shape_refusal
returns-in_err-length_refusal c =
    let s = (goal.at.returns-in_err-length_refusal c).Start in
    let p = err_from_is_err_and c.from_residual.result c.from_residual.ensures.1 in
    rw (p.1, p.2) (answered-refused_x (given s) s.args.allowance (outputs s) _ (told-first (lengths s) s.args.numbers.now (listed (given s).study.study) _ c.in_err-length_refusal.ensures), c.shared_slice_known-1.given)

-- where the lengths are right
module _ (c : In_ok-length_refusal) where
  abbrev start : Start
  start = (goal.at.In_ok-length_refusal c).Start

  passed : length_refusal (lengths start) 0 ≡ 0
  passed = lengths-passed (lengths start) _ c.in_ok-length_refusal.ensures

  fits : Fitting (lengths start)
  fits = (lengths-pass (lengths start) 0 passed).0.fits

  few : length start.args.external.now + length start.args.internal.now + length start.args.boundary.now ≤ 3 * limit
  few = let f = fits.few in omega (arith, f.internal, f.external, f.boundary)

-- and the rows are looked up
module _ (c : After-placed) where
  abbrev test : In_ok-length_refusal
  test = (goal.at.After-placed c).In_ok-length_refusal

pub returns-in_err-placed : goal.returns-in_err-placed
unfolding extended_shape_refusal listed retained
returns-in_err-placed c =
    let t = test (goal.at.returns-in_err-placed c).After-placed in let s = start t in
    let p = err_from_is_err_and c.from_residual-in_err-placed.result c.from_residual-in_err-placed.ensures.1 in
    rw (p.1, p.2) (answered-refused_x (given s) s.args.allowance (outputs s) _ (told-then (lengths s) s.args.numbers.now (listed (given s).study.study) (passed t) _ (sym c.in_err-placed.was ∙ c.placed.ensures.1)), c.shared_slice_known-1.given)

-- and no bus is refused
module _ (c : In_ok-placed) where
  abbrev placed : After-placed
  placed = (goal.at.In_ok-placed c).After-placed

  abbrev begun : Start
  begun = start (test placed)

  abbrev list : List ℕ
  list = take (length begun.args.external.now + length begun.args.internal.now + length begun.args.boundary.now - 0) (drop 0 placed.placed.new.rows)

  rows : list
      ≡ rows_in begun.args.numbers.now (begun.args.external.now ++ (begun.args.internal.now ++ begun.args.boundary.now))
  rows = front-joined begun.args.numbers.now begun.args.external.now begun.args.internal.now begun.args.boundary.now placed.placed.new.rows _ placed.placed.ensures.0

  no-refusal : bus_refusal begun.args.numbers.now (begun.args.external.now ++ (begun.args.internal.now ++ begun.args.boundary.now)) ≡ 0
  no-refusal = (accepted (tt {0}) tt _ _ (sym c.in_ok-placed.was ∙ placed.placed.ensures.1)).0

  told : 0 ≡ extended_shape_refusal (given (start (test placed))) (outputs (start (test placed)))
  unfolding extended_shape_refusal listed retained
  told = told_none (lengths begun) begun.args.numbers.now (listed (given begun).study.study) (passed (test placed)) no-refusal

pub returns-then-not-extended_finite : goal.returns-then-not-extended_finite
unfolding given_of
returns-then-not-extended_finite c =
    let s = begun (goal.at.returns-then-not-extended_finite c).In_ok-placed in
    (answered-lost_x (given s) s.args.allowance (outputs s) (told (goal.at.returns-then-not-extended_finite c).In_ok-placed) (sym c.extended_finite.ensures ∙ c.if-not-extended_finite.true), c.shared_slice_known-1.given)

-- and all numbers are finite
module _ (c : Else-not-extended_finite) where
  abbrev named : In_ok-placed
  named = (goal.at.Else-not-extended_finite c).In_ok-placed

  numbers : all_finite (given_of (given (begun named)).study.study ++ (given (begun named)).v-ext) ≡ true
  unfolding given_of
  numbers = sym c.extended_finite.ensures ∙ c.if-not-extended_finite.false

  matrix : T (all_finite (begun named).args.y.now)
  unfolding given_of
  matrix =
      all_left (begun named).args.y.now ((begun named).args.base_mva ∷ ((begun named).args.p_ext.now ++ (begun named).args.q_ext.now)) (all_left ((begun named).args.y.now ++ ((begun named).args.base_mva ∷ ((begun named).args.p_ext.now ++ (begun named).args.q_ext.now))) (begun named).args.v_ext.now (subst T (sym numbers) tt))

-- the study on one list
module _ (c : Else-not-extended_finite) where
  lengths-fit : Fitting (lengths_of (given (begun (named c))).study (outputs (begun (named c))).outputs)
  lengths-fit = without (given (begun (named c))) (outputs (begun (named c))) (fits (test (placed (named c))))

  checked : CheckedStudy (begun (named c)).args.n (begun (named c)).args.y.now (list (named c)) (length (begun (named c)).args.external.now) (length (begun (named c)).args.external.now + length (begun (named c)).args.internal.now) (begun (named c)).args.p_ext.now (begun (named c)).args.q_ext.now (outputs (begun (named c))).outputs
  checked =
      rows-listed (given (begun (named c))).study (outputs (begun (named c))).outputs _ lengths-fit (matrix c) (no-refusal (named c)) (rows (named c))

pub invariant_of-study : goal.invariant_of-study
invariant_of-study c =
    let h = checked (goal.at.invariant_of-study c).Else-not-extended_finite in
    record { listing = h.listing; few = h.few; distinct = h.distinct; first = h.first; last = h.last; p_each = h.p_each; q_each = h.q_each; finite = h.finite }

pub corrected-requires : goal.corrected-requires
corrected-requires c =
    let e = named (goal.at.corrected-requires c).Else-not-extended_finite in let s = begun e in
    let F = fits (test (placed e)) in let t = rows-boundary (given s).study _ (rows e) in
    ((checked (goal.at.corrected-requires c).Else-not-extended_finite).slices, F.v-ext, F.correction ∙ t, F.compensation ∙ t)

pub returns : goal.returns
unfolding extended_in_rows
returns c =
    let e = named (goal.at.returns c).Else-not-extended_finite in let s = begun e in (
      c.corrected.ensures
          ∙ ap (λ (S : Study). studied_extended (extended_of S s.args.v_ext.now) (Rows c.allowed_rows.result) (outputs s) 0) (cut-rows (given s).study _ (rows e))
          ∙ ap (λ (m : ℕ). studied_extended (extended_in_rows (given s)) (Rows m) (outputs s) 0) c.allowed_rows.ensures
          ∙ allowed-extended (given s) (outputs s) (without (given s) (outputs s) (fits (test (placed e)))) s.args.allowance
          ∙ answered-done_x (given s) s.args.allowance (outputs s) (told e) (numbers (goal.at.returns c).Else-not-extended_finite),
      c.shared_slice_known-1.given,
    )

pub placed-requires : goal.placed-requires
placed-requires c = omega (arith, few (goal.at.placed-requires c).In_ok-length_refusal)

pub slice_bounds-study-end : goal.slice_bounds-study-end
slice_bounds-study-end c = omega (arith, few (test (placed (goal.at.slice_bounds-study-end c).In_ok-placed)), (placed (goal.at.slice_bounds-study-end c).In_ok-placed).placed.auto.rows)
