-- `solver::elimination::Turn::clear` meets its contract.
use Rattle.prelude.proofs.Prelude.{◌≡◌, refl, sym, ◌∙◌, subst, true, false, List, ℕ, ◌-◌, ◌≤◌, ◌<◌, arith, rules, Float}
use Rattle.std.proofs.Common.{Some, None}
use Rattle.std.proofs.lemmas.Result.{err_from_is_err_and}
use Rattle.refusals.specs.declared.Refusal.TheVariants.{ComputedNotFinite}
use borrow.Rule.Slice.PartMut.{same_len_mid}
use Rattle.binary64.specs.Values.{all_finite}
use Rattle.complex.specs.{Complex, unit, of_quotient, complex_inv, entry, entry_at, Matrix}
use Rattle.complex.specs.Leaves.{inverse, quotient}
use Rattle.lists.proofs.Parts.{back}
use Rattle.complex.proofs.Answers.{pair-tells, pair-tells-not}
use Rattle.solver.specs.GaussJordan.{scaled, cleared}
use Rattle.solver.specs.Solving.{operations}
use Rattle.solver.specs.Inner.Work.{with_row}
use Rattle.solver.proofs.GaussJordan.{reduced-same}
use Rattle.solver.proofs.Told.{not_done, not-small}
use Rattle.solver.proofs.RowParts.{row_written, scaled-is, row_put}
use Rattle.solver.proofs.ColumnSteps.{clearing-not-finite, clearing-told}
use Rattle.solver.proofs.elimination.Turn.clear.Goals.{After-complex_inv, After-scale, After-row_of-place, Start}
use Rattle.solver.proofs.elimination.Turn.clear.Goals as goal

-- the pivot is inverted, or not
module _ (c : After-complex_inv) where
  abbrev start : Start
  start = (goal.at.After-complex_inv c).Start

  abbrev A : Matrix
  A = entry_at start.args.self.w start.args.work.now

  pivot : c.get.result ≡ A start.args.self.c start.args.self.c
  pivot = c.get.ensures ∙ start.requires.2 start.args.self.c (omega arith)

pub returns-in_err-inverse : goal.returns-in_err-inverse
unfolding inverse quotient
returns-in_err-inverse c =
    let none : c.complex_inv.result ≡ None = grind arith in
    let computed : c.in_err-inverse.field-0.0 ≡ ComputedNotFinite = grind arith in
    let lost = pair-tells-not _ _ (sym none ∙ c.complex_inv.ensures) in
    let p = err_from_is_err_and c.from_residual.result c.from_residual.ensures.1 in
    let s = start (goal.at.returns-in_err-inverse c).After-complex_inv in
    rw (p.1, p.2, computed) (clearing-not-finite s.args.self.n s.args.self.w s.args.self.c s.args.allowed s.args.work.now (subst (λ (x : Complex). all_finite (of_quotient unit x) ≡ false) (pivot (goal.at.returns-in_err-inverse c).After-complex_inv) lost), λ left e. absurd (not_done refl e), λ e. not-small refl e)

-- row c is scaled, in its place and in `row`
module _ (c : After-scale) where
  abbrev inverted : After-complex_inv
  inverted = (goal.at.After-scale c).After-complex_inv

  abbrev spanned : After-row_of-place
  spanned = (goal.at.After-scale c).After-row_of-place

  -- the slice then
  abbrev now : List Float
  now = back spanned.row_of-place.result.start (spanned.row_of-place.result.end - spanned.row_of-place.result.start) (start inverted).args.work.now c.scale.new.to

  put : (i j : ℕ) → j < (start inverted).args.self.w
      → entry_at (start inverted).args.self.w now i j ≡ with_row (start inverted).args.self.c (entry c.scale.new.row) (A inverted) i j
  put = row_written spanned.row_of-place.ensures (start inverted).args.work.now c.scale.new.to (start inverted).requires.0 c.scale.auto.to
      (entry c.scale.new.row) c.scale.ensures.2

pub reduce_others-requires : goal.reduce_others-requires
reduce_others-requires c =
    let s = start (inverted (goal.at.reduce_others-requires c).After-scale) in (search rules, c.scale.ensures.0, row_put s.args.self.w s.args.self.c (entry c.scale.new.row) (A (inverted (goal.at.reduce_others-requires c).After-scale)) _ (put (goal.at.reduce_others-requires c).After-scale))

pub returns : goal.returns
unfolding cleared inverse quotient complex_inv
returns c =
    let v = inverted (goal.at.returns c).After-scale in let s = start v in let B = A v in
    let wide : s.args.self.n ≤ s.args.self.w = omega arith in
    let here : s.args.self.c < s.args.self.n = omega arith in
    let some : v.complex_inv.result ≡ Some c.in_ok-inverse.inverse = grind arith in
    let told = pair-tells _ _ _ (sym some ∙ v.complex_inv.ensures) in
    let same : (r q : ℕ) → q < s.args.self.w → _ ≡ scaled operations s.args.self.c B r q
    = λ r q z. scaled-is s.args.self.w s.args.self.c (entry s.args.row.now) (entry c.scale.new.row) B _ v.get.result _ (omega arith) s.requires.2 v.get.ensures told.1 c.scale.ensures.1 (put (goal.at.returns c).After-scale) r q z in
    let finite = subst (λ (y : Complex). all_finite (of_quotient unit y) ≡ true) (pivot v) told.0 in (
      clearing-told s.args.self.n s.args.self.w s.args.self.c s.args.allowed s.args.work.now wide here s.requires.0 finite _ (same_len_mid (spanned (goal.at.returns c).After-scale).row_of-place.result.start ((spanned (goal.at.returns c).After-scale).row_of-place.result.end - (spanned (goal.at.returns c).After-scale).row_of-place.result.start) s.args.work.now c.scale.new.to c.scale.auto.to ∙ s.requires.0) same _ _ c.reduce_others.ensures.0,
      λ left e i j h k. c.reduce_others.ensures.1 left e i j h k ∙ reduced-same operations s.args.self.n s.args.self.w wide _ (scaled operations s.args.self.c B) (λ r q y z. same r q z) s.args.self.c here i j h k,
      c.reduce_others.ensures.2,
    )
