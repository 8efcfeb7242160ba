-- `solver::solving::inverted` meets its contract.
use Rattle.prelude.proofs.Prelude.{◌≡◌, Bool, true, sym, ap, ◌∙◌, cond, List, ℕ, ◌+◌, arith, rules, Float}
use Rattle.std.proofs.Common.{is_ok}
use Rattle.std.proofs.lemmas.Result.{MatchResult-at_err}
use Rattle.complex.specs.{Matrix, entry_at, grid, zeros}
use Rattle.complex.proofs.FiniteEntries.{slice-entries}
use Rattle.complex.proofs.Matrices.{grid-same}
use Rattle.refusals.specs.declared.Allowance.TheVariants.{Unlimited}
use Rattle.refusals.specs.Refusals.{number_of}
use Rattle.refusals.specs.Work.{work_refusal}
use Rattle.solver.specs.Solving.{inverse, unit_column}
use Rattle.solver.specs.Steps.{steps_of_inverse}
use Rattle.solver.specs.Inner.Work.{right_sides}
use Rattle.solver.proofs.Told.{done-left, same-number, by_number}
use Rattle.solver.proofs.Allowances.{inverse-refused}
use Rattle.solver.proofs.Solutions.{ended_is, solution-is, filled-finite, identity-finite}
use Rattle.solver.proofs.solving.inverted.Goals.{then-is_ok, else-is_ok, After-eliminate-end, Start}
use Rattle.solver.proofs.solving.inverted.Goals as goal

pub eliminate-end-requires : goal.eliminate-end-requires
eliminate-end-requires c = (
  omega arith,
  omega (arith, c.requires.0),
  search rules,
  filled-finite c.args.n c.args.n (entry_at c.args.n c.args.mat.now) (λ (r k : ℕ). unit_column k r) _ c.fill_identity.ensures (search rules)
      (slice-entries c.args.n c.args.n c.args.mat.now c.requires.2 c.requires.4) (identity-finite c.args.n c.args.n),
)

-- the slice is filled and eliminated
module _ (c : After-eliminate-end) where
  abbrev start : Start
  start = (goal.at.After-eliminate-end c).Start

  abbrev A : Matrix
  A = entry_at start.args.n start.args.mat.now

  abbrev solution : List Float
  solution = grid start.args.n start.args.n (inverse start.args.n A)

  told : number_of c.eliminate-end.result ≡ work_refusal Unlimited (steps_of_inverse start.args.n A)
  unfolding steps_of_inverse
  told = inverse-refused start.args.n A c.eliminate-end.result
      (ended_is start.args.n start.args.n A (λ (r k : ℕ). unit_column k r) _ c.fill_identity.ensures _ _ c.eliminate-end.new.work c.eliminate-end.ensures)

  read : is_ok c.eliminate-end.result ≡ true → grid start.args.n start.args.n (right_sides start.args.n (entry_at (start.args.n + start.args.n) c.eliminate-end.new.work)) ≡ solution
  read d =
      let (left, e) = done-left c.eliminate-end.result d in
      grid-same start.args.n start.args.n _ (inverse start.args.n A)
      (λ (i j : ℕ) h k. solution-is start.args.n start.args.n A (λ (r k : ℕ). unit_column k r) _ c.fill_identity.ensures _ _ _ c.eliminate-end.ensures left e i j h k)

pub returns : goal.returns
returns c =
    let run = (goal.at.returns c).After-eliminate-end in
    let end = c.eliminate-end.result in
    let same = same-number end c.map.result c.map.ensures.variant (λ e h. MatchResult-at_err _ _ e h c.map.ensures.cases) in
    let written : c.if-is_ok.inverse ≡ cond (is_ok end) (solution run) c.args.inverse.now
    = elim c.if-is_ok.branch [
      | then-is_ok w ↦ let done = sym c.is_ok.ensures.value ∙ w.if-is_ok.true in w.inverse-is ∙ w.take.ensures ∙ read run done ∙ sym (ap (λ (t : Bool). cond t (solution run) c.args.inverse.now) done)
      | else-is_ok w ↦ w.inverse-is ∙ sym (ap (λ (t : Bool). cond t (solution run) c.args.inverse.now) (sym c.is_ok.ensures.value ∙ w.if-is_ok.false))
    ] in (
      by_number c.map.result _ (same ∙ told run),
      written ∙ sym (ap (λ (t : Bool). cond t (solution run) c.args.inverse.now) c.map.ensures.variant),
      c.clear.ensures ∙ ap zeros (c.eliminate-end.auto.work ∙ c.fill_identity.auto.work),
    )
