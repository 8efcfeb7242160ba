-- `solver::solving::solved` meets its contract.
use Rattle.prelude.proofs.Prelude.{◌≡◌, Bool, true, sym, ap, ◌∙◌, cond, List, ℕ, ◌+◌, arith, rules, Float}
use Rattle.std.proofs.Common.{is_ok}
use Rattle.complex.specs.{entry, Matrix, entry_at, grid, zeros}
use Rattle.complex.proofs.FiniteEntries.{slice-entries}
use Rattle.complex.proofs.Matrices.{grid-same}
use Rattle.solver.specs.Solving.{solve}
use Rattle.solver.specs.Steps.{steps_of_solve}
use Rattle.solver.specs.Inner.Work.{Ended, right_sides}
use Rattle.solver.proofs.Told.{done-left}
use Rattle.solver.proofs.Solutions.{ended_is, solution-is, filled-finite, side-finite}
use Rattle.solver.proofs.solving.solved.Goals.{then-is_ok, else-is_ok, After-eliminate-end, Start}
use Rattle.solver.proofs.solving.solved.Goals as goal

pub eliminate-end-requires : goal.eliminate-end-requires
eliminate-end-requires c = (
  omega arith,
  omega (arith, c.requires.0),
  search rules,
  filled-finite c.args.n 1 (entry_at c.args.n c.args.a.now) (λ (r k : ℕ). entry c.args.b.now r) _ c.fill_system.ensures (search rules)
      (slice-entries c.args.n c.args.n c.args.a.now c.requires.2 c.requires.5) (side-finite c.args.n c.args.b.now c.requires.3 c.requires.6),
)

-- the slice is filled and eliminated
module _ (c : After-eliminate-end) where
  abbrev start : Start
  start = (goal.at.After-eliminate-end c).Start

  abbrev A : Matrix
  A = entry_at start.args.n start.args.a.now

  abbrev solution : List Float
  solution = grid start.args.n 1 (λ (i k : ℕ). solve start.args.n A (entry start.args.b.now) i)

  told : Ended start.args.allowed c.eliminate-end.result (steps_of_solve start.args.n A (entry start.args.b.now))
  unfolding steps_of_solve
  told = ended_is start.args.n 1 A (λ (r k : ℕ). entry start.args.b.now r) _ c.fill_system.ensures _ _ c.eliminate-end.new.work c.eliminate-end.ensures

  read : is_ok c.eliminate-end.result ≡ true → grid start.args.n 1 (right_sides start.args.n (entry_at (start.args.n + 1) c.eliminate-end.new.work)) ≡ solution
  read d =
      let (left, e) = done-left c.eliminate-end.result d in
      grid-same start.args.n 1 _ _
      (λ (i j : ℕ) h k. solution-is start.args.n 1 A (λ (r k : ℕ). entry start.args.b.now r) _ c.fill_system.ensures _ _ _ c.eliminate-end.ensures left e i j h k)

pub returns : goal.returns
returns c =
    let run = (goal.at.returns c).After-eliminate-end in
    let written : c.if-is_ok.x ≡ cond (is_ok c.eliminate-end.result) (solution run) c.args.x.now
    = elim c.if-is_ok.branch [
      | then-is_ok w ↦ let done = sym c.is_ok.ensures.value ∙ w.if-is_ok.true in w.x-is ∙ w.take.ensures ∙ read run done ∙ sym (ap (λ (t : Bool). cond t (solution run) c.args.x.now) done)
      | else-is_ok w ↦ w.x-is ∙ sym (ap (λ (t : Bool). cond t (solution run) c.args.x.now) (sym c.is_ok.ensures.value ∙ w.if-is_ok.false))
    ] in
    (told run, written, c.clear.ensures ∙ ap zeros (c.eliminate-end.auto.work ∙ c.fill_system.auto.work))
