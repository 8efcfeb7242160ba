-- `solver::solve_linear` meets its contract.
use Rattle.prelude.proofs.Prelude.{◌≡◌, sym, ap, ◌∙◌, subst, ℕ, ◌+◌, arith, length}
use Rattle.std.proofs.Common.{Result, Ok}
use Rattle.std.proofs.lemmas.Result.{err_from_is_err_and}
use Rattle.complex.specs.{entry, entry_at}
use Rattle.refusals.specs.declared.Refusal.{Refusal}
use Rattle.refusals.specs.Refusals.{answered, number_of}
use Rattle.refusals.specs.Work.{reductions, allowed_rows}
use Rattle.refusals.proofs.Answering.{answered-number, accepted}
use Rattle.solver.specs.Steps.{steps_of_solve}
use Rattle.solver.specs.Inner.Work.{Ended}
use Rattle.solver.specs.Calls.{AfterElimination, solve_refusal, after_solve}
use Rattle.solver.proofs.Accepted.{solve-accepted}
use Rattle.solver.proofs.Allowances.{solve-told, solve-after}
use Rattle.solver.proofs.solve_linear.Goals.{After-solved, In_ok-solve_refusal, Start}
use Rattle.solver.proofs.solve_linear.Goals as goal

pub returns-in_err-solve_refusal : goal.returns-in_err-solve_refusal
returns-in_err-solve_refusal c =
    let p = err_from_is_err_and c.from_residual.result c.from_residual.ensures.1 in
    rw (p.1, p.2) (solve-told c.args.n c.args.a.now c.args.b.now c.args.allowance c.args.x.now c.args.work.now _ c.in_err-solve_refusal.ensures)

pub solved-requires : goal.solved-requires
solved-requires c =
    let k = solve-accepted c.args.n c.args.a.now c.args.b.now (length c.args.x.now) (length c.args.work.now) (accepted (tt {0}) tt _ tt c.in_ok-solve_refusal.ensures).0 in
    let s = k.shape in
    (s.size, s.room, s.matrix, s.right, s.solution, k.system-finite, k.right-finite)

-- the system is solved, or not
module _ (c : After-solved) where
  abbrev passed : In_ok-solve_refusal
  passed = (goal.at.After-solved c).In_ok-solve_refusal

  abbrev start : Start
  start = (goal.at.In_ok-solve_refusal passed).Start

  none-told : solve_refusal start.args.n start.args.a.now start.args.b.now (length start.args.x.now) (length start.args.work.now) ≡ 0
  none-told = (accepted (tt {0}) tt _ tt passed.in_ok-solve_refusal.ensures).0

  abbrev count : ℕ
  count = reductions (steps_of_solve start.args.n (entry_at start.args.n start.args.a.now) (entry start.args.b.now))

  ended : Ended (allowed_rows start.args.allowance) c.solved.result (steps_of_solve start.args.n (entry_at start.args.n start.args.a.now) (entry start.args.b.now))
  ended = subst (λ (m : ℕ). Ended m c.solved.result (steps_of_solve start.args.n (entry_at start.args.n start.args.a.now) (entry start.args.b.now))) c.allowed_rows-allowed.ensures c.solved.ensures.0

  -- what the call answers and leaves, by what the elimination answered
  after : (end : Result ℕ Refusal) → c.solved.result ≡ end → (answer : Result ℕ Refusal) → answer ≡ answered count (number_of end)
      → let r = after_solve start.args.n start.args.a.now start.args.b.now start.args.allowance start.args.x.now start.args.work.now in
      (answer ≡ r.answer) × (c.solved.new.x ≡ r.output) × (c.solved.new.work ≡ r.work)
  after end e answer a =
      let r = solve-after start.args.n start.args.a.now start.args.b.now start.args.allowance start.args.x.now start.args.work.now none-told (solve-accepted _ _ _ _ _ none-told).shape.size c.solved.result ended in
      (a ∙ ap (λ (x : Result ℕ Refusal). answered count (number_of x)) (sym e) ∙ sym (ap (λ (x : AfterElimination (Result ℕ Refusal)). x.answer) r), c.solved.ensures.1 ∙ sym (ap (λ (x : AfterElimination (Result ℕ Refusal)). x.output) r), c.solved.ensures.2 ∙ sym (ap (λ (x : AfterElimination (Result ℕ Refusal)). x.work) r))

  -- what is left of the allowance
  spent : (left : ℕ) → c.solved.result ≡ Ok left → count + left ≡ c.allowed_rows-allowed.result
  spent left e = c.solved.ensures.0.count left e

pub returns-in_err-left : goal.returns-in_err-left
returns-in_err-left c =
    let p = err_from_is_err_and c.from_residual-in_err-left.result c.from_residual-in_err-left.ensures.1 in
    after (goal.at.returns-in_err-left c).After-solved _ c.in_err-left.was _ (rw (p.1, p.2) (sym (answered-number _ _)))

pub returns : goal.returns
unfolding answered
returns c = let t = spent (goal.at.returns c).After-solved _ c.in_ok-left.was in after (goal.at.returns c).After-solved _ c.in_ok-left.was _ (ap Ok (omega arith))
