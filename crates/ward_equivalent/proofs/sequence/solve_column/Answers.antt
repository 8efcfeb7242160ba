-- `ward_equivalent::sequence::solve_column` meets its contract.
use Rattle.prelude.proofs.Prelude.{◌≡◌, refl, subst, ap, ◌∙◌, ℕ, ◌*◌, ◌<◌, arith, length}
use Rattle.std.proofs.Common.{Result}
use Rattle.std.proofs.lemmas.Result.{err_from_is_err_and}
use Rattle.refusals.specs.declared.Refusal.{Refusal}
use Rattle.solver.specs.Inner.Work.{Ended}
use Rattle.solver.proofs.Told.{not_done}
use Rattle.ward_equivalent.specs.Steps.{steps_of_column}
use Rattle.ward_equivalent.specs.Inner.Sequence.{columns_input}
use Rattle.ward_equivalent.proofs.Alone.{column-set, column-ended, column-solution, taken-column}
use Rattle.ward_equivalent.proofs.sequence.solve_column.Goals as goal

pub eliminate-requires : goal.eliminate-requires
eliminate-requires c =
    let long = c.fill_column.auto.front ∙ c.requires.1 in
    (omega arith, omega (arith, c.args.parts.distinct, c.args.parts.few), long, column-set c.args.parts.matrix.n c.args.parts.matrix.y.now c.args.parts.outer.now c.args.parts.external c.args.parts.finite c.args.bus c.requires.0 _ c.fill_column.ensures long)

pub returns-in_err-rest : goal.returns-in_err-rest
returns-in_err-rest c =
    let p = err_from_is_err_and c.from_residual.result c.from_residual.ensures.1 in
    rw (p.1, p.2) (
      subst (λ (t : Result ℕ Refusal). Ended c.args.left t (steps_of_column (columns_input c.args.parts.matrix.n c.args.parts.matrix.y.now c.args.parts.outer.now) c.args.bus)) c.in_err-rest.was
          (column-ended c.args.parts.matrix.n c.args.parts.matrix.y.now c.args.parts.outer.now c.args.parts.external c.args.parts.finite c.args.bus c.requires.0 _ c.fill_column.ensures c.args.left _ _ c.eliminate.ensures),
      λ (rest : ℕ) d. absurd (not_done refl d),
    )

pub take-requires : goal.take-requires
take-requires c =
    record { full = c.eliminate.auto.work ∙ c.fill_column.auto.front ∙ c.requires.1; whole = c.requires.2 ∙ ap (λ (k : ℕ). 2 * k) (one_each (length c.args.parts.outer.now)) }
  where
    one_each : (e : ℕ) → e ≡ e * 1
    one_each e = omega arith

pub returns : goal.returns
returns c = (
  subst (λ (t : Result ℕ Refusal). Ended c.args.left t (steps_of_column (columns_input c.args.parts.matrix.n c.args.parts.matrix.y.now c.args.parts.outer.now) c.args.bus)) c.in_ok-rest.was
      (column-ended c.args.parts.matrix.n c.args.parts.matrix.y.now c.args.parts.outer.now c.args.parts.external c.args.parts.finite c.args.bus c.requires.0 _ c.fill_column.ensures c.args.left _ _ c.eliminate.ensures),
  λ (rest : ℕ) d (k : ℕ) (h : k < length c.args.parts.outer.now).
      taken-column (length c.args.parts.outer.now) c.eliminate.new.work _ c.take.ensures k h
      ∙ column-solution c.args.parts.matrix.n c.args.parts.matrix.y.now c.args.parts.outer.now c.args.parts.external c.args.parts.finite c.args.bus c.requires.0 _ c.fill_column.ensures c.args.left _ _ c.eliminate.ensures _ c.in_ok-rest.was k h,
)
