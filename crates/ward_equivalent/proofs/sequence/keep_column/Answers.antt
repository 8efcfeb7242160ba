-- `ward_equivalent::sequence::keep_column` meets its contract.
use Rattle.prelude.proofs.Prelude.{refl, subst, get_or, ap, ◌∙◌, cond, ℕ, ◌+◌, ◌*◌, arith, eqb, length, drop}
use Rattle.complex.specs.{Complex, entry_at}
use Rattle.std.proofs.Common.{Result}
use Rattle.std.proofs.lemmas.Result.{err_from_is_err_and}
use Rattle.refusals.specs.declared.Refusal.{Refusal}
use Rattle.solver.specs.Inner.Work.{Ended}
use Rattle.solver.proofs.Told.{not_done}
use Rattle.ward_equivalent.specs.Steps.{steps_of_column}
use Rattle.ward_equivalent.specs.Inner.Sequence.{columns_input}
use Rattle.ward_equivalent.proofs.Places.{listed_below}
use Rattle.ward_equivalent.proofs.Kept.{kept-place, front-part}
use Rattle.ward_equivalent.proofs.sequence.keep_column.Goals as goal

pub solve_column-requires : goal.solve_column-requires
solve_column-requires c =
    (listed_below c.args.parts.matrix.n c.args.parts.matrix.y.now c.args.parts.kept.now c.args.parts.retained c.args.q c.requires.0, front-part (2 * (length c.args.parts.outer.now * (length c.args.parts.outer.now + 1))) c.args.work.now (omega (arith, c.requires.1)), c.requires.2)

pub returns-in_err-rest : goal.returns-in_err-rest
returns-in_err-rest c =
    let p = err_from_is_err_and c.from_residual.result c.from_residual.ensures.1 in
    rw (p.1, p.2) (
      subst (λ (t : Result ℕ Refusal). Ended c.args.left t (steps_of_column (columns_input c.args.parts.matrix.n c.args.parts.matrix.y.now c.args.parts.outer.now) (get_or c.args.parts.kept.now c.args.q 0))) c.in_err-rest.was c.solve_column.ensures.0,
      λ (rest : ℕ) d. absurd (not_done refl d),
    )

pub returns : goal.returns
returns c = (
  subst (λ (t : Result ℕ Refusal). Ended c.args.left t (steps_of_column (columns_input c.args.parts.matrix.n c.args.parts.matrix.y.now c.args.parts.outer.now) (get_or c.args.parts.kept.now c.args.q 0))) c.in_ok-rest.was c.solve_column.ensures.0,
  λ (rest : ℕ) d (k col : ℕ) h l.
      kept-place (length c.args.parts.outer.now) (length c.args.parts.kept.now) c.args.q c.args.work.now c.solve_column.new.front _ c.solve_column.new.solution c.place.new.work c.requires.1 c.solve_column.auto.front refl c.place.auto.work c.place.ensures k col h l
      ∙ ap (λ (z : Complex). cond (eqb col c.args.q) z (entry_at (length c.args.parts.kept.now) (drop (2 * (length c.args.parts.outer.now * (length c.args.parts.outer.now + 1))) c.args.work.now) k col)) (c.solve_column.ensures.1 _ c.in_ok-rest.was k h),
)
