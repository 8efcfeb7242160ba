-- `ward_equivalent::sequence::one_by_one` meets its contract.
use Rattle.prelude.proofs.Prelude.{refl, ◌∙◌, subst, ℕ, ◌*◌, arith, rules, length, ne_eqb}
use Rattle.std.proofs.Common.{Result}
use Rattle.std.proofs.lemmas.Result.{err_from_is_err_and}
use Rattle.refusals.specs.declared.Refusal.{Refusal}
use Rattle.solver.specs.Inner.Work.{Ended}
use Rattle.solver.proofs.Told.{not_done}
use Rattle.ward_equivalent.specs.Steps.{of_each, steps_of_column}
use Rattle.ward_equivalent.specs.Inner.Sequence.{columns_input}
use Rattle.ward_equivalent.proofs.Kept.{all_first, all_then, front-part}
use Rattle.ward_equivalent.proofs.sequence.one_by_one.Goals as goal

pub keep_columns-requires : goal.keep_columns-requires
keep_columns-requires c =
    (c.requires, front-part (2 * length c.args.parts.outer.now) _ (search rules))

pub behind_columns-requires : goal.behind_columns-requires
behind_columns-requires c =
    (c.keep_columns.auto.work ∙ c.requires, c.keep_columns.ensures.1 _ c.in_ok-left.was)

pub returns : goal.returns
returns c =
    let some = ne_eqb (length c.args.parts.outer.now) 0 (λ z. omega (arith, c.args.parts.some, z)) in (
      all_then c.args.parts.matrix.n c.args.parts.matrix.y.now c.args.parts.outer.now c.args.parts.kept.now c.args.parts.internal c.args.parts.injections.base c.args.parts.injections.p.now c.args.parts.injections.q.now some c.args.allowed _ c.behind_columns.result
          (subst (λ (t : Result ℕ Refusal). Ended c.args.allowed t (of_each (steps_of_column (columns_input c.args.parts.matrix.n c.args.parts.matrix.y.now c.args.parts.outer.now)) c.args.parts.kept.now)) c.in_ok-left.was c.keep_columns.ensures.0) c.behind_columns.ensures.0,
      c.behind_columns.ensures.1,
    )

-- the columns' solves are not done
pub returns-in_err-left : goal.returns-in_err-left
returns-in_err-left c =
    let some = ne_eqb (length c.args.parts.outer.now) 0 (λ z. omega (arith, c.args.parts.some, z)) in
    let p = err_from_is_err_and c.from_residual.result c.from_residual.ensures.1 in
    rw (p.1, p.2) (
      all_first c.args.parts.matrix.n c.args.parts.matrix.y.now c.args.parts.outer.now c.args.parts.kept.now c.args.parts.internal c.args.parts.injections.base c.args.parts.injections.p.now c.args.parts.injections.q.now some c.args.allowed _ refl
          (subst (λ (t : Result ℕ Refusal). Ended c.args.allowed t (of_each (steps_of_column (columns_input c.args.parts.matrix.n c.args.parts.matrix.y.now c.args.parts.outer.now)) c.args.parts.kept.now)) c.in_err-left.was c.keep_columns.ensures.0),
      λ (rest : ℕ) d. absurd (not_done refl d),
    )
