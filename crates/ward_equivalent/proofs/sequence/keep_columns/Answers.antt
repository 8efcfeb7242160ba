-- `ward_equivalent::sequence::keep_columns` meets its contract. The invariant: the columns before place q are solved and kept.
use Rattle.prelude.proofs.Prelude.{◌≡◌, refl, ap, ◌∙◌, subst, ℕ, arith, length}
use Rattle.std.proofs.Common.{Result, is_ok}
use Rattle.std.proofs.lemmas.Result.{err_from_is_err_and}
use Rattle.refusals.specs.declared.Refusal.{Refusal}
use Rattle.solver.specs.Inner.Work.{Ended}
use Rattle.solver.proofs.Told.{not_done}
use Rattle.ward_equivalent.specs.Steps.{of_each, steps_of_column}
use Rattle.ward_equivalent.specs.Inner.Sequence.{columns_input, ColumnsApart}
use Rattle.ward_equivalent.proofs.Kept.{kept-none, kept_more, kept-ended, kept-all}
use Rattle.ward_equivalent.proofs.sequence.keep_columns.Goals as goal

pub loop-q-init : goal.loop-q-init
loop-q-init c = (omega arith, refl, refl, kept-none c.args.parts.matrix.n c.args.parts.matrix.y.now c.args.parts.outer.now c.args.parts.kept.now c.args.allowed c.args.work.now)

pub keep_column-requires : goal.keep_column-requires
keep_column-requires c =
    (c.loop-q-test.true, c.loop-q.invariant.1 ∙ c.requires.0, c.loop-q.invariant.2 ∙ c.requires.1)

-- a solve that is not done
pub returns-in_err-left : goal.returns-in_err-left
returns-in_err-left c =
    let p = err_from_is_err_and c.from_residual.result c.from_residual.ensures.1 in
    rw (p.1, p.2) (
      subst (λ (t : Result ℕ Refusal). Ended c.args.allowed t (of_each (steps_of_column (columns_input c.args.parts.matrix.n c.args.parts.matrix.y.now c.args.parts.outer.now)) c.args.parts.kept.now)) c.in_err-left.was
          (kept-ended c.args.parts.matrix.n c.args.parts.matrix.y.now c.args.parts.outer.now c.args.parts.kept.now c.args.allowed c.loop-q.left c.loop-q.q c.loop-q.work _ c.loop-q-test.true c.loop-q.invariant.3 c.keep_column.result c.keep_column.ensures.0 c.keep_column.ensures.1 (ap is_ok c.in_err-left.was)),
      λ (rest : ℕ) d. absurd (not_done refl d),
    )

pub loop-q-preserved : goal.loop-q-preserved
loop-q-preserved c = (
  omega arith,
  c.keep_column.auto.work ∙ c.loop-q.invariant.1,
  c.keep_column.auto.solution ∙ c.loop-q.invariant.2,
  kept_more c.args.parts.matrix.n c.args.parts.matrix.y.now c.args.parts.outer.now c.args.parts.kept.now c.args.allowed c.loop-q.left c.loop-q.q c.loop-q.work _ c.loop-q-test.true c.loop-q.invariant.3 c.keep_column.result c.keep_column.ensures.0 c.keep_column.ensures.1 _ c.in_ok-left.was,
)

pub returns : goal.returns
returns c =
    let end : c.loop-q.q ≡ length c.args.parts.kept.now = omega arith in (
      kept-all c.args.parts.matrix.n c.args.parts.matrix.y.now c.args.parts.outer.now c.args.parts.kept.now c.args.allowed c.loop-q.left c.loop-q.q c.loop-q.work (omega arith) c.loop-q.invariant.3,
      λ (rest : ℕ) d. subst (λ (m : ℕ). ColumnsApart c.args.parts.matrix.n c.args.parts.matrix.y.now c.args.parts.outer.now c.args.parts.kept.now m c.loop-q.work) end c.loop-q.invariant.3.columns,
    )
