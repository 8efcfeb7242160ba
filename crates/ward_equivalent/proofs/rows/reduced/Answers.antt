-- `ward_equivalent::rows::reduced` meets its contract. The invariant: the rows before row p are reduced, the others as they were.
use Rattle.prelude.proofs.Prelude.{refl, ◌∙◌, ℕ, ◌<◌, arith, length, get_or}
use Rattle.complex.specs.{entry_at}
use Rattle.solver.proofs.Passed.{rows_none, rows_more}
use Rattle.ward_equivalent.specs.Inner.Work.{less_product}
use Rattle.ward_equivalent.proofs.rows.reduced.Goals as goal

pub loop-p-init : goal.loop-p-init
loop-p-init c =
    (omega arith, c.requires.4, rows_none (length c.args.kept.now) c.args.to.now (λ (i : ℕ). less_product c.args.matrix.n c.args.matrix.y.now c.args.outer.now c.args.kept.now c.args.solved.w c.args.solved.work.now c.args.solved.column (get_or c.args.kept.now i 0)))

pub reduce_at-requires : goal.reduce_at-requires
reduce_at-requires c =
    (c.requires.0, c.requires.1, c.requires.2, c.requires.3, c.loop-p-test.true, c.loop-p.invariant.1)

pub loop-p-preserved : goal.loop-p-preserved
loop-p-preserved c =
    let r = length c.args.kept.now in (
      omega arith,
      c.reduce_at.auto.to ∙ c.loop-p.invariant.1,
      rows_more r c.loop-p.to c.reduce_at.new.to (λ (i : ℕ). less_product c.args.matrix.n c.args.matrix.y.now c.args.outer.now c.args.kept.now c.args.solved.w c.args.solved.work.now c.args.solved.column (get_or c.args.kept.now i 0)) (entry_at r c.args.to.now) c.loop-p.p
          (less_product c.args.matrix.n c.args.matrix.y.now c.args.outer.now c.args.kept.now c.args.solved.w c.args.solved.work.now c.args.solved.column (get_or c.args.kept.now c.loop-p.p 0)) c.reduce_at.ensures (λ (q : ℕ) (h : q < r). refl) c.loop-p.invariant.2,
    )

pub returns : goal.returns
returns c =
    λ (p q : ℕ) (h : p < length c.args.kept.now) (m : q < length c.args.kept.now). c.loop-p.invariant.2.behind p (omega arith) q m
