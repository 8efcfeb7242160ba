-- `ward_equivalent::rows::submatrix` meets its contract. The invariant: the rows before row p are gathered, the others as they were.
use Rattle.prelude.proofs.Prelude.{refl, ◌∙◌, ℕ, ◌<◌, arith, length}
use Rattle.complex.specs.{entry_at}
use Rattle.complex.proofs.Matrices.{rows_ext}
use Rattle.solver.proofs.Passed.{rows_none, rows_more}
use Rattle.ward_equivalent.specs.Inner.Work.{picked_row}
use Rattle.ward_equivalent.proofs.rows.submatrix.Goals as goal

pub loop-p-init : goal.loop-p-init
loop-p-init c =
    (omega arith, c.requires.1, rows_none (length c.args.kept.now) c.args.to.now (picked_row c.args.matrix.n c.args.matrix.y.now c.args.kept.now))

pub pick_at-requires : goal.pick_at-requires
pick_at-requires c =
    (c.requires.0, c.loop-p-test.true, c.loop-p.invariant.1)

pub loop-p-preserved : goal.loop-p-preserved
loop-p-preserved c =
    let r = length c.args.kept.now in
    let Y = picked_row c.args.matrix.n c.args.matrix.y.now c.args.kept.now in (
      omega arith,
      c.pick_at.auto.to ∙ c.loop-p.invariant.1,
      rows_more r c.loop-p.to c.pick_at.new.to Y (entry_at r c.args.to.now) c.loop-p.p (Y c.loop-p.p) c.pick_at.ensures (λ (q : ℕ) (h : q < r). refl) c.loop-p.invariant.2,
    )

pub returns : goal.returns
unfolding picked_row
returns c =
    rows_ext (entry_at c.args.matrix.n c.args.matrix.y.now) c.args.kept.now c.args.kept.now c.loop-p.to c.loop-p.invariant.1
    (λ (p q : ℕ) (h : p < length c.args.kept.now) (m : q < length c.args.kept.now). c.loop-p.invariant.2.behind p (omega arith) q m)
