-- `ward_equivalent::rows::fill` meets its contract. The invariant: the rows before row k are filled, the others as they were.
use Rattle.prelude.proofs.Prelude.{ap, ◌∙◌, ℕ, ◌+◌, ◌<◌, arith, length}
use Rattle.complex.specs.{Complex, entry_at}
use Rattle.solver.proofs.Passed.{rows_none, rows_more}
use Rattle.ward_equivalent.specs.Inner.Work.{work_row, work_matrix}
use Rattle.ward_equivalent.proofs.rows.fill.Goals as goal

pub loop-k-init : goal.loop-k-init
loop-k-init c =
    (omega arith, c.requires.4, rows_none (length c.args.buses.now + 1) c.args.work.now (work_matrix c.args.matrix.n c.args.matrix.y.now c.args.buses.now c.args.injections.base c.args.injections.p.now c.args.injections.q.now))

pub fill_at-requires : goal.fill_at-requires
fill_at-requires c =
    (c.requires.0, c.requires.1, c.loop-k-test.true, c.loop-k.invariant.1)

pub loop-k-preserved : goal.loop-k-preserved
unfolding work_matrix
loop-k-preserved c =
    let W = length c.args.buses.now + 1 in (
      omega arith,
      c.fill_at.auto.work ∙ c.loop-k.invariant.1,
      rows_more W c.loop-k.work c.fill_at.new.work (work_matrix c.args.matrix.n c.args.matrix.y.now c.args.buses.now c.args.injections.base c.args.injections.p.now c.args.injections.q.now) (entry_at W c.args.work.now) c.loop-k.k
          (work_row c.args.matrix.n c.args.matrix.y.now c.args.buses.now c.loop-k.k c.current.result) c.fill_at.ensures (λ (q : ℕ) (h : q < W). ap (λ (v : Complex). work_row c.args.matrix.n c.args.matrix.y.now c.args.buses.now c.loop-k.k v q) c.current.ensures) c.loop-k.invariant.2,
    )

pub returns : goal.returns
returns c =
    λ (k j : ℕ) (h : k < c.args.e) (m : j < length c.args.buses.now + 1). c.loop-k.invariant.2.behind k (omega arith) j m
