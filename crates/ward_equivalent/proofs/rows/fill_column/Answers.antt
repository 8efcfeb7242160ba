-- `ward_equivalent::rows::fill_column` meets its contract. The invariant: the rows before row k are filled, the others as they were.
use Rattle.prelude.proofs.Prelude.{ap, ◌∙◌, ℕ, ◌+◌, ◌<◌, arith, length, get_or}
use Rattle.complex.specs.{Complex, entry_at}
use Rattle.solver.proofs.Passed.{rows_none, rows_more}
use Rattle.ward_equivalent.specs.Inner.Work.{work_row}
use Rattle.ward_equivalent.proofs.Places.{listed_below, entry-index}
use Rattle.ward_equivalent.proofs.rows.fill_column.Goals as goal

pub loop-k-init : goal.loop-k-init
loop-k-init c =
    (omega arith, c.requires.2, rows_none (length c.args.outer.now + 1) c.args.front.now (λ (i : ℕ). work_row c.args.matrix.n c.args.matrix.y.now c.args.outer.now i (entry_at c.args.matrix.n c.args.matrix.y.now (get_or c.args.outer.now i 0) c.args.bus)))

pub at-c-requires : goal.at-c-requires
at-c-requires c =
    entry-index c.args.matrix.n c.args.matrix.y.now c.requires.0.full (get_or c.args.outer.now c.loop-k.k 0) c.args.bus (listed_below c.args.matrix.n c.args.matrix.y.now c.args.outer.now c.requires.0 c.loop-k.k c.loop-k-test.true) c.requires.1

pub fill_at-requires : goal.fill_at-requires
fill_at-requires c =
    (c.requires.0, omega arith, c.loop-k-test.true, c.loop-k.invariant.1)

pub loop-k-preserved : goal.loop-k-preserved
loop-k-preserved c =
    let W = length c.args.outer.now + 1 in (
      omega arith,
      c.fill_at.auto.work ∙ c.loop-k.invariant.1,
      rows_more W c.loop-k.front c.fill_at.new.work (λ (i : ℕ). work_row c.args.matrix.n c.args.matrix.y.now c.args.outer.now i (entry_at c.args.matrix.n c.args.matrix.y.now (get_or c.args.outer.now i 0) c.args.bus)) (entry_at W c.args.front.now) c.loop-k.k
          (work_row c.args.matrix.n c.args.matrix.y.now c.args.outer.now c.loop-k.k c.at-c.result) c.fill_at.ensures (λ (q : ℕ) (h : q < W). ap (λ (v : Complex). work_row c.args.matrix.n c.args.matrix.y.now c.args.outer.now c.loop-k.k v q) c.at-c.ensures) c.loop-k.invariant.2,
    )

pub returns : goal.returns
returns c =
    λ (k j : ℕ) (h : k < length c.args.outer.now) (m : j < length c.args.outer.now + 1). c.loop-k.invariant.2.behind k (omega arith) j m
