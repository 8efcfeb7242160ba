-- `ward_equivalent::rows::pick` meets its contract. The invariant: the entries before j are those of the bus's row, in the listed columns.
use Rattle.prelude.proofs.Prelude.{ℕ, ◌<◌, arith, length, get_or}
use Rattle.complex.specs.{Complex, entry, entry_at}
use Rattle.complex.proofs.Matrices.{row-ext}
use Rattle.solver.proofs.Passed.{put-none}
use Rattle.ward_equivalent.proofs.Places.{listed_below, entry-index, put-turn}
use Rattle.ward_equivalent.proofs.rows.pick.Goals as goal

pub loop-j-init : goal.loop-j-init
loop-j-init c =
    (omega arith, c.requires.2, put-none c.args.to.now (λ (k : ℕ). entry_at c.args.matrix.n c.args.matrix.y.now c.args.bus (get_or c.args.columns.now k 0)))

pub at-requires : goal.at-requires
at-requires c =
    entry-index c.args.matrix.n c.args.matrix.y.now c.requires.0.full c.args.bus (get_or c.args.columns.now c.loop-j.j 0) c.requires.1
    (listed_below c.args.matrix.n c.args.matrix.y.now c.args.columns.now c.requires.0 c.loop-j.j c.loop-j-test.true)

pub loop-j-preserved : goal.loop-j-preserved
loop-j-preserved c =
    let new : ℕ → Complex = λ (k : ℕ). entry_at c.args.matrix.n c.args.matrix.y.now c.args.bus (get_or c.args.columns.now k 0) in
    put-turn c.loop-j.to c.put.new.s new (entry c.args.to.now) (length c.args.columns.now) c.loop-j.j c.at.result c.loop-j-test.true c.loop-j.invariant.1 c.loop-j.invariant.2 c.put.ensures c.at.ensures

pub returns : goal.returns
returns c =
    row-ext (entry_at c.args.matrix.n c.args.matrix.y.now) c.args.bus c.args.columns.now c.loop-j.to c.loop-j.invariant.1 λ (q : ℕ) (h : q < length c.args.columns.now). c.loop-j.invariant.2.behind q (omega arith)
