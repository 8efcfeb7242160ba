-- `ward_equivalent::rows::injections` meets its contract. The invariant: the boundary buses before place t have theirs, the other places are as they were.
use Rattle.prelude.proofs.Prelude.{ap, ◌∙◌, ℕ, arith, get_or, Float, nan, length-set}
use Rattle.solver.proofs.Passed.{stored-none, stored_more}
use Rattle.ward_equivalent.specs.Arithmetic.{injected_p, injected_q}
use Rattle.ward_equivalent.specs.Inner.Work.{product}
use Rattle.ward_equivalent.proofs.Places.{listed_below, stored-map}
use Rattle.ward_equivalent.proofs.rows.injections.Goals as goal

pub loop-t-init : goal.loop-t-init
loop-t-init c = (
  omega arith,
  c.requires.4,
  c.requires.5,
  stored-none c.args.active.now (λ (k : ℕ). injected_p c.args.base (product c.args.matrix.n c.args.matrix.y.now c.args.outer.now c.args.solved.w c.args.solved.work.now (get_or c.args.boundary.now k 0) c.args.solved.column)),
  stored-none c.args.reactive.now (λ (k : ℕ). injected_q c.args.base (product c.args.matrix.n c.args.matrix.y.now c.args.outer.now c.args.solved.w c.args.solved.work.now (get_or c.args.boundary.now k 0) c.args.solved.column)),
)

pub row_times-i-requires : goal.row_times-i-requires
row_times-i-requires c =
    (c.requires.0, listed_below c.args.matrix.n c.args.matrix.y.now c.args.boundary.now c.requires.1 c.loop-t.t c.loop-t-test.true, c.requires.2, c.requires.3)

pub loop-t-preserved : goal.loop-t-preserved
unfolding injected_p injected_q
loop-t-preserved c =
    let P : ℕ → Float = λ (k : ℕ). injected_p c.args.base (product c.args.matrix.n c.args.matrix.y.now c.args.outer.now c.args.solved.w c.args.solved.work.now (get_or c.args.boundary.now k 0) c.args.solved.column) in
    let Q : ℕ → Float = λ (k : ℕ). injected_q c.args.base (product c.args.matrix.n c.args.matrix.y.now c.args.outer.now c.args.solved.w c.args.solved.work.now (get_or c.args.boundary.now k 0) c.args.solved.column) in
    let p = injected_p c.args.base c.row_times-i.result in
    let q = injected_q c.args.base c.row_times-i.result in (
      omega arith,
      length-set c.loop-t.active c.loop-t.t p ∙ c.loop-t.invariant.1,
      length-set c.loop-t.reactive c.loop-t.t q ∙ c.loop-t.invariant.2,
      stored_more c.loop-t.active P (λ (k : ℕ). get_or c.args.active.now k nan) c.loop-t.t p (omega arith) (ap (injected_p c.args.base) c.row_times-i.ensures) c.loop-t.invariant.3,
      stored_more c.loop-t.reactive Q (λ (k : ℕ). get_or c.args.reactive.now k nan) c.loop-t.t q (omega arith) (ap (injected_q c.args.base) c.row_times-i.ensures) c.loop-t.invariant.4,
    )

pub returns : goal.returns
returns c = (
  stored-map (λ (i : ℕ). injected_p c.args.base (product c.args.matrix.n c.args.matrix.y.now c.args.outer.now c.args.solved.w c.args.solved.work.now i c.args.solved.column)) c.args.boundary.now c.loop-t.active (λ (k : ℕ). get_or c.args.active.now k nan) c.loop-t.t c.loop-t.invariant.1 (omega arith) c.loop-t.invariant.3,
  stored-map (λ (i : ℕ). injected_q c.args.base (product c.args.matrix.n c.args.matrix.y.now c.args.outer.now c.args.solved.w c.args.solved.work.now i c.args.solved.column)) c.args.boundary.now c.loop-t.reactive (λ (k : ℕ). get_or c.args.reactive.now k nan) c.loop-t.t c.loop-t.invariant.2 (omega arith) c.loop-t.invariant.4,
)
