-- `rei_equivalent::matrix::SubMatrix::tie_row` meets its contract: the ties not yet written, written over what stands, are all of the row.
use Rattle.prelude.proofs.Prelude.{refl, sym, ◌∙◌, ◌+◌, ◌≤◌, arith, add-zero}
use Rattle.complex.specs.{entry_at, put}
use Rattle.rei_equivalent.specs.Rei.{is_tie, tie_ends, tie_parts}
use Rattle.rei_equivalent.proofs.TieLaws.{tie_to, left_in_row, one_more, count-one, write-one, ends-flat, parts-flat, row_step, row_done}
use Rattle.rei_equivalent.proofs.matrix.SubMatrix.tie_row.Goals as goal

pub tie_one-count-requires : goal.tie_one-count-requires
tie_one-count-requires c = omega (arith, c.requires, c.loop-j.auto, c.loop-j.invariant)

pub loop-j-init : goal.loop-j-init
loop-j-init c = (omega arith, refl, refl, refl)

pub loop-j-preserved : goal.loop-j-preserved
unfolding put
loop-j-preserved c =
    let n = c.args.self.n in
    let j = c.loop-j.j in
    let ys = entry_at n c.args.self.y.now c.args.i in
    let more : c.tie_one-count.result ≤ c.loop-j.count + 1 = rw c.tie_one-count.ensures.value (one_more (is_tie c.entry.result) c.loop-j.count) in
    let step = row_step c.args.buses.now ys c.args.i n j c.loop-j-test.true in
    let b = is_tie (ys j) in
    let t = tie_to c.args.buses.now ys c.args.i n j in
    let r = left_in_row c.args.buses.now ys c.args.i n (j + 1) in (
      omega (arith, c.loop-j.invariant),
      rw (c.tie_one-count.ensures.value, c.entry.ensures) (count-one b t r c.loop-j.count ∙ (rw step at c.loop-j.invariant.1)),
      rw (c.tie_one-count.ensures.ends_after, c.tie_one-count.ensures.value, c.entry.ensures) (write-one ends-flat b t r c.loop-j.count c.loop-j.ends ∙ (rw step at c.loop-j.invariant.2)),
      rw (c.tie_one-count.ensures.ties_after, c.tie_one-count.ensures.value, c.entry.ensures) (write-one parts-flat b t r c.loop-j.count c.loop-j.ties ∙ (rw step at c.loop-j.invariant.3)),
    )

pub returns : goal.returns
unfolding tie_ends tie_parts
returns c =
    let e = row_done c.args.buses.now (entry_at c.args.self.n c.args.self.y.now c.args.i) c.args.i c.args.self.n c.loop-j.j c.loop-j-test.false in
    record { behind = sym (add-zero c.loop-j.count) ∙ (rw e at c.loop-j.invariant.1); ends_are = (rw e at c.loop-j.invariant.2); ties_are = (rw e at c.loop-j.invariant.3) }
