-- `ward_equivalent::rows::row_times` meets its contract. The invariant: the sum has the terms before k.
use Rattle.prelude.proofs.Prelude.{◌≡◌, refl, sym, ap, ◌∙◌, arith, length, get_or}
use Rattle.complex.specs.{Complex, cadd, cmul, entry_at, plus0}
use Rattle.ward_equivalent.specs.Arithmetic.{sum_up}
use Rattle.ward_equivalent.specs.Inner.Work.{product_to}
use Rattle.ward_equivalent.proofs.Places.{listed_below, entry-index, row-index, product-more}
use Rattle.ward_equivalent.proofs.rows.row_times.Goals as goal

pub loop-k-init : goal.loop-k-init
unfolding product_to sum_up plus0
loop-k-init c = (omega arith, refl)

pub at-g-requires : goal.at-g-requires
at-g-requires c =
    entry-index c.args.matrix.n c.args.matrix.y.now c.requires.0.full c.args.bus (get_or c.args.outer.now c.loop-k.k 0) c.requires.1
    (listed_below c.args.matrix.n c.args.matrix.y.now c.args.outer.now c.requires.0 c.loop-k.k c.loop-k-test.true)

pub at-x-requires : goal.at-x-requires
at-x-requires c =
    row-index (length c.args.outer.now) c.args.solved.w c.args.solved.work.now c.requires.2.full c.loop-k.k c.args.solved.column c.loop-k-test.true c.requires.3

pub loop-k-preserved : goal.loop-k-preserved
loop-k-preserved c = (
  omega arith,
  c.cadd-sum.ensures
      ∙ ap (λ (u : Complex). cadd u c.cmul.result) c.loop-k.invariant.1
      ∙ ap (cadd (product_to c.args.matrix.n c.args.matrix.y.now c.args.outer.now c.args.solved.w c.args.solved.work.now c.args.bus c.args.solved.column c.loop-k.k)) (c.cmul.ensures ∙ ap (λ (u : Complex). cmul u c.at-x.result) c.at-g.ensures ∙ ap (cmul (entry_at c.args.matrix.n c.args.matrix.y.now c.args.bus (get_or c.args.outer.now c.loop-k.k 0))) c.at-x.ensures)
      ∙ sym (product-more c.args.matrix.n c.args.matrix.y.now c.args.outer.now c.args.solved.w c.args.solved.work.now c.args.bus c.args.solved.column c.loop-k.k),
)

pub returns : goal.returns
returns c =
    let end : c.loop-k.k ≡ length c.args.outer.now = omega arith in
    c.loop-k.invariant.1 ∙ ap (product_to c.args.matrix.n c.args.matrix.y.now c.args.outer.now c.args.solved.w c.args.solved.work.now c.args.bus c.args.solved.column) end
