-- `ward_equivalent::rows::reduce_row` meets its contract.
use Rattle.prelude.proofs.Prelude.{ap, ◌∙◌, ℕ, ◌+◌, ◌<◌, length, get_or}
use Rattle.complex.specs.{csub, entry_at}
use Rattle.complex.proofs.Matrices.{length-zeros}
use Rattle.ward_equivalent.specs.Inner.Work.{less_product}
use Rattle.ward_equivalent.proofs.Places.{cleared-row}
use Rattle.ward_equivalent.proofs.rows.reduce_row.Goals as goal

pub add_products-requires : goal.add_products-requires
add_products-requires c = (
  c.requires.0,
  c.requires.2,
  c.requires.3,
  c.requires.4,
  ap length c.clear.ensures ∙ length-zeros (length c.args.to.now) ∙ c.requires.5,
  λ (q : ℕ) (h : q < length c.args.kept.now).
      cleared-row c.args.matrix.n c.args.matrix.y.now c.args.outer.now c.args.solved.w c.args.solved.work.now c.args.bus (c.args.solved.column + q) (length c.args.to.now) (length c.args.kept.now) c.clear.new.s c.clear.ensures c.requires.5 q h,
)

pub returns : goal.returns
unfolding less_product
returns c =
    λ (q : ℕ) (h : q < length c.args.kept.now). c.take_from.ensures q h ∙ ap (csub (entry_at c.args.matrix.n c.args.matrix.y.now c.args.bus (get_or c.args.kept.now q 0))) (c.add_products.ensures q h)
