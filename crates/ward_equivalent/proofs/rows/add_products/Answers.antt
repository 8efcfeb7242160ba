-- `ward_equivalent::rows::add_products` meets its contract. The invariant: each entry has the terms of the external buses before k.
use Rattle.prelude.proofs.Prelude.{◌≡◌, sym, ap, ◌∙◌, ℕ, ◌+◌, ◌<◌, arith, length, get_or}
use Rattle.complex.specs.{Complex, cadd, cmul, entry_at}
use Rattle.ward_equivalent.specs.Inner.Work.{product_to}
use Rattle.ward_equivalent.proofs.Places.{product-more}
use Rattle.ward_equivalent.proofs.rows.add_products.Goals as goal

pub loop-k-init : goal.loop-k-init
loop-k-init c =
    (omega arith, c.requires.4, c.requires.5)

pub add_term-requires : goal.add_term-requires
add_term-requires c =
    (c.requires.0, c.requires.1, c.loop-k-test.true, c.requires.2, c.requires.3, c.loop-k.invariant.1)

pub loop-k-preserved : goal.loop-k-preserved
loop-k-preserved c = (
  omega arith,
  c.add_term.auto.to ∙ c.loop-k.invariant.1,
  λ (q : ℕ) (h : q < c.args.r).
      c.add_term.ensures q h
      ∙ ap (λ (u : Complex). cadd u (cmul (entry_at c.args.matrix.n c.args.matrix.y.now c.args.bus (get_or c.args.outer.now c.loop-k.k 0)) (entry_at c.args.solved.w c.args.solved.work.now c.loop-k.k (c.args.solved.column + q)))) (c.loop-k.invariant.2 q h)
      ∙ sym (product-more c.args.matrix.n c.args.matrix.y.now c.args.outer.now c.args.solved.w c.args.solved.work.now c.args.bus (c.args.solved.column + q) c.loop-k.k),
)

pub returns : goal.returns
returns c =
    let end : c.loop-k.k ≡ length c.args.outer.now = omega arith in
    λ (q : ℕ) (h : q < c.args.r). c.loop-k.invariant.2 q h ∙ ap (product_to c.args.matrix.n c.args.matrix.y.now c.args.outer.now c.args.solved.w c.args.solved.work.now c.args.bus (c.args.solved.column + q)) end
