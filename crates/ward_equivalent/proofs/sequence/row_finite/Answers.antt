-- `ward_equivalent::sequence::row_finite` meets its contract. The invariant: the entries before place q are finite.
use Rattle.prelude.proofs.Prelude.{◌≡◌, ◌∙◌, ℕ, arith, get_or}
use Rattle.ward_equivalent.specs.Inner.Work.{less_product}
use Rattle.ward_equivalent.specs.Inner.Sequence.{FinitePair}
use Rattle.ward_equivalent.proofs.Places.{listed_below, entry-index, less_product-is}
use Rattle.ward_equivalent.proofs.Tests.{tells-lost, tells-held, every_more, pair-lost, pair-held}
use Rattle.ward_equivalent.proofs.sequence.row_finite.Goals.{After-csub-d}
use Rattle.ward_equivalent.proofs.sequence.row_finite.Goals as goal

pub loop-q-init : goal.loop-q-init
loop-q-init c = λ (j : ℕ) l. absurd (omega arith)

pub row_times-x-requires : goal.row_times-x-requires
row_times-x-requires c = (c.args.parts.external, c.requires.0, c.requires.1, omega (arith, c.loop-q-test.true, c.requires.2))

pub at-requires : goal.at-requires
at-requires c =
    entry-index c.args.parts.matrix.n c.args.parts.matrix.y.now c.args.parts.external.full c.args.bus (get_or c.args.parts.kept.now c.loop-q.q 0) c.requires.0 (listed_below c.args.parts.matrix.n c.args.parts.matrix.y.now c.args.parts.kept.now c.args.parts.retained c.loop-q.q c.loop-q-test.true)

-- the entry at place q
module _ (c : After-csub-d) where
  value : c.csub-d.result ≡ less_product c.args.parts.matrix.n c.args.parts.matrix.y.now c.args.parts.outer.now c.args.parts.kept.now c.args.columns.w c.args.columns.work.now c.args.columns.column c.args.bus c.loop-q.q
  value = c.csub-d.ensures ∙ less_product-is c.args.parts.matrix.n c.args.parts.matrix.y.now c.args.parts.outer.now c.args.parts.kept.now c.args.columns.w c.args.columns.work.now c.args.columns.column c.args.bus c.loop-q.q _ _ c.at.ensures c.row_times-x.ensures

pub returns-then-not-both_finite : goal.returns-then-not-both_finite
returns-then-not-both_finite c =
    tells-lost _ λ all. pair-lost c.both_finite.result _ _ c.both_finite.ensures (value (goal.at.returns-then-not-both_finite c).After-csub-d) c.if-not-both_finite.true (all c.loop-q.q c.loop-q-test.true)

pub loop-q-preserved : goal.loop-q-preserved
loop-q-preserved c =
    every_more (λ (j : ℕ). FinitePair (less_product c.args.parts.matrix.n c.args.parts.matrix.y.now c.args.parts.outer.now c.args.parts.kept.now c.args.columns.w c.args.columns.work.now c.args.columns.column c.args.bus j)) c.loop-q.q c.loop-q.invariant
    (pair-held c.both_finite.result _ _ c.both_finite.ensures (value (goal.at.loop-q-preserved c).After-csub-d) c.if-not-both_finite.false)

pub returns : goal.returns
returns c = tells-held _ λ (q : ℕ) h. c.loop-q.invariant q (omega arith)
