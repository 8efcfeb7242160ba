-- `ward_equivalent::sequence::injections_finite` meets its contract. The invariant: the injections before that of the bus are finite.
use Rattle.prelude.proofs.Prelude.{◌≡◌, ap, ℕ, arith, Float, neg, get_or, T, finite}
use Rattle.complex.specs.{Complex, ◌⊗◌}
use Rattle.ward_equivalent.specs.Arithmetic.{injected_p, injected_q}
use Rattle.ward_equivalent.specs.Inner.Work.{product}
use Rattle.ward_equivalent.proofs.Places.{listed_below}
use Rattle.ward_equivalent.proofs.Tests.{tells-lost, tells-held, every_more, pair-lost, pair-held}
use Rattle.ward_equivalent.proofs.sequence.injections_finite.Goals.{After-row_times-i}
use Rattle.ward_equivalent.proofs.sequence.injections_finite.Goals as goal

abbrev injected : Float → Complex → Complex
injected base i = record { re = injected_p base i; im = injected_q base i }

pub loop-bus-init : goal.loop-bus-init
loop-bus-init c = λ (j : ℕ) l. absurd (omega arith)

pub row_times-i-requires : goal.row_times-i-requires
row_times-i-requires c =
    (c.args.parts.external, listed_below c.args.parts.matrix.n c.args.parts.matrix.y.now c.args.boundary.now c.requires.0 c.loop-bus.bus-index c.loop-bus-test.true, c.requires.1, c.requires.2)

-- what the bus at this place gets
module _ (c : After-row_times-i) where
  value : record { re = neg c.row_times-i.result.re ⊗ c.args.parts.injections.base; im = c.row_times-i.result.im ⊗ c.args.parts.injections.base } ≡ injected c.args.parts.injections.base (product c.args.parts.matrix.n c.args.parts.matrix.y.now c.args.parts.outer.now c.args.currents.w c.args.currents.work.now (get_or c.args.boundary.now c.loop-bus.bus-index 0) c.args.currents.column)
  unfolding injected_p injected_q
  value = ap (injected c.args.parts.injections.base) c.row_times-i.ensures

pub returns-then-not-both_finite : goal.returns-then-not-both_finite
returns-then-not-both_finite c =
    tells-lost _ λ all. pair-lost c.both_finite.result _ _ c.both_finite.ensures (value (goal.at.returns-then-not-both_finite c).After-row_times-i) c.if-not-both_finite.true (all c.loop-bus.bus-index c.loop-bus-test.true)

pub loop-bus-preserved : goal.loop-bus-preserved
loop-bus-preserved c =
    every_more (λ (j : ℕ). T (finite (injected_p c.args.parts.injections.base (product c.args.parts.matrix.n c.args.parts.matrix.y.now c.args.parts.outer.now c.args.currents.w c.args.currents.work.now (get_or c.args.boundary.now j 0) c.args.currents.column))) × T (finite (injected_q c.args.parts.injections.base (product c.args.parts.matrix.n c.args.parts.matrix.y.now c.args.parts.outer.now c.args.currents.w c.args.currents.work.now (get_or c.args.boundary.now j 0) c.args.currents.column)))) c.loop-bus.bus-index c.loop-bus.invariant
    (pair-held c.both_finite.result _ _ c.both_finite.ensures (value (goal.at.loop-bus-preserved c).After-row_times-i) c.if-not-both_finite.false)

pub returns : goal.returns
returns c = tells-held _ λ (t : ℕ) h. c.loop-bus.invariant t (omega arith)
