-- `rei_equivalent::matrix::SubMatrix::spokes_finite` meets its contract: the spokes not yet looked at tell what all do.
use Rattle.prelude.proofs.Prelude.{◌≡◌, refl, sym, ◌∙◌, ◌+◌, drop, binary64, of_int, ◌&&◌}
use lib.IntN.{pos}
use Rattle.binary64.specs.Values.{all_finite}
use Rattle.complex.specs.{entry_at}
use Rattle.lists.specs.Buses.{up_to}
use Rattle.lists.proofs.Stores.{up_to-end}
use Rattle.rei_equivalent.specs.Rei.{of_spokes}
use Rattle.rei_equivalent.proofs.ReiNumbers.{spokes-here}
use Rattle.rei_equivalent.proofs.matrix.SubMatrix.spokes_finite.Goals.{After-spoke_finite}
use Rattle.rei_equivalent.proofs.matrix.SubMatrix.spokes_finite.Goals as goal

-- what was tested
told : (c : After-spoke_finite) → let all = of_spokes (of_int binary64 (pos c.args.self.n)) (entry_at c.args.self.n c.args.self.y.now) in
    all_finite (all (drop c.loop-i.i (up_to c.args.self.n))) ≡ (c.spoke_finite.result && all_finite (all (drop (c.loop-i.i + 1) (up_to c.args.self.n))))
told c =
    rw (c.spoke_finite.ensures, c.entry.ensures)
    (spokes-here (of_int binary64 (pos c.args.self.n)) (entry_at c.args.self.n c.args.self.y.now) c.args.self.n c.loop-i.i c.loop-i-test.true)

pub loop-i-init : goal.loop-i-init
loop-i-init c = refl

pub returns-then-not-spoke_finite : goal.returns-then-not-spoke_finite
returns-then-not-spoke_finite c =
    sym (rw (told (goal.at.returns-then-not-spoke_finite c).After-spoke_finite, c.if-not-spoke_finite.true) at (sym c.loop-i.invariant))

pub loop-i-preserved : goal.loop-i-preserved
loop-i-preserved c = sym (rw (c.if-not-spoke_finite.false) at (told (goal.at.loop-i-preserved c).After-spoke_finite)) ∙ c.loop-i.invariant

pub returns : goal.returns
unfolding of_spokes all_finite
returns c = rw (up_to-end c.args.self.n c.loop-i.i c.loop-i-test.false) at c.loop-i.invariant
