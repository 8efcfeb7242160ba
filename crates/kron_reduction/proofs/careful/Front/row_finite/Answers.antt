-- `kron_reduction::careful::Front::row_finite` meets its contract. The loop's invariant: it is so of the columns passed.
use Rattle.prelude.proofs.Prelude.{ℕ, ◌<◌, arith}
use Rattle.kron_reduction.proofs.Told.{sure-more, sure-end, sure-not}
use Rattle.kron_reduction.proofs.careful.Front.row_finite.Goals as goal

pub loop-j-init : goal.loop-j-init
loop-j-init c = λ (q : ℕ) (l : q < 0). absurd (omega arith)

pub returns-then-not-place_finite : goal.returns-then-not-place_finite
returns-then-not-place_finite c =
    sure-not _ _ _ c.loop-j-test.true c.place_finite.ensures (c.if-not-place_finite.true)

pub loop-j-preserved : goal.loop-j-preserved
loop-j-preserved c =
    sure-more _ _ c.loop-j.invariant c.place_finite.ensures (c.if-not-place_finite.false)

pub returns : goal.returns
returns c = sure-end _ _ c.loop-j.invariant c.loop-j-test.false
