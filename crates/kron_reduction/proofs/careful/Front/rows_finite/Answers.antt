-- `kron_reduction::careful::Front::rows_finite` meets its contract. The loop's invariant: it is so of the rows passed.
use Rattle.prelude.proofs.Prelude.{ℕ, ◌<◌, arith}
use Rattle.kron_reduction.proofs.Told.{sure-more, sure-end, sure-not}
use Rattle.kron_reduction.proofs.careful.Front.rows_finite.Goals as goal

pub loop-i-init : goal.loop-i-init
loop-i-init c = λ (q : ℕ) (l : q < 0). absurd (omega arith)

pub returns-then-not-row_finite : goal.returns-then-not-row_finite
returns-then-not-row_finite c =
    sure-not _ _ _ c.loop-i-test.true c.row_finite.ensures (c.if-not-row_finite.true)

pub loop-i-preserved : goal.loop-i-preserved
loop-i-preserved c =
    sure-more _ _ c.loop-i.invariant c.row_finite.ensures (c.if-not-row_finite.false)

pub returns : goal.returns
returns c = sure-end _ _ c.loop-i.invariant c.loop-i-test.false
