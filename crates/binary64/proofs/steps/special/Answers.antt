-- `binary64::steps::special` meets its contract.
use Rattle.prelude.proofs.Prelude.{div, of_bits}
use Rattle.binary64.proofs.RootSpecial.{below-zero, above_zero, not_finite, neither}
use Rattle.binary64.proofs.steps.special.Goals.{else-x-2-via-then-x-2+else-x-3, else-x-2-via-else-x-2}
use Rattle.binary64.proofs.steps.special.Goals as goal

pub returns-then-x : goal.returns-then-x
unfolding div of_bits
returns-then-x c = below-zero c.args.x c.if-x.true

pub returns-then-x-3 : goal.returns-then-x-3
unfolding div of_bits
returns-then-x-3 c = above_zero c.args.x c.if-x-2.true c.if-x-3.true

pub returns : goal.returns
unfolding div of_bits
returns c =
    elim c.else-x-2.branch [
      | else-x-2-via-then-x-2+else-x-3 w ↦ not_finite c.args.x c.if-x.false w.if-x-3.false
      | else-x-2-via-else-x-2 w ↦ neither c.args.x c.if-x.false w.if-x-2.false
    ]
