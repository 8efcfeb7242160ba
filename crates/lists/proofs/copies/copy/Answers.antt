-- `lists::copies::copy` meets its contract.
use Rattle.prelude.proofs.Prelude.{sym, arith}
use Rattle.lists.proofs.Fronts.{filling-more, filling-whole}
use Rattle.lists.proofs.copies.copy.Goals as goal

pub loop-i-preserved : goal.loop-i-preserved
loop-i-preserved g c =
    filling-more _ _ _ _ c.loop-i.invariant c.index-from-i.result _ c.loop-i-test.true (omega (arith, c.loop-i.invariant.long, c.requires)) c.index-from-i.is

pub returns : goal.returns
returns g c =
    filling-whole _ _ _ _ c.loop-i.invariant (sym c.requires) (omega (arith, c.loop-i.invariant.long, c.requires, c.loop-i-test.false))
