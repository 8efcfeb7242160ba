-- `lists::numbers::rows_of` meets its contract. The loop's invariant: the rows of the buses passed are written.
use Rattle.prelude.proofs.Prelude.{sym, ◌∙◌, arith}
use Rattle.lists.proofs.Fronts.{filling-more, filling-whole}
use Rattle.lists.proofs.Lookups.{length-rows_in, get_or-rows_in}
use Rattle.lists.proofs.numbers.rows_of.Goals as goal

pub loop-i-preserved : goal.loop-i-preserved
loop-i-preserved c =
    let h = c.loop-i-test.true in
    filling-more _ _ _ _ c.loop-i.invariant 0 _ (rw length-rows_in h) (omega (arith, c.loop-i.invariant.long, c.requires)) (c.row_of.ensures ∙ sym (get_or-rows_in _ _ _ h))

pub returns : goal.returns
returns c =
    filling-whole _ _ _ _ c.loop-i.invariant (length-rows_in _ _ ∙ c.requires) (omega (arith, c.loop-i.invariant.long, c.requires, c.loop-i-test.false))
