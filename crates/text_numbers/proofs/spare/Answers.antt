-- `text_numbers::spare` meets its contract.
use Rattle.prelude.proofs.Prelude.{sym, ◌∙◌, le-ltb}
use Rattle.text_numbers.proofs.WordLaws.{spare-none, spare-one, spare_more}
use Rattle.text_numbers.proofs.spare.Goals as goal

pub returns-then-is_empty : goal.returns-then-is_empty
returns-then-is_empty c = c.if-is_empty.true ∙ sym (spare-none _ (sym c.if-is_empty.ensures))

pub returns-then-word-gt1 : goal.returns-then-word-gt1
returns-then-word-gt1 c = sym (spare_more _ c.if-word-gt1.true)

pub returns-else-word-gt1 : goal.returns-else-word-gt1
returns-else-word-gt1 c =
    le-ltb _ _ c.if-word-gt1.false ∙ sym (spare-one _ (sym c.if-is_empty.ensures) c.if-word-gt1.false)
