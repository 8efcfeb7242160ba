-- `kron_reduction::careful::entry_answer` meets its contract: the operations' answers are passed on.
use Rattle.prelude.proofs.Prelude.{◌∙◌}
use Rattle.kron_reduction.proofs.Told.{passed-none, passed-some, entry-passed}
use Rattle.kron_reduction.proofs.careful.entry_answer.Goals as goal

pub returns-in_err-product : goal.returns-in_err-product
returns-in_err-product c = c.from_residual.ensures ∙ passed-none _ _ c.in_err-product.ensures ∙ entry-passed _ _ _ _

pub returns-in_err-change : goal.returns-in_err-change
returns-in_err-change c =
    c.from_residual-in_err-change.ensures ∙ passed-none _ _ c.in_err-change.ensures ∙ passed-some _ _ _ c.in_ok-product.ensures ∙ entry-passed _ _ _ _

pub returns : goal.returns
returns c = c.csub.ensures ∙ passed-some _ _ _ c.in_ok-change.ensures ∙ passed-some _ _ _ c.in_ok-product.ensures ∙ entry-passed _ _ _ _
