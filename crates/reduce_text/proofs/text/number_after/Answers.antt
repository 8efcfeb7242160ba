-- `reduce_text::text::number_after` meets its contract.
use Rattle.prelude.proofs.Prelude.{sym, ◌∙◌}
use Rattle.reduce_text.proofs.LineLaws.{number-unlike, number-behind}
use Rattle.reduce_text.proofs.text.number_after.Goals as goal

pub returns-in_err-strip_prefix : goal.returns-in_err-strip_prefix
returns-in_err-strip_prefix c =
    c.from_residual.ensures ∙ sym (number-unlike c.args.key.now c.args.line.now c.in_err-strip_prefix.ensures.cases)

pub returns : goal.returns
returns c =
    let (e, d, n) = c.in_ok-strip_prefix.ensures.cases in
    c.decimal.ensures ∙ number-behind c.args.key.now c.args.line.now _ e d
