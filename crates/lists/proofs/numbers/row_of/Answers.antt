-- `lists::numbers::row_of` meets its contract.
use Rattle.std.proofs.Common.{ap, ◌∙◌, length, unwrap_or}
use Rattle.lists.proofs.Chains.{place-or}
use Rattle.lists.proofs.numbers.row_of.Goals as goal

pub returns : goal.returns
returns c = c.unwrap_or.ensures ∙ ap (λ o. unwrap_or o (length c.args.numbers.now)) c.find.ensures ∙ place-or _ _
