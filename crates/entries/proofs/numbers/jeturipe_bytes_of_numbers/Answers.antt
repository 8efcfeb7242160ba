-- `entries::numbers::jeturipe_bytes_of_numbers` meets its contract.
use Rattle.prelude.proofs.Prelude.{ap, ◌∙◌}
use Rattle.refusals.specs.Refusals.{number_of}
use Rattle.entries.proofs.NumbersLaws.{told}
use Rattle.entries.proofs.numbers.jeturipe_bytes_of_numbers.Goals as goal

pub returns : goal.returns
returns c =
    let n = c.number_of.ensures ∙ ap number_of c.bytes_of.ensures.answer ∙ told 8 _ _ in
    (n, rw n c.bytes_of.ensures.output)
