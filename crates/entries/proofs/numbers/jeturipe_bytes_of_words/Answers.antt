-- `entries::numbers::jeturipe_bytes_of_words` meets its contract.
use Rattle.prelude.proofs.Prelude.{ap, ◌∙◌}
use Rattle.std.proofs.lemmas.List.{map-id}
use Rattle.refusals.specs.Refusals.{number_of}
use Rattle.entries.proofs.NumbersLaws.{told}
use Rattle.entries.proofs.numbers.jeturipe_bytes_of_words.Goals as goal

pub returns : goal.returns
returns c =
    let n = c.number_of.ensures ∙ ap number_of c.bytes_of.ensures.answer ∙ told 8 _ _ in
    (n, rw n (rw map-id at c.bytes_of.ensures.output))
