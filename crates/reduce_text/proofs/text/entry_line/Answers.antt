-- `reduce_text::text::entry_line` meets its contract: the length, the space, and the two words on both sides of it.
use Rattle.prelude.proofs.Prelude.{sym, ◌∙◌}
use Rattle.reduce_text.proofs.LineLaws.{entry_length, entry-space, entry-no-first, entry-no-second, entry-words, both-finite, both_first, both-second}
use Rattle.reduce_text.proofs.text.entry_line.Goals.{then-line-ne-ENTRY-via-then-line-ne-ENTRY, then-line-ne-ENTRY-via-else-line-ne-ENTRY+then-line-ne32, else-finite-via-then-finite+else-finite-2, else-finite-via-else-finite}
use Rattle.reduce_text.proofs.text.entry_line.Goals as goal

pub returns-then-line-ne-ENTRY : goal.returns-then-line-ne-ENTRY
returns-then-line-ne-ENTRY c =
    elim c.then-line-ne-ENTRY.branch [
      | then-line-ne-ENTRY-via-then-line-ne-ENTRY w ↦ sym (entry_length c.args.line.now w.if-line-ne-ENTRY.true)
      | then-line-ne-ENTRY-via-else-line-ne-ENTRY+then-line-ne32 w ↦ sym (entry-space c.args.line.now w.if-line-ne-ENTRY.false w.if-line-ne32.true)
    ]

pub returns-in_err-re : goal.returns-in_err-re
returns-in_err-re c =
    c.from_residual.ensures ∙ sym (entry-no-first c.args.line.now c.if-line-ne-ENTRY.false c.if-line-ne32.false c.in_err-re.ensures)

pub returns-in_err-im : goal.returns-in_err-im
returns-in_err-im c =
    c.from_residual-in_err-im.ensures ∙ sym (entry-no-second c.args.line.now c.if-line-ne-ENTRY.false c.if-line-ne32.false c.in_err-im.ensures)

pub returns-then-finite-2 : goal.returns-then-finite-2
returns-then-finite-2 c =
    sym
    (entry-words c.args.line.now c.if-line-ne-ENTRY.false c.if-line-ne32.false c.in_ok-re.re c.in_ok-im.im c.in_ok-re.ensures c.in_ok-im.ensures
    ∙ both-finite c.in_ok-re.re c.in_ok-im.im (rw c.of_word.ensures at c.if-finite.ensures) (rw c.of_word-then-finite.ensures at c.if-finite-2.ensures))

pub returns-else-finite : goal.returns-else-finite
returns-else-finite c =
    let words = entry-words c.args.line.now c.if-line-ne-ENTRY.false c.if-line-ne32.false c.in_ok-re.re c.in_ok-im.im c.in_ok-re.ensures c.in_ok-im.ensures in
    elim c.else-finite.branch [
      | else-finite-via-then-finite+else-finite-2 w ↦ sym (words ∙ both-second c.in_ok-re.re c.in_ok-im.im (rw c.of_word.ensures at w.if-finite.ensures) (rw w.of_word-then-finite.ensures at w.if-finite-2.ensures))
      | else-finite-via-else-finite w ↦ sym (words ∙ both_first c.in_ok-re.re c.in_ok-im.im (rw c.of_word.ensures at w.if-finite.ensures))
    ]
