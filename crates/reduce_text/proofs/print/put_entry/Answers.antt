-- `reduce_text::print::put_entry` meets its contract: word, space, word and line feed, one behind the other.
use Rattle.prelude.proofs.Prelude.{arith}
use Rattle.reduce_text.specs.Printing.{entry_line}
use Rattle.text_numbers.proofs.Writing.{then₄}
use Rattle.text_numbers.proofs.WordLaws.{length-hex}
use Rattle.reduce_text.proofs.PrintLaws.{length-entry-line}
use Rattle.reduce_text.proofs.print.put_entry.Goals as goal

pub put_hex-a-requires : goal.put_hex-a-requires
put_hex-a-requires c =
    omega (arith, c.requires, length-entry-line c.args.c, length-hex c.to_word-re.result)

pub put_byte-b-requires : goal.put_byte-b-requires
put_byte-b-requires c =
    omega (arith, c.requires, length-entry-line c.args.c, length-hex c.to_word-re.result, c.put_hex-a.ensures.here, c.put_hex-a.auto.out)

pub put_hex-d-requires : goal.put_hex-d-requires
put_hex-d-requires c =
    omega
    (arith, c.requires, length-entry-line c.args.c, length-hex c.to_word-re.result, length-hex c.to_word-im.result, c.put_hex-a.ensures.here, c.put_hex-a.auto.out, c.put_byte-b.ensures.here, c.put_byte-b.auto.out)

pub put_byte-requires : goal.put_byte-requires
put_byte-requires c =
    omega
    (arith, c.requires, length-entry-line c.args.c, length-hex c.to_word-re.result, length-hex c.to_word-im.result, c.put_hex-a.ensures.here, c.put_hex-a.auto.out, c.put_byte-b.ensures.here, c.put_byte-b.auto.out, c.put_hex-d.ensures.here, c.put_hex-d.auto.out)

pub returns : goal.returns
unfolding entry_line
returns c =
    rw (← c.to_word-re.ensures, ← c.to_word-im.ensures)
    (then₄ (rw (c.to_word-re.ensures, c.to_word-im.ensures) c.requires) c.put_hex-a.ensures c.put_byte-b.ensures c.put_hex-d.ensures c.put_byte.ensures)
