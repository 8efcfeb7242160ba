use Rattle.text_numbers.specs.Inner.Writing.{Wrote}
use Rattle.reduce_text.specs.Printing.{entry_lines}
use Rattle.reduce_text.proofs.print.put_entries.Given as goal

abbrev pub invariant-loop-i : goal.invariant-loop-i
invariant-loop-i l = Wrote l.initial.out l.at (entry_lines l.i l.ys) l.p l.out
