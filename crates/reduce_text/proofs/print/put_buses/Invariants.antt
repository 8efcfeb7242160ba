use Rattle.text_numbers.specs.Inner.Writing.{Wrote}
use Rattle.reduce_text.specs.Printing.{bus_lines}
use Rattle.reduce_text.proofs.print.put_buses.Given as goal

abbrev pub invariant-loop-bus : goal.invariant-loop-bus
invariant-loop-bus l = Wrote l.initial.out l.at (bus_lines l.bus-index l.buses) l.p l.out
