-- `reduce_text::print::put_buses` meets its contract: the lines of the buses passed are written.
use Rattle.prelude.proofs.Prelude.{length}
use Rattle.reduce_text.specs.Printing.{bus_lines}
use Rattle.text_numbers.proofs.Writing.{nothing}
use Rattle.reduce_text.proofs.PrintLaws.{bus-room, bus-more}
use Rattle.reduce_text.proofs.print.put_buses.Goals as goal

pub loop-bus-init : goal.loop-bus-init
unfolding bus_lines
loop-bus-init c = nothing c.args.out.now c.args.at

pub put_line-p-requires : goal.put_line-p-requires
put_line-p-requires c =
    let l = c.loop-bus in
    rw c.from.ensures
    (bus-room c.args.out.now l.out c.args.at l.p c.args.buses.now l.bus-index (length c.args.buses.now) c.requires c.loop-bus-test.true l.invariant l.auto.out)

pub loop-bus-preserved : goal.loop-bus-preserved
loop-bus-preserved c =
    let l = c.loop-bus in
    bus-more c.args.out.now l.out c.args.at l.p c.args.buses.now l.bus-index (length c.args.buses.now) c.requires c.loop-bus-test.true l.invariant
    (rw c.from.ensures at c.put_line-p.ensures)
