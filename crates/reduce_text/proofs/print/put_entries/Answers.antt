-- `reduce_text::print::put_entries` meets its contract: the lines of the entries passed are written.
use Rattle.prelude.proofs.Prelude.{◌≡◌, arith}
use Rattle.reduce_text.specs.Printing.{entry_lines}
use Rattle.text_numbers.proofs.Writing.{nothing}
use Rattle.reduce_text.proofs.PrintLaws.{entry-room, entry_more}
use Rattle.reduce_text.proofs.print.put_entries.Goals as goal

pub loop-i-init : goal.loop-i-init
unfolding entry_lines
loop-i-init c = nothing c.args.out.now c.args.at

pub put_entry-p-requires : goal.put_entry-p-requires
put_entry-p-requires c =
    rw c.get.ensures
    (entry-room c.args.out.now c.loop-i.out c.args.at c.loop-i.p c.args.ys.now c.loop-i.i c.args.n c.requires.1 c.loop-i-test.true c.loop-i.invariant c.loop-i.auto.out)

pub loop-i-preserved : goal.loop-i-preserved
loop-i-preserved c =
    entry_more c.args.out.now c.loop-i.out c.args.at c.loop-i.p c.args.ys.now c.loop-i.i c.args.n c.requires.1 c.loop-i-test.true c.loop-i.invariant
    (rw c.get.ensures at c.put_entry-p.ensures)

pub returns : goal.returns
returns c =
    let e : c.loop-i.i ≡ c.args.n = omega arith in
    rw e at c.loop-i.invariant
