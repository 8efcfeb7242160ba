-- `reduce_text::print::print` meets its contract: what is kept, or the trouble.
use Rattle.reduce_text.specs.Printing.{text_of}
use Rattle.reduce_text.proofs.print.print.Goals as goal

pub put_kept-requires : goal.put_kept-requires
unfolding text_of
put_kept-requires c = (c.requires.0, rw c.in-Ok.is at c.requires.1)

pub put_trouble-requires : goal.put_trouble-requires
unfolding text_of
put_trouble-requires c = rw c.in-Err.is at c.requires.1

pub returns-in-Ok : goal.returns-in-Ok
unfolding text_of
returns-in-Ok c = rw c.in-Ok.is c.put_kept.ensures

pub returns-in-Err : goal.returns-in-Err
unfolding text_of
returns-in-Err c = rw c.in-Err.is c.put_trouble.ensures
