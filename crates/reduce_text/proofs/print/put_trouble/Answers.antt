-- `reduce_text::print::put_trouble` meets its contract: one text for each trouble.
use Rattle.reduce_text.specs.Printing.{bad_text}
use Rattle.reduce_text.proofs.print.put_trouble.Goals as goal

pub put_refused-requires : goal.put_refused-requires
put_refused-requires c = rw c.in-RefusedDrop.is at c.requires

pub put_line-requires : goal.put_line-requires
unfolding bad_text
put_line-requires c = rw c.in-BadLine.is at c.requires

pub returns-in-RefusedDrop : goal.returns-in-RefusedDrop
returns-in-RefusedDrop c = rw c.in-RefusedDrop.is c.put_refused.ensures

pub returns-in-BadLine : goal.returns-in-BadLine
unfolding bad_text
returns-in-BadLine c = rw c.in-BadLine.is c.put_line.ensures
