-- `reduce_text::text::line_at` meets its contract.
use Rattle.reduce_text.proofs.LineLaws.{line-is}
use Rattle.reduce_text.proofs.text.line_at.Goals as goal

pub returns : goal.returns
returns c =
    rw c.unwrap_or.ensures (line-is c.args.text.now c.args.at c.min.result c.first_feed.result c.min.ensures c.first_feed.ensures)
