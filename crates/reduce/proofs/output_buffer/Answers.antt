-- The length that the definition gives is the one that the code has.
use Rattle.std.proofs.Common.{rules}
use Rattle.reduce_text.specs.Reading.{most}
use Rattle.reduce_text.specs.Reduce.{output_length}
use Rattle.reduce.proofs.output_buffer.Goals as goal

pub returns : goal.returns
unfolding most output_length
returns c = search rules
