-- The length that the definition gives is the one that the code has.
use Rattle.std.proofs.Common.{rules}
use Rattle.reduce_text.specs.Reading.{most}
use Rattle.reduce_text.specs.Reduce.{matrix_length}
use Rattle.reduce.proofs.matrix_buffer.Goals as goal

pub returns : goal.returns
unfolding most matrix_length
returns c = search rules
