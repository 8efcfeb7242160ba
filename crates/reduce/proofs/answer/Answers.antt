-- The buffers have the lengths that are asked for, so the answer is how many bytes are written, and no refusal.
use Rattle.reduce.proofs.AnswerLaws.{answer-front}
use Rattle.reduce.proofs.answer.Goals as goal

pub returns : goal.returns
returns c =
    answer-front c.args.input.now c.args.output.now c.args.matrix.now c.requires.0 c.requires.1 c.reduce.new.output c.unwrap_or.result
    (rw c.reduce.ensures.0 at c.unwrap_or.ensures) c.reduce.ensures.1
