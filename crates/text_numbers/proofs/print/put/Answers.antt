-- `text_numbers::print::put` meets its contract.
use Rattle.prelude.proofs.Prelude.{refl, arith}
use Rattle.text_numbers.proofs.Writing.{put-part}
use Rattle.text_numbers.proofs.print.put.Goals as goal

pub returns : goal.returns
returns c = record { here = refl; there = put-part _ _ _ _ _ (omega arith) c.copy_from_slice.ensures.after }
