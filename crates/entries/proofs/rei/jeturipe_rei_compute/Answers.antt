-- `entries::rei::jeturipe_rei_compute` meets its contract.
use Rattle.prelude.proofs.Prelude.{refl}
use Rattle.entries.proofs.rei.jeturipe_rei_compute.Goals as goal

pub returns : goal.returns
returns c =
    record {
      told = rw (← c.compute-answer.ensures.answer) c.number_of.ensures;
      left = record { answer = refl; spoke_buses_are = c.compute-answer.ensures.spoke_buses_are; spokes_are = c.compute-answer.ensures.spokes_are; tie_buses_are = c.compute-answer.ensures.tie_buses_are; ties_are = c.compute-answer.ensures.ties_are };
      summed = rw (← c.compute-answer.ensures.answer) c.give_equivalent.ensures;
    }
