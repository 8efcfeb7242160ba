-- `entries::ward::jeturipe_ward_compute_extended` meets its contract.
use Rattle.prelude.proofs.Prelude.{ap}
use Rattle.ward_equivalent.specs.Studied.{AfterExtended}
use Rattle.entries.proofs.ward.jeturipe_ward_compute_extended.Goals as goal

pub returns : goal.returns
returns c =
    let q = ap (λ (w : AfterExtended). w.answer) c.compute_extended-answer.ensures.0 in
    record { told = rw (← q) c.number_of.ensures; left = ap (λ (w : AfterExtended). w.outputs) c.compute_extended-answer.ensures.0; summed = rw (← q) c.give_summary.ensures }
