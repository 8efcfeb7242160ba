-- `entries::ward::jeturipe_ward_compute` meets its contract.
use Rattle.prelude.proofs.Prelude.{ap}
use Rattle.ward_equivalent.specs.Studied.{AfterWard}
use Rattle.entries.proofs.ward.jeturipe_ward_compute.Goals as goal

pub returns : goal.returns
returns c =
    let q = ap (λ (w : AfterWard). w.answer) c.compute-answer.ensures.0 in
    record { told = rw (← q) c.number_of.ensures; left = ap (λ (w : AfterWard). w.outputs) c.compute-answer.ensures.0; summed = rw (← q) c.give_summary.ensures }
