-- `kron_reduction::remove_bus` meets its contract: it is a list of one.
use Rattle.prelude.proofs.Prelude.{ap₂}
use Rattle.kron_reduction.specs.declared.KronReducer.{KronReducer}
use Rattle.kron_reduction.specs.declared.Removals.{Removals}
use Rattle.kron_reduction.specs.Reducer.{after_bus, after_buses}
use Rattle.kron_reduction.proofs.remove_bus.Goals as goal

pub returns : goal.returns
unfolding after_bus after_buses
returns c =
    (ap₂ (λ (ran : Removals) (r : KronReducer). record { answer = ran.answer; rec = r }) c.remove-answer.ensures.0 c.remove-answer.ensures.1, c.remove-answer.ensures.2)
