-- `dc_flow::susceptance::join` meets its contract.
use Rattle.prelude.proofs.Prelude.{refl}
use Rattle.dc_flow.specs.Dc.{joined}
use Rattle.dc_flow.proofs.susceptance.join.Goals as goal

pub returns : goal.returns
unfolding joined
returns c = refl
