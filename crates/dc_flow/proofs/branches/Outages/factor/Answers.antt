-- `dc_flow::branches::Outages::factor` meets its contract: the test is the definition's.
use Rattle.prelude.proofs.Prelude.{refl, eq-eqb, ne_eqb}
use Rattle.complex.specs.{one}
use Rattle.dc_flow.specs.Dc.{outage_factor, outage}
use Rattle.dc_flow.proofs.branches.Outages.factor.Goals as goal

pub returns-then-l-k : goal.returns-then-l-k
unfolding outage outage_factor one
returns-then-l-k c = rw (eq-eqb _ _ c.if-l-k.true) refl

pub returns : goal.returns
unfolding outage
returns c = rw (ne_eqb _ _ c.if-l-k.false) c.quotient.ensures
