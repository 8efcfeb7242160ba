-- `dc_flow::branches::Ptdf::outages` meets its contract: a lone branch has its own factor alone.
use Rattle.prelude.proofs.Prelude.{refl}
use Rattle.complex.specs.{one}
use Rattle.dc_flow.specs.Dc.{outage_factor, outage}
use Rattle.dc_flow.specs.Inner.Rows.{outage_of}
use Rattle.dc_flow.proofs.OutageLaws.{lone-grid}
use Rattle.dc_flow.proofs.branches.Ptdf.outages.Goals as goal

pub returns-then-m-eq1 : goal.returns-then-m-eq1
unfolding outage outage_factor one
returns-then-m-eq1 c = lone-grid (outage_of c.args.self) _ c.args.lodf.now _ c.if-m-eq1.true c.requires refl
