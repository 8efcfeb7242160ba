-- `dc_flow::branches::Outages::row` meets its contract: only its own entry is not that of a branch for the outages of others.
use Rattle.prelude.proofs.Prelude.{refl, length, eq-eqb}
use Rattle.complex.specs.{one}
use Rattle.dc_flow.specs.Dc.{outage_factor, outage}
use Rattle.dc_flow.specs.Inner.Rows.{quotient_of, outage_of}
use Rattle.dc_flow.proofs.OutageLaws.{real_row-set}
use Rattle.dc_flow.proofs.branches.Outages.row.Goals as goal

pub returns : goal.returns
unfolding outage outage_factor one
returns c =
    let p = c.args.self.ptdf in
    rw c.quotients.ensures
    (real_row-set (quotient_of p c.args.l) (outage_of p c.args.l) (length p.branches.from.now) c.args.l _ c.requires.0 (rw (eq-eqb c.args.l c.args.l refl)) (λ k e. rw e))
