use Rattle.prelude.proofs.Prelude.{T, length}
use Rattle.binary64.specs.Values.{all_finite}
use Rattle.dc_flow.specs.Dc.{real_grid}
use Rattle.dc_flow.specs.Inner.Rows.{outage_of}
use Rattle.dc_flow.proofs.branches.Outages.rows_finite.Given as goal

abbrev pub invariant-loop-l : goal.invariant-loop-l
invariant-loop-l l = T (all_finite (real_grid (outage_of l.self.ptdf) (length l.self.ptdf.branches.from.now) l.l))
