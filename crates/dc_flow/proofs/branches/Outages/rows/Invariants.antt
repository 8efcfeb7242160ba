use Rattle.prelude.proofs.Prelude.{◌≡◌, ◌*◌, ◌++◌, length, drop}
use Rattle.dc_flow.specs.Dc.{real_grid}
use Rattle.dc_flow.specs.Inner.Rows.{outage_of}
use Rattle.dc_flow.proofs.branches.Outages.rows.Given as goal

abbrev pub invariant-loop-l : goal.invariant-loop-l
invariant-loop-l l =
    let m = length l.self.ptdf.branches.from.now in
    l.lodf ≡ real_grid (outage_of l.self.ptdf) m l.l ++ drop (l.l * m) l.initial.lodf
