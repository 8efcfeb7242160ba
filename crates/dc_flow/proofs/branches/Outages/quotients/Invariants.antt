use Rattle.prelude.proofs.Prelude.{◌≡◌, ◌*◌, ◌++◌, drop}
use Rattle.dc_flow.specs.Dc.{real_row}
use Rattle.dc_flow.specs.Inner.Rows.{quotient_of}
use Rattle.dc_flow.proofs.branches.Outages.quotients.Given as goal

abbrev pub invariant-loop-pair : goal.invariant-loop-pair
invariant-loop-pair l = l.row ≡ real_row (quotient_of l.self.ptdf l.l) (2 * l.pair) ++ drop (2 * l.pair) l.initial.row
