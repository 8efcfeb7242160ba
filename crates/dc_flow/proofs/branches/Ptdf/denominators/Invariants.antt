use Rattle.prelude.proofs.Prelude.{◌≡◌, ◌++◌, drop}
use Rattle.dc_flow.specs.Dc.{real_row}
use Rattle.dc_flow.specs.Inner.Rows.{denominator_of}
use Rattle.dc_flow.proofs.branches.Ptdf.denominators.Given as goal

abbrev pub invariant-loop-k : goal.invariant-loop-k
invariant-loop-k l = l.ds ≡ real_row (denominator_of l.self) l.k ++ drop l.k l.initial.ds
