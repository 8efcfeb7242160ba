use Rattle.prelude.proofs.Prelude.{ℕ, ◌<◌, T, finite}
use Rattle.dc_flow.specs.Inner.Rows.{outage_of}
use Rattle.dc_flow.proofs.branches.Outages.row_finite.Given as goal

abbrev pub invariant-loop-k : goal.invariant-loop-k
invariant-loop-k l = (j : ℕ) → j < l.k → T (finite (outage_of l.self.ptdf l.l j))
