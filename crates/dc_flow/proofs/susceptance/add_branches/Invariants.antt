use Rattle.prelude.proofs.Prelude.{◌≡◌}
use Rattle.dc_flow.specs.Dc.{susceptances}
use Rattle.dc_flow.proofs.susceptance.add_branches.Given as goal

abbrev pub invariant-loop-k : goal.invariant-loop-k
invariant-loop-k l = l.b ≡ susceptances l.branches.n l.branches.from.now l.branches.to.now l.xs l.k
