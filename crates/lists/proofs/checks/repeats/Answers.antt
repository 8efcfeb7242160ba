-- `lists::checks::repeats` meets its contract.
use Rattle.std.proofs.Common.{rules}
use Rattle.lists.proofs.Chains.{twice}
use Rattle.lists.proofs.checks.repeats.Goals as goal

pub returns-then-contains : goal.returns-then-contains
returns-then-contains g c = search (rules, twice)

pub loop-i-preserved : goal.loop-i-preserved
loop-i-preserved g c = search (rules, twice)

pub returns : goal.returns
returns g c = search (rules, twice)
