use Rattle.lists.specs.Buses.{up_to}
use Rattle.kron_reduction.proofs.Showing.{Places}
use Rattle.kron_reduction.proofs.first_buses.Given as goal

abbrev pub invariant-loop-i : goal.invariant-loop-i
invariant-loop-i l = Places (up_to l.n) l.active l.i
