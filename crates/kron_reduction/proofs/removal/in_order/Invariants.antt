use Rattle.prelude.proofs.Prelude.{◌≡◌, ◌&&◌, ◌≤◌, length, drop}
use Rattle.lists.specs.Buses.{rising, all_below}
use Rattle.kron_reduction.proofs.Positions.{rises_from}
use Rattle.kron_reduction.proofs.removal.in_order.Given as goal

abbrev pub invariant-loop-place : goal.invariant-loop-place
invariant-loop-place l = (l.place-index ≤ length l.buses) × ((rising l.buses && all_below l.made l.buses) ≡ rises_from l.low l.made (drop l.place-index l.buses))
