use Rattle.prelude.proofs.Prelude.{◌≡◌, length, take}
use Rattle.kron_reduction.specs.Inner.Removal.{left_by}
use Rattle.kron_reduction.specs.Reducer.{active_of, state_in}
use Rattle.kron_reduction.proofs.Taking.{Ongoing}
use Rattle.kron_reduction.proofs.KronReducer.remove_list.Given as goal

abbrev pub invariant-loop-removed : goal.invariant-loop-removed
invariant-loop-removed l =
    Ongoing l.initial.self (state_in l.initial.self.n_buses (active_of l.initial.self) l.initial.y) l.buses l.removed l.self l.y
    × (length l.y ≡ length l.initial.y) × (length l.row ≡ length l.initial.row)
    × (l.y ≡ left_by (state_in l.initial.self.n_buses (active_of l.initial.self) l.initial.y) l.initial.y (take l.removed l.buses))
