use Rattle.prelude.proofs.Prelude.{ℕ, get_or, map, take}
use Rattle.kron_reduction.proofs.Showing.{Places}
use Rattle.kron_reduction.proofs.active_numbers.Given as goal

abbrev pub invariant-loop-i : goal.invariant-loop-i
invariant-loop-i l = Places (map (λ (k : ℕ). get_or l.r.numbers k 0) (take l.r.n_buses l.r.active_buses)) l.list l.i
