use Rattle.prelude.proofs.Prelude.{◌≡◌, ℕ, ◌+◌, ◌≤◌, ◌<◌, length}
use Rattle.complex.specs.{entry}
use Rattle.kron_reduction.specs.Kron.{new_entry}
use Rattle.kron_reduction.specs.Inner.Removal.{old_row}
use Rattle.kron_reduction.proofs.removal.Pivot.reduce_columns.Given as goal

abbrev pub invariant-loop-q : goal.invariant-loop-q
invariant-loop-q l =
    (l.first ≤ l.q) × (l.q ≤ l.end) × (length l.s ≡ length l.initial.s)
    × ((i : ℕ) → l.first ≤ i → i < l.q → entry l.s i ≡ new_entry (entry l.initial.s (l.at + old_row l.self.k i)) l.ik (entry l.self.row.now (old_row l.self.k i)) l.kk)
    × ((i : ℕ) → i < l.first → entry l.s i ≡ entry l.initial.s i)
    × ((i : ℕ) → l.q ≤ i → entry l.s i ≡ entry l.initial.s i)
