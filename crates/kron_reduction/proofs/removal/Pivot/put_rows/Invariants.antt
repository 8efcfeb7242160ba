use Rattle.prelude.proofs.Prelude.{◌≡◌, ℕ, ◌+◌, ◌-◌, ◌*◌, ◌≤◌, ◌<◌, length}
use Rattle.complex.specs.{entry, entry_at}
use Rattle.kron_reduction.specs.Kron.{new_entry}
use Rattle.kron_reduction.specs.Inner.Removal.{old_row}
use Rattle.kron_reduction.proofs.removal.Pivot.put_rows.Given as goal

abbrev pub invariant-loop-p : goal.invariant-loop-p
invariant-loop-p l =
    (l.first ≤ l.p) × (l.p ≤ l.end) × (length l.y ≡ length l.initial.y)
    × ((r q : ℕ) → l.first ≤ r → r < l.p → q < l.self.n - 1 → entry_at (l.self.n - 1) l.y r q
    ≡ new_entry (entry_at l.self.n l.initial.y (old_row l.self.k r) (old_row l.self.k q)) (entry_at l.self.n l.initial.y (old_row l.self.k r) l.self.k) (entry l.self.row.now (old_row l.self.k q)) (entry l.self.row.now l.self.k))
    × ((r q : ℕ) → r < l.first → q < l.self.n - 1 → entry_at (l.self.n - 1) l.y r q ≡ entry_at (l.self.n - 1) l.initial.y r q)
    × ((r q : ℕ) → l.p + l.d ≤ r → entry_at l.self.n l.y r q ≡ entry_at l.self.n l.initial.y r q)
    × ((t : ℕ) → l.p * (l.self.n - 1) ≤ t → entry l.y t ≡ entry l.initial.y t)
