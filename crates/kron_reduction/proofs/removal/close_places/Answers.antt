-- `kron_reduction::removal::close_places` meets its contract: what stood behind k up to n has moved down, the rest is as it was.
use Rattle.prelude.proofs.Prelude.{ap, ◌∙◌, sym, ℕ, ◌-◌, ◌≤◌, ◌<◌, arith, get_or, get_or-set_same, get_or-set_other, inl, inr}
use Rattle.lists.proofs.Order.{lt-or-ge}
use Rattle.kron_reduction.proofs.Positions.{kept-before, kept-after}
use Rattle.kron_reduction.proofs.removal.close_places.Goals as goal

pub returns : goal.returns
returns c =
    let n = c.args.n in
    let k = c.args.k in
    let moved = c.copy_within.new.self in
    let old = c.args.active.now in (
      λ (p : ℕ) (l : p < n - 1).
          get_or-set_other moved (n - 1) p 0 0 (λ e. omega arith)
          ∙ elim (lt-or-ge p k) [
            | inl u ↦ c.copy_within.ensures.by_index.1 p 0 u ∙ ap (λ (i : ℕ). get_or old i 0) (sym (kept-before k p u))
            | inr u ↦ c.copy_within.ensures.by_index.0 p 0 u (omega arith) ∙ ap (λ (i : ℕ). get_or old i 0) (rw (kept-after k p u) (omega arith))
          ],
      get_or-set_same moved (n - 1) 0 0 (omega (arith, c.copy_within.ensures.len)),
      λ (p : ℕ) (l : n ≤ p). get_or-set_other moved (n - 1) p 0 0 (λ e. omega arith) ∙ c.copy_within.ensures.by_index.2 p 0 (omega arith),
    )
