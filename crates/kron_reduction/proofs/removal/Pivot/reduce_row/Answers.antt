-- `kron_reduction::removal::Pivot::reduce_row` meets its contract: the columns before k, then those after it, whose old entries the first have left as they were.
use Rattle.prelude.proofs.Prelude.{sym, ap, ◌∙◌, ℕ, ◌+◌, ◌-◌, ◌≤◌, ◌<◌, add-one, arith, ⊎_elim}
use Rattle.complex.specs.{Complex, entry}
use Rattle.kron_reduction.specs.Kron.{new_entry}
use Rattle.kron_reduction.specs.Inner.Removal.{old_row}
use Rattle.lists.proofs.Order.{lt-or-ge}
use Rattle.kron_reduction.proofs.Positions.{kept-after}
use Rattle.kron_reduction.proofs.removal.Pivot.reduce_row.Goals as goal

pub reduce_columns-requires : goal.reduce_columns-requires
reduce_columns-requires c =
    (λ (q : ℕ) (l : c.args.self.now.k ≤ q) (u : q < c.args.self.now.n - 1). kept-after c.args.self.now.k q l ∙ sym (add-one q), omega arith, omega arith, c.near.ensures, omega (arith, c.near.ensures), omega arith)

pub returns : goal.returns
returns c =
    let k = c.args.self.now.k in (
      λ (q : ℕ) (l : q < c.args.self.now.n - 1).
          ⊎_elim
          (λ (u : q < k). c.reduce_columns.ensures.1 q u ∙ c.left_columns.ensures.0 q u)
          (λ (u : k ≤ q).
          c.reduce_columns.ensures.0 q u l
          ∙ ap (λ (x : Complex). new_entry x (entry c.left_columns.new.s (c.args.at + k)) (entry c.args.self.now.row.now (old_row k q)) (entry c.args.self.now.row.now k)) (c.left_columns.ensures.1 (c.args.at + old_row k q) (rw (kept-after k q u) (omega arith)))
          ∙ ap (λ (x : Complex). new_entry (entry c.args.s.now (c.args.at + old_row k q)) x (entry c.args.self.now.row.now (old_row k q)) (entry c.args.self.now.row.now k)) (c.left_columns.ensures.1 (c.args.at + k) (omega arith)))
          (lt-or-ge q k),
      λ (q : ℕ) (l : c.args.self.now.n - 1 ≤ q). c.reduce_columns.ensures.2 q l ∙ c.left_columns.ensures.1 q (omega arith),
    )
