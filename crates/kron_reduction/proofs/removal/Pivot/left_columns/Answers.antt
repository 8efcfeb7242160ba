-- `kron_reduction::removal::Pivot::left_columns` meets its contract: both calls work out the columns before k.
use Rattle.prelude.proofs.Prelude.{refl, sym, ◌∙◌, ℕ, ◌≤◌, ◌<◌, arith, add-zero}
use Rattle.kron_reduction.proofs.Positions.{kept-before}
use Rattle.kron_reduction.proofs.removal.Pivot.left_columns.Goals as goal

pub reduce_columns-requires : goal.reduce_columns-requires
reduce_columns-requires c =
    let k = c.args.self.now.k in
    (λ (q : ℕ) (l : 0 ≤ q) (u : q < k). kept-before k q u ∙ sym (add-zero q), omega arith, omega arith, refl, omega arith, omega arith)

pub reduce_columns-requires-else-at-eq0 : goal.reduce_columns-requires-else-at-eq0
reduce_columns-requires-else-at-eq0 c =
    let k = c.args.self.now.k in
    (λ (q : ℕ) (l : 0 ≤ q) (u : q < k). kept-before k q u ∙ sym (add-zero q), omega arith, omega arith, c.near.ensures ∙ sym (add-zero _), omega (arith, c.near.ensures), omega arith)
