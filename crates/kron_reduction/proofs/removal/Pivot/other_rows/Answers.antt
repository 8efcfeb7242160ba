-- `kron_reduction::removal::Pivot::other_rows` meets its contract: the rows before k, then those after it, which the first have left as they were.
use Rattle.prelude.proofs.Prelude.{◌≡◌, sym, ap, ◌∙◌, ℕ, ◌+◌, ◌-◌, ◌*◌, ◌≤◌, ◌<◌, add-one, arith, ⊎_elim, add-zero, mul-le-mul_right}
use Rattle.complex.specs.{Complex, entry, entry_at}
use Rattle.kron_reduction.specs.Kron.{new_entry}
use Rattle.kron_reduction.specs.Inner.Removal.{old_row}
use Rattle.lists.proofs.Order.{lt-or-ge}
use Rattle.kron_reduction.proofs.Positions.{kept-before, kept-after}
use Rattle.kron_reduction.proofs.removal.Pivot.other_rows.Goals as goal

pub put_rows-requires : goal.put_rows-requires
put_rows-requires c =
    let k = c.args.self.now.k in
    (omega arith, omega arith, λ (p : ℕ) (l : 0 ≤ p) (u : p < k). kept-before k p u ∙ sym (add-zero p), c.requires)

pub put_rows-requires-2 : goal.put_rows-requires-2
put_rows-requires-2 c = (
  omega arith,
  omega arith,
  λ (p : ℕ) (l : c.args.self.now.k ≤ p) (u : p < c.args.self.now.n - 1). kept-after c.args.self.now.k p l ∙ sym (add-one p),
  omega (arith, c.requires, c.put_rows.auto.y),
)

pub returns : goal.returns
returns c =
    let k = c.args.self.now.k in (
      λ (p q : ℕ) (u : p < c.args.self.now.n - 1) (v : q < c.args.self.now.n - 1).
          ⊎_elim
          (λ (l : p < k). c.put_rows-2.ensures.1 p q l v ∙ c.put_rows.ensures.0 p q (omega arith) l v)
          (λ (l : k ≤ p).
          let low : k + 0 ≤ old_row k p = rw (kept-after k p l) (omega arith) in
          let same : (j : ℕ) → entry_at c.args.self.now.n c.put_rows.new.y (old_row k p) j ≡ entry_at c.args.self.now.n c.args.y.now (old_row k p) j = λ (j : ℕ). c.put_rows.ensures.2 (old_row k p) j low in
          c.put_rows-2.ensures.0 p q l u v
          ∙ ap (λ (x : Complex). new_entry x (entry_at c.args.self.now.n c.put_rows.new.y (old_row k p) k) (entry c.args.self.now.row.now (old_row k q)) (entry c.args.self.now.row.now k)) (same (old_row k q))
          ∙ ap (λ (x : Complex). new_entry (entry_at c.args.self.now.n c.args.y.now (old_row k p) (old_row k q)) x (entry c.args.self.now.row.now (old_row k q)) (entry c.args.self.now.row.now k)) (same k))
          (lt-or-ge p k),
      λ (t : ℕ) (l : (c.args.self.now.n - 1) * (c.args.self.now.n - 1) ≤ t).
          let fewer : k ≤ c.args.self.now.n - 1 = omega arith in
          let b = mul-le-mul_right (c.args.self.now.n - 1) fewer in
          c.put_rows-2.ensures.3 t l ∙ c.put_rows.ensures.3 t (omega arith),
    )
