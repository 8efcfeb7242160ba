-- `kron_reduction::removal::Pivot::put_rows` meets its contract. The loop's invariant: the rows passed are the smaller matrix's, the old rows further down are as they were.
use Rattle.prelude.proofs.Prelude.{◌≡◌, refl, sym, ap, ◌∙◌, subst, ℕ, ◌+◌, ◌-◌, ◌*◌, ◌≤◌, ◌<◌, arith, ⊎_elim}
use Rattle.complex.specs.{Complex, entry, entry_at}
use Rattle.kron_reduction.specs.Kron.{new_entry}
use Rattle.kron_reduction.specs.Inner.Removal.{old_row}
use Rattle.lists.proofs.Order.{lt-or-ge}
use Rattle.complex.proofs.Matrices.{row_within}
use Rattle.kron_reduction.proofs.removal.Pivot.put_rows.Goals as goal

pub loop-p-init : goal.loop-p-init
loop-p-init c = (
  omega arith,
  omega arith,
  refl,
  λ (r q : ℕ) (l : _ ≤ r) (u : r < _). absurd (omega arith),
  λ (r q : ℕ) (l : r < _) (u : q < _). refl,
  λ (r q : ℕ) (l : _ ≤ r). refl,
  λ (t : ℕ) (l : _ ≤ t). refl,
)

pub loop-p-preserved : goal.loop-p-preserved
loop-p-preserved c =
    let m = c.args.self.now.n - 1 in
    let d = c.args.d in let p = c.loop-p.p in let test : p < c.args.end = c.loop-p-test.true in
    let from : c.args.first ≤ p = c.loop-p.invariant.0 in
    let at : p + d ≡ old_row c.args.self.now.k p = sym (c.requires.2 p from test) in
    let below : (j : ℕ) → entry_at c.args.self.now.n c.loop-p.y (p + d) j ≡ entry_at c.args.self.now.n c.args.y.now (old_row c.args.self.now.k p) j =
    λ (j : ℕ). c.loop-p.invariant.5 (p + d) j (omega arith) ∙ ap (λ (r : ℕ). entry_at c.args.self.now.n c.args.y.now r j) at in (
      omega arith,
      omega arith,
      c.put_row.auto.y ∙ c.loop-p.invariant.2,
      λ (r q : ℕ) (l : c.args.first ≤ r) (u : r < p + 1) (v : q < m).
          ⊎_elim
          (λ (w : r < p). c.put_row.ensures.1 r q w v ∙ c.loop-p.invariant.3 r q l w v)
          (λ (w : p ≤ r).
          let e : r ≡ p = omega arith in
          ap (λ (r : ℕ). entry_at m c.put_row.new.y r q) e
          ∙ c.put_row.ensures.0 q v
          ∙ ap (λ (x : Complex). new_entry x (entry_at c.args.self.now.n c.loop-p.y (p + d) c.args.self.now.k) (entry c.args.self.now.row.now (old_row c.args.self.now.k q)) (entry c.args.self.now.row.now c.args.self.now.k)) (below (old_row c.args.self.now.k q))
          ∙ ap (λ (x : Complex). new_entry (entry_at c.args.self.now.n c.args.y.now (old_row c.args.self.now.k p) (old_row c.args.self.now.k q)) x (entry c.args.self.now.row.now (old_row c.args.self.now.k q)) (entry c.args.self.now.row.now c.args.self.now.k)) (below c.args.self.now.k)
          ∙ ap (λ (r : ℕ). new_entry (entry_at c.args.self.now.n c.args.y.now (old_row c.args.self.now.k r) (old_row c.args.self.now.k q)) (entry_at c.args.self.now.n c.args.y.now (old_row c.args.self.now.k r) c.args.self.now.k) (entry c.args.self.now.row.now (old_row c.args.self.now.k q)) (entry c.args.self.now.row.now c.args.self.now.k)) (sym e))
          (lt-or-ge r p),
      λ (r q : ℕ) (l : r < c.args.first) (v : q < m). c.put_row.ensures.1 r q (omega arith) v ∙ c.loop-p.invariant.4 r q l v,
      λ (r q : ℕ) (l : p + 1 + d ≤ r). c.put_row.ensures.2 r q (omega arith) ∙ c.loop-p.invariant.5 r q (omega arith),
      λ (t : ℕ) (l : (p + 1) * m ≤ t). let b = row_within (p + 1) m p (omega arith) in c.put_row.ensures.3 t (omega arith) ∙ c.loop-p.invariant.6 t (omega arith),
    )

pub returns : goal.returns
returns c =
    let done : c.args.end ≤ c.loop-p.p = c.loop-p-test.false in
    let within : c.loop-p.p ≤ c.args.end = c.loop-p.invariant.1 in (
      λ (r q : ℕ) (l : c.args.first ≤ r) (u : r < c.args.end) (v : q < c.args.self.now.n - 1). c.loop-p.invariant.3 r q l (omega arith) v,
      c.loop-p.invariant.4,
      λ (r q : ℕ) (l : c.args.end + c.args.d ≤ r). c.loop-p.invariant.5 r q (omega arith),
      λ (t : ℕ) (l : c.args.end * (c.args.self.now.n - 1) ≤ t). let same : c.args.end ≡ c.loop-p.p = omega arith in c.loop-p.invariant.6 t (subst (λ (e : ℕ). e * (c.args.self.now.n - 1) ≤ t) same l),
    )
