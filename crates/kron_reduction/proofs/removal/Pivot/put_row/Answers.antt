-- `kron_reduction::removal::Pivot::put_row` meets its contract: the part of the slice that comes back begins with row p of the smaller matrix.
use Rattle.prelude.proofs.Prelude.{rules, ◌≡◌, sym, ap, ◌∙◌, ⊎_elim, List, ℕ, ◌+◌, ◌-◌, ◌*◌, ◌≤◌, ◌<◌, arith, length, take, drop, Float}
use Rattle.complex.specs.{Complex, entry, entry_at}
use Rattle.lists.proofs.Order.{lt-or-ge}
use Rattle.lists.proofs.Parts.{back}
use Rattle.complex.proofs.Entries.{entry-take, entry-drop, entry-back-before, entry-back-in, entry-back-after}
use Rattle.complex.proofs.Matrices.{row_within, entry-within}
use Rattle.kron_reduction.specs.Kron.{new_entry}
use Rattle.kron_reduction.specs.Inner.Removal.{old_row}
use Rattle.kron_reduction.proofs.Positions.{Room, room, kept-lt, length_part}
use Rattle.kron_reduction.proofs.removal.Pivot.put_row.Goals.{Start}
use Rattle.kron_reduction.proofs.removal.Pivot.put_row.Goals as goal

lies : (c : Start) → Room c.args.self.now.n c.args.i c.args.p
lies c =
    room c.args.self.now.n c.args.i c.args.p (search rules) c.requires.0 c.requires.1

pub reduce_row-requires : goal.reduce_row-requires
reduce_row-requires c =
    let h = lies (goal.at.reduce_row-requires c).Start in
    let at = c.args.i * c.args.self.now.n - c.args.p * (c.args.self.now.n - 1) in
    (omega (arith, h.0, h.2), length_part (2 * (c.args.p * (c.args.self.now.n - 1))) (2 * (at + c.args.self.now.n)) c.args.y.now (omega (arith, h.0, h.1, c.requires.2)))

pub returns : goal.returns
unfolding entry_at
returns c =
    let n = c.args.self.now.n in
    let m = n - 1 in
    let p = c.args.p in let h = lies (goal.at.returns c).Start in
    let at = c.args.i * n - p * m in
    let f = 2 * (p * m) in
    let w = f + 2 * (at + n) - f in
    let wide : w ≡ 2 * (at + n) = omega arith in
    let fits : 2 * (p * m + (at + n)) ≤ length c.args.y.now = omega (arith, h.0, h.1, c.requires.2) in
    let long : length c.reduce_row.new.s ≡ 2 * (at + n) = c.reduce_row.auto.s ∙ length_part f (2 * (at + n)) c.args.y.now (omega arith) in
    let shape : back f w c.args.y.now c.reduce_row.new.s ≡ back f (2 * (at + n)) c.args.y.now c.reduce_row.new.s = ap (λ (w : ℕ). back f w c.args.y.now c.reduce_row.new.s) wide in
    let old : (j : ℕ) → j < n → entry (take w (drop f c.args.y.now)) (at + j) ≡ entry c.args.y.now (c.args.i * n + j) =
    λ (j : ℕ) (l : j < n).
    ap (λ (w : ℕ). entry (take w (drop f c.args.y.now)) (at + j)) wide
    ∙ entry-take (at + n) (drop f c.args.y.now) (at + j) (omega arith)
    ∙ entry-drop (p * m) c.args.y.now (at + j)
    ∙ ap (λ (x : ℕ). entry c.args.y.now x) (omega (arith, h.1)) in (
      λ (q : ℕ) (l : q < m).
          ap (λ (ys : List Float). entry ys (p * m + q)) shape
          ∙ entry-back-in (p * m) (at + n) c.args.y.now c.reduce_row.new.s fits long q (omega arith)
          ∙ c.reduce_row.ensures.0 q l
          ∙ ap (λ (x : Complex). new_entry x (entry (take w (drop f c.args.y.now)) (at + c.args.self.now.k)) (entry c.args.self.now.row.now (old_row c.args.self.now.k q)) (entry c.args.self.now.row.now c.args.self.now.k)) (old (old_row c.args.self.now.k q) (kept-lt c.args.self.now.k q n l))
          ∙ ap (λ (x : Complex). new_entry (entry c.args.y.now (c.args.i * n + old_row c.args.self.now.k q)) x (entry c.args.self.now.row.now (old_row c.args.self.now.k q)) (entry c.args.self.now.row.now c.args.self.now.k)) (old c.args.self.now.k (search rules)),
      λ (r q : ℕ) (l : r < p) (u : q < m).
          ap (λ (ys : List Float). entry ys (r * m + q)) shape ∙ entry-back-before (p * m) (at + n) c.args.y.now c.reduce_row.new.s fits long (r * m + q) (entry-within p m r q l u),
      λ (r q : ℕ) (l : c.args.i < r).
          ap (λ (ys : List Float). entry ys (r * n + q)) shape
          ∙ entry-back-after (p * m) (at + n) c.args.y.now c.reduce_row.new.s fits long (r * n + q) (let b = row_within r n c.args.i l in omega (arith, h.1)),
      λ (t : ℕ) (l : p * m + m ≤ t).
          ap (λ (ys : List Float). entry ys t) shape
          ∙ ⊎_elim
          (λ (u : t < p * m + (at + n)).
          let j = t - p * m in
          let e : t ≡ p * m + j = omega arith in
          ap (entry (back f (2 * (at + n)) c.args.y.now c.reduce_row.new.s)) e
          ∙ entry-back-in (p * m) (at + n) c.args.y.now c.reduce_row.new.s fits long j (omega arith)
          ∙ c.reduce_row.ensures.1 j (omega arith)
          ∙ ap (λ (w : ℕ). entry (take w (drop f c.args.y.now)) j) wide
          ∙ entry-take (at + n) (drop f c.args.y.now) j (omega arith)
          ∙ entry-drop (p * m) c.args.y.now j
          ∙ ap (entry c.args.y.now) (sym e))
          (λ (u : p * m + (at + n) ≤ t). entry-back-after (p * m) (at + n) c.args.y.now c.reduce_row.new.s fits long t u)
          (lt-or-ge t (p * m + (at + n))),
    )

pub overflow_mul-b : goal.overflow_mul-b
overflow_mul-b c = let h = lies (goal.at.overflow_mul-b c).Start in omega (arith, h.0, h.1, h.2)

pub overflow_mul-at : goal.overflow_mul-at
overflow_mul-at c = let h = lies (goal.at.overflow_mul-at c).Start in omega (arith, h.0, h.1, h.2)

pub overflow_sub-at : goal.overflow_sub-at
overflow_sub-at c = let h = lies (goal.at.overflow_sub-at c).Start in omega (arith, h.0, h.1, h.2)

pub overflow_mul-f : goal.overflow_mul-f
overflow_mul-f c = let h = lies (goal.at.overflow_mul-f c).Start in omega (arith, h.0, h.1, h.2)

pub overflow_add-e : goal.overflow_add-e
overflow_add-e c = let h = lies (goal.at.overflow_add-e c).Start in omega (arith, h.0, h.1, h.2)

pub overflow_mul-e : goal.overflow_mul-e
overflow_mul-e c = let h = lies (goal.at.overflow_mul-e c).Start in omega (arith, h.0, h.1, h.2)

pub overflow_add-e-2 : goal.overflow_add-e-2
overflow_add-e-2 c = let h = lies (goal.at.overflow_add-e-2 c).Start in omega (arith, h.0, h.1, h.2)

pub offset_bounds-y-f : goal.offset_bounds-y-f
offset_bounds-y-f c = let h = lies (goal.at.offset_bounds-y-f c).Start in omega (arith, h.0, h.1, h.2)

pub slice_bounds-reduce_row-end : goal.slice_bounds-reduce_row-end
slice_bounds-reduce_row-end c = let h = lies (goal.at.slice_bounds-reduce_row-end c).Start in omega (arith, h.0, h.1, c.requires.2)
