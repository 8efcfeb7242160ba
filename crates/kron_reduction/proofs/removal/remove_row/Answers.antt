-- `kron_reduction::removal::remove_row` meets its contract: the copy of row k is that row as it was.
use Rattle.prelude.proofs.Prelude.{◌≡◌, ap, ◌∙◌, List, ℕ, ◌+◌, ◌-◌, ◌*◌, ◌<◌, arith, length, take, drop, Float, sub-zero}
use Rattle.complex.specs.{Complex, entry, entry_at}
use Rattle.lists.proofs.Parts.{back}
use Rattle.complex.proofs.Matrices.{entry-part}
use Rattle.kron_reduction.specs.Kron.{new_entry, kron}
use Rattle.kron_reduction.specs.Inner.Removal.{old_row}
use Rattle.kron_reduction.proofs.Positions.{RowRoom, row_room, kept-lt, entry-front, length_part}
use Rattle.kron_reduction.proofs.removal.remove_row.Goals.{Start}
use Rattle.kron_reduction.proofs.removal.remove_row.Goals as goal

lies : (c : Start) → RowRoom c.args.n c.args.k
lies c = row_room c.args.n c.args.k c.requires.0 c.requires.1

pub returns : goal.returns
unfolding kron
returns c =
    let h = lies (goal.at.returns c).Start in
    let wide : 2 * (c.args.k * c.args.n) + 2 * c.args.n - 2 * (c.args.k * c.args.n) ≡ 2 * c.args.n = omega arith in
    let filled : c.copy_from_slice.new.self ≡ take (2 * (c.args.k * c.args.n) + 2 * c.args.n - 2 * (c.args.k * c.args.n)) (drop (2 * (c.args.k * c.args.n)) c.args.y.now) = c.copy_from_slice.ensures.after in
    let long : length c.copy_from_slice.new.self ≡ 2 * c.args.n = ap length filled ∙ length_part (2 * (c.args.k * c.args.n)) (2 * c.args.n) c.args.y.now (omega (arith, h.0, c.requires.2)) in
    let at : (j : ℕ) → j < c.args.n → entry (take (2 * c.args.n - 0) (drop 0 (back 0 (2 * c.args.n - 0) c.args.row.now c.copy_from_slice.new.self))) j ≡ entry_at c.args.n c.args.y.now c.args.k j =
    λ (j : ℕ) (l : j < c.args.n).
    entry-front c.args.n (2 * c.args.n - 0) c.args.row.now c.copy_from_slice.new.self (sub-zero (2 * c.args.n)) (omega (arith, c.requires.0, c.requires.3)) long j l
    ∙ ap (λ (ys : List Float). entry ys j) filled
    ∙ ap (λ (w : ℕ). entry (take w (drop (2 * (c.args.k * c.args.n)) c.args.y.now)) j) wide
    ∙ entry-part c.args.n c.args.y.now c.args.k j l in (
      λ (p q : ℕ) (u : p < c.args.n - 1) (v : q < c.args.n - 1).
          c.other_rows.ensures.0 p q u v
          ∙ ap (λ (x : Complex). new_entry (entry_at c.args.n c.args.y.now (old_row c.args.k p) (old_row c.args.k q)) (entry_at c.args.n c.args.y.now (old_row c.args.k p) c.args.k) x (entry (take (2 * c.args.n - 0) (drop 0 (back 0 (2 * c.args.n - 0) c.args.row.now c.copy_from_slice.new.self))) c.args.k)) (at (old_row c.args.k q) (kept-lt c.args.k q c.args.n v))
          ∙ ap (λ (x : Complex). new_entry (entry_at c.args.n c.args.y.now (old_row c.args.k p) (old_row c.args.k q)) (entry_at c.args.n c.args.y.now (old_row c.args.k p) c.args.k) (entry_at c.args.n c.args.y.now c.args.k (old_row c.args.k q)) x) (at c.args.k c.requires.1),
      c.other_rows.ensures.1,
    )

pub overflow_mul-a : goal.overflow_mul-a
overflow_mul-a c = let h = lies (goal.at.overflow_mul-a c).Start in omega (arith, h.0, h.1)

pub overflow_mul-a-2 : goal.overflow_mul-a-2
overflow_mul-a-2 c = let h = lies (goal.at.overflow_mul-a-2 c).Start in omega (arith, h.0, h.1)

pub overflow_add-e : goal.overflow_add-e
overflow_add-e c = let h = lies (goal.at.overflow_add-e c).Start in omega (arith, h.0, h.1)

pub offset_bounds-y-a : goal.offset_bounds-y-a
offset_bounds-y-a c = let h = lies (goal.at.offset_bounds-y-a c).Start in omega (arith, h.0, h.1)

pub slice_bounds-copy_from_slice-end : goal.slice_bounds-copy_from_slice-end
slice_bounds-copy_from_slice-end c = let h = lies (goal.at.slice_bounds-copy_from_slice-end c).Start in omega (arith, h.0, c.requires.2)
