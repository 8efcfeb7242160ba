-- `kron_reduction::removal::Pivot::reduce_columns` meets its contract. The loop's invariant: the entries passed are Kron's; those before `first`, and those not yet passed, are as they were.
use Rattle.prelude.proofs.Prelude.{◌≡◌, refl, ap, ◌∙◌, List, ℕ, ◌+◌, ◌*◌, ◌≤◌, ◌<◌, arith, length, Float}
use Rattle.complex.specs.{Complex, entry}
use Rattle.complex.proofs.Entries.{length-put, entry-put-other}
use Rattle.kron_reduction.specs.Kron.{new_entry}
use Rattle.kron_reduction.specs.Inner.Removal.{old_row}
use Rattle.kron_reduction.proofs.Positions.{put-more}
use Rattle.kron_reduction.proofs.removal.Pivot.reduce_columns.Goals as goal

pub loop-q-init : goal.loop-q-init
loop-q-init c = (
  omega arith,
  omega arith,
  refl,
  λ (i : ℕ) (l : _ ≤ i) (u : i < _). absurd (omega arith),
  λ (i : ℕ) (l : i < _). refl,
  λ (i : ℕ) (l : _ ≤ i). refl,
)

pub loop-q-preserved : goal.loop-q-preserved
loop-q-preserved c =
    let q = c.loop-q.q in
    let e = c.put.ensures in
    let from : c.args.first ≤ q = c.loop-q.invariant.0 in
    let column : old_row c.args.self.now.k q ≡ q + c.args.d = c.requires.0 q from c.loop-q-test.true in
    let place : q + c.args.far ≡ c.args.at + old_row c.args.self.now.k q = omega (arith, column, c.requires.2) in
    let f : ℕ → Complex = λ (i : ℕ). new_entry (entry c.args.s.now (c.args.at + old_row c.args.self.now.k i)) c.get-ik.result (entry c.args.self.now.row.now (old_row c.args.self.now.k i)) c.get-kk.result in
    let here : c.new_entry.result ≡ f q =
    c.new_entry.ensures
    ∙ ap (λ (x : Complex). new_entry x c.get-ik.result c.get-in-loop-q.result c.get-kk.result) (c.get.ensures ∙ c.loop-q.invariant.5 (q + c.args.far) (omega arith) ∙ ap (entry c.args.s.now) place)
    ∙ ap (λ (x : Complex). new_entry (entry c.args.s.now (c.args.at + old_row c.args.self.now.k q)) c.get-ik.result x c.get-kk.result) (c.get-in-loop-q.ensures ∙ ap (λ (j : ℕ). entry c.args.self.now.row.now j) (omega (arith, column))) in
    let fits : 2 * q + 1 < length c.loop-q.s = omega (arith, c.requires.3, c.loop-q.invariant.2, c.loop-q-test.true) in
    let other : (i : ℕ) → (i ≡ q → ⊥) → entry c.put.new.s i ≡ entry c.loop-q.s i =
    λ (i : ℕ) (n : i ≡ q → ⊥). ap (λ (ys : List Float). entry ys i) e ∙ entry-put-other c.loop-q.s q c.new_entry.result i n in (
      omega arith,
      omega arith,
      ap length e ∙ length-put c.loop-q.s q c.new_entry.result ∙ c.loop-q.invariant.2,
      λ (i : ℕ) (l : c.args.first ≤ i) (u : i < q + 1). ap (λ (ys : List Float). entry ys i) e ∙ put-more f c.loop-q.s c.args.first q c.new_entry.result fits c.loop-q.invariant.3 here i l u,
      λ (i : ℕ) (l : i < c.args.first). other i (λ (e : i ≡ q). omega arith) ∙ c.loop-q.invariant.4 i l,
      λ (i : ℕ) (l : q + 1 ≤ i). other i (λ (e : i ≡ q). omega arith) ∙ c.loop-q.invariant.5 i (omega arith),
    )

pub returns : goal.returns
returns c =
    let done : c.args.end ≤ c.loop-q.q = c.loop-q-test.false in
    let within : c.loop-q.q ≤ c.args.end = c.loop-q.invariant.1 in
    let ik : c.get-ik.result ≡ entry c.args.s.now (c.args.at + c.args.self.now.k) = c.get-ik.ensures in
    let kk : c.get-kk.result ≡ entry c.args.self.now.row.now c.args.self.now.k = c.get-kk.ensures in (
      λ (q : ℕ) (l : c.args.first ≤ q) (u : q < c.args.end).
          c.loop-q.invariant.3 q l (omega arith)
          ∙ ap (λ (x : Complex). new_entry (entry c.args.s.now (c.args.at + old_row c.args.self.now.k q)) x (entry c.args.self.now.row.now (old_row c.args.self.now.k q)) c.get-kk.result) ik
          ∙ ap (λ (x : Complex). new_entry (entry c.args.s.now (c.args.at + old_row c.args.self.now.k q)) (entry c.args.s.now (c.args.at + c.args.self.now.k)) (entry c.args.self.now.row.now (old_row c.args.self.now.k q)) x) kk,
      c.loop-q.invariant.4,
      λ (q : ℕ) (l : c.args.end ≤ q). c.loop-q.invariant.5 q (omega arith),
    )
