-- `kron_reduction::KronReducer::remove_accepted` meets its contract: none is removed and all is as it was, or the rows behind those left are cleared.
use Rattle.prelude.proofs.Prelude.{◌≡◌, refl, ap, ◌∙◌, subst, List, ◌++◌, ℕ, ◌-◌, ◌*◌, ◌≤◌, arith, rules, length, take, drop, replicate, Float, mul-le-mul, sub-zero, length-drop, length-take-le, take_at}
use native.Mathlib.Nat.{le_refl}
use borrow.Rule.Slice.PartMut.{same_len_mid}
use Rattle.complex.specs.{zeros}
use Rattle.lists.proofs.Parts.{back}
use Rattle.refusals.specs.Refusals.{limit}
use Rattle.lists.specs.Buses.{rows_in}
use Rattle.lists.proofs.Lookups.{length-rows_in}
use Rattle.kron_reduction.specs.Inner.Removal.{RemovedAll}
use Rattle.kron_reduction.specs.declared.KronReducer.{KronReducer}
use Rattle.kron_reduction.specs.Reducer.{numbers_of, rows_of}
use Rattle.kron_reduction.proofs.Calls.{Accepts, accepts-has, accepted-holds, buses-fewer, buses-none, buses-room, buses-some}
use Rattle.kron_reduction.proofs.KronReducer.remove_accepted.Goals.{After-remove_list-ran, Start}
use Rattle.kron_reduction.proofs.KronReducer.remove_accepted.Goals as goal

module _ (s : Start) where
  full : length s.args.self.now.active_buses ≡ limit
  full = search rules

  all-numbers : length s.args.self.now.numbers ≡ limit
  all-numbers = search rules

  has : Accepts s.args.self.now s.args.y.now (length s.args.buses.now)
  has = accepts-has s.args.self.now s.args.y.now (length s.args.buses.now) s.requires.0

pub slice_bounds-rows-end : goal.slice_bounds-rows-end
slice_bounds-rows-end c = let h = (has (goal.at.slice_bounds-rows-end c).Start).count in search rules

pub slice_bounds-remove_list-end-2 : goal.slice_bounds-remove_list-end-2
slice_bounds-remove_list-end-2 c =
    omega (arith, same_len_mid 0 (length c.args.buses.now - 0) (replicate limit 0) c.rows_of.new.rows c.rows_of.auto.rows, (has (goal.at.slice_bounds-remove_list-end-2 c).Start).count)

pub remove_list-ran-requires : goal.remove_list-ran-requires
remove_list-ran-requires c =
    let s = (goal.at.remove_list-ran-requires c).Start in
    (accepted-holds c.args.self.now c.args.y.now (length c.args.buses.now) (full s) c.requires.0, refl, c.requires.1)

-- what holds of the front of the rows' places holds of the rows
front : (n : ℕ) (zs more rs : List ℕ) → length zs ≡ n → zs ≡ rs → (P : List ℕ → Type 0) → P (take (n - 0) (zs ++ more)) → P rs
front n zs more rs e l P = subst P (ap (λ (w : ℕ). take w (zs ++ more)) (sub-zero n) ∙ take_at zs more n e ∙ l)

-- after the list: what the call began with, and what is left
module _ (t : After-remove_list-ran) where
  abbrev start : Start
  start = (goal.at.After-remove_list-ran t).Start

  abbrev r : KronReducer
  r = start.args.self.now

  abbrev ys : List Float
  ys = start.args.y.now

  abbrev ks : List ℕ
  ks = start.args.buses.now

  abbrev q : KronReducer
  q = t.remove_list-ran.new.self

  abbrev zs : List Float
  zs = t.remove_list-ran.new.y

  -- the rows that were looked up
  looked : t.rows_of.new.rows ≡ rows_of r ks
  looked = t.rows_of.ensures ∙ ap (λ (w : ℕ). rows_in (take w r.numbers) ks) (sub-zero r.made)

  -- what the list of rows was, and what its removal left
  took : RemovedAll r ys (rows_of r ks) t.remove_list-ran.result q zs
  took =
      front (length ks) t.rows_of.new.rows (drop (length ks - 0) (replicate limit 0)) (rows_of r ks) (ap length looked ∙ length-rows_in (numbers_of r) ks) looked
      (λ (rs : List ℕ). RemovedAll r ys rs t.remove_list-ran.result q zs) t.remove_list-ran.ensures

  small : q.n_buses * q.n_buses ≤ limit * limit
  small =
      let h = buses-fewer r ys ks start.requires.0 (full start) (all-numbers start) t.remove_list-ran.result q zs took in
      mul-le-mul h h

  same : length zs ≡ length ys
  same = t.remove_list-ran.auto.y

  within : 2 * (q.n_buses * q.n_buses) ≤ length zs
  within = omega (arith, buses-room r ys ks start.requires.0 (full start) (all-numbers start) t.remove_list-ran.result q zs took, same)

pub returns-then-ran-eq0 : goal.returns-then-ran-eq0
returns-then-ran-eq0 c =
    let t = (goal.at.returns-then-ran-eq0 c).After-remove_list-ran in
    let (left, slice) = buses-none (r t) (ys t) (ks t) (start t).requires.0 (full (start t)) (all-numbers (start t)) c.remove_list-ran.result (q t) (zs t) (took t) c.if-ran-eq0.true in
    (left.0, left.1, slice)

pub slice_bounds-clear-count : goal.slice_bounds-clear-count
slice_bounds-clear-count c = within (goal.at.slice_bounds-clear-count c).After-remove_list-ran

pub slice_bounds-clear-start : goal.slice_bounds-clear-start
slice_bounds-clear-start c = within (goal.at.slice_bounds-clear-start c).After-remove_list-ran

pub returns : goal.returns
returns c =
    let t = (goal.at.returns c).After-remove_list-ran in
    let m = (q t).n_buses in
    let a = 2 * (m * m) in
    let long : length (take (length (zs t) - a) (drop a (zs t))) ≡ length (ys t) - a =
    length-take-le (length (zs t) - a) (drop a (zs t)) (rw length-drop (le_refl _)) ∙ ap (λ (n : ℕ). n - a) (same t) in
    let cleared : c.clear.new.s ≡ zeros (length (ys t) - a) = c.clear.ensures ∙ ap zeros long in
    let both = buses-some (r t) (ys t) (ks t) (start t).requires.0 (full (start t)) (all-numbers (start t)) c.remove_list-ran.result (q t) (zs t) (took t) c.if-ran-eq0.false (same t) c.clear.new.s cleared in
    (both.0.0, both.0.1, ap (λ (n : ℕ). back a (n - a) (zs t) c.clear.new.s) (same t) ∙ both.1)

pub slice_bounds-rows_of-end : goal.slice_bounds-rows_of-end
slice_bounds-rows_of-end c =
    let s = (goal.at.slice_bounds-rows_of-end c).Start in
    omega (arith, (has s).size, all-numbers s)

pub overflow_mul-a : goal.overflow_mul-a
overflow_mul-a c = omega (arith, small (goal.at.overflow_mul-a c).After-remove_list-ran)

pub overflow_mul-a-2 : goal.overflow_mul-a-2
overflow_mul-a-2 c = omega (arith, small (goal.at.overflow_mul-a-2 c).After-remove_list-ran)

pub offset_bounds-y-a : goal.offset_bounds-y-a
offset_bounds-y-a c = omega (arith, small (goal.at.offset_bounds-y-a c).After-remove_list-ran)
