-- What the calls on a record answer and leave, from the tests that the code makes and from what a list of removals leaves.
use Rattle.std.proofs.Common.{Result, Ok, Err}
use Rattle.prelude.proofs.Prelude.{◌≡◌, refl, sym, ap, ◌∙◌, true, false, not, ◌||◌, ◌⊎◌, inl, inr, List, [], ◌∷◌, ◌++◌, ℕ, zero, suc, ◌+◌, ◌-◌, ◌*◌, ◌≤◌, arith, T, eqb, ltb, length, take, drop, Float, ap₂, append-nil, zero-add, sub-zero, le_trans, mul-le-mul, mul-le-mul_left, ne_eqb, ltb-false, length-drop, drop_of_length-le, length-take-le}
use Rattle.complex.specs.{zeros}
use Rattle.lists.proofs.Parts.{back}
use Rattle.refusals.proofs.Answering.{accepted, passed, accepting}
use Rattle.refusals.proofs.Numbers.{given-none, given-before, given-not, given-all}
use Rattle.refusals.specs.declared.Refusal.{Refusal}
use Rattle.refusals.specs.declared.Refusal.TheVariants.{GivenNotFinite}
use Rattle.refusals.specs.Refusals.{limit, outcome}
use Rattle.binary64.specs.Values.{all_finite}
use Rattle.kron_reduction.specs.declared.KronReducer.{KronReducer}
use Rattle.kron_reduction.specs.declared.AfterRemovals.{AfterRemovals}
use Rattle.kron_reduction.specs.declared.Removals.{Removals}
use Rattle.kron_reduction.specs.Kron.{State, eliminate, carried_out, stopped_by}
use Rattle.kron_reduction.specs.Reducer.{reducer_of, record_of, active_of, numbers_of, sound, input_shape_refusal, present, input_refusal, state_in, state_of, reducer_state_of, row_major, stored, leaves, rows_of, removed_rows, removals_refusal, removals_of, ReducerState, AfterBuses, after_buses, padded}
use Rattle.kron_reduction.specs.Inner.Removal.{StandsIn, left_by, Holds, RemovedAll}
use Rattle.lists.proofs.Buses.{neither, rising-length}
use Rattle.kron_reduction.proofs.States.{Accepted, taken-accepted}
use Rattle.kron_reduction.proofs.Reducer.{Sound, sound-has, filled-places}
use Rattle.kron_reduction.proofs.Showing.{front-rows}
use Rattle.kron_reduction.proofs.Taking.{refused-none, holds-long, length-eliminate}

-- ---- the input refusals

-- what an accepted input has
pub record Accepts (r : KronReducer) (ys : List Float) (l : ℕ) : Type 0 where
  pub size : r.made ≤ limit
  pub count : l ≤ limit
  pub slice : length ys ≡ 2 * (r.made * r.made)
  pub record' : T (sound r)

-- what the shapes of an input tell
pub shaped-has : (r : KronReducer) (ys : List Float) (l : ℕ) → input_shape_refusal r ys l ≡ 0 → Accepts r ys l
unfolding input_shape_refusal
shaped-has r ys l e =
    let (many, e2) = passed (ltb limit r.made || ltb limit l) 0 _ e in
    let (given, e9) = passed (not (eqb (length ys) (2 * (r.made * r.made)))) 1 _ e2 in
    let (whole, _) = passed (not (sound r)) 8 _ e9 in
    let (size, count) = neither (ltb limit r.made) _ many in
    search (accepting, ltb-false)

pub input-shaped : (r : KronReducer) (ys : List Float) (l : ℕ) → input_refusal r ys l ≡ 0 → input_shape_refusal r ys l ≡ 0
unfolding input_refusal
input-shaped r ys l e = (given-none (input_shape_refusal r ys l) (present r ys) e).0

pub accepts-has : (r : KronReducer) (ys : List Float) (l : ℕ) → input_refusal r ys l ≡ 0 → Accepts r ys l
accepts-has r ys l e = shaped-has r ys l (input-shaped r ys l e)

-- and the numbers of the present rows are finite
pub accepts-finite : (r : KronReducer) (ys : List Float) (l : ℕ) → input_refusal r ys l ≡ 0 → T (all_finite (present r ys))
unfolding input_refusal
accepts-finite r ys l e = (given-none (input_shape_refusal r ys l) (present r ys) e).1

pub shaped-holds : (r : KronReducer) (ys : List Float) (l : ℕ) → length r.active_buses ≡ limit → input_shape_refusal r ys l ≡ 0 → Holds r ys
shaped-holds r ys l long e = record {
  room = has.room;
  places = filled-places r.n_buses r.active_buses has.room long has.behind;
  rises = has.rises;
  fits = rw ok.slice (mul-le-mul_left 2 (mul-le-mul fewer fewer));
}
  where
    ok : Accepts r ys l
    ok = shaped-has r ys l e

    has : Sound r
    has = sound-has r ok.record'

    fewer : r.n_buses ≤ r.made
    fewer =
        let a = rising-length r.made (active_of r) has.rises has.below in
        let b : length (active_of r) ≡ r.n_buses = length-take-le r.n_buses r.active_buses (rw long has.room) in
        omega arith

pub accepted-holds : (r : KronReducer) (ys : List Float) (l : ℕ) → length r.active_buses ≡ limit → input_refusal r ys l ≡ 0 → Holds r ys
accepted-holds r ys l long e = shaped-holds r ys l long (input-shaped r ys l e)

-- ---- rows at the front, +0 behind

pub stored-front : (s : State) (m len : ℕ) (ys : List Float) → length s.active ≡ m → StandsIn s ys → length ys ≡ len → 2 * (m * m) ≤ len
    → take (2 * (m * m)) ys ++ zeros (len - 2 * (m * m)) ≡ row_major len s.active s.entries
unfolding row_major
stored-front s m len ys e shows long fits = ap₂ (λ (a b : List Float). a ++ b) (front-rows s m ys e shows (rw long fits)) (ap (λ (k : ℕ). zeros (len - 2 * (k * k))) (sym e))

-- a list whose end came back as zs
pub back_end : (a len : ℕ) (ys zs : List Float) → length ys ≡ len → back a (len - a) ys zs ≡ take a ys ++ zs
back_end a len ys zs long =
    let nothing : drop (len - a) (drop a ys) ≡ [] = drop_of_length-le (drop a ys) {i = len - a} (rw length-drop (omega arith)) in
    ap (λ (b : List Float). take a ys ++ (zs ++ b)) nothing ∙ ap (λ (b : List Float). take a ys ++ b) (append-nil zs)

pub laid_out : (s : State) (m len : ℕ) (ys zs : List Float) → length s.active ≡ m → StandsIn s ys → length ys ≡ len → 2 * (m * m) ≤ len → zs ≡ zeros (len - 2 * (m * m))
    → back (2 * (m * m)) (len - 2 * (m * m)) ys zs ≡ row_major len s.active s.entries
laid_out s m len ys zs e shows long fits clear =
    back_end (2 * (m * m)) len ys zs long ∙ ap (λ (b : List Float). take (2 * (m * m)) ys ++ b) clear ∙ stored-front s m len ys e shows long fits

-- ---- a list of removals

nothing : (ts : List ℕ) → length ts ≡ 0 → ts ≡ []
nothing [] e = refl
nothing (t ∷ ts) e = absurd (omega arith)

-- a state as the call lays it out
abbrev laid : KronReducer → State → ReducerState
laid r e = reducer_state_of (record_of r.made (numbers_of r) e.active) (row_major (2 * (r.made * r.made)) e.active e.entries)

leaves-cons : (r : KronReducer) (ys : List Float) (t : ℕ) (ts : List ℕ) → leaves r ys (t ∷ ts) ≡ laid r (eliminate (state_in r.n_buses (active_of r) ys) (t ∷ ts))
unfolding leaves stored state_of
leaves-cons r ys t ts = refl

leaves_none : (r : KronReducer) (ys : List Float) → leaves r ys [] ≡ reducer_state_of r ys
unfolding leaves
leaves_none r ys = refl

module _ (r : KronReducer) (ys : List Float) (ks : List ℕ) where
  -- what is left where the input is refused
  abbrev Refused : ℕ → Type 0
  Refused f = (removals_of f 0 r ≡ (after_buses r ys ks).out) × (ys ≡ (after_buses r ys ks).slice)

  pub buses-refused : (f : ℕ) → (f ≡ 0 → ⊥) → input_refusal r ys (length ks) ≡ f → Refused f
  unfolding removed_rows removals_refusal leaves after_buses
  buses-refused f n e = rw (e, ne_eqb f 0 n) (refl, refl)

  -- and what is answered there
  abbrev Told : Refusal → Type 0
  Told f = (record { answer = Err f; removed = 0 } ≡ (after_buses r ys ks).out.removals) × (r ≡ (after_buses r ys ks).out.rec) × (ys ≡ (after_buses r ys ks).slice)

  told : (f : Refusal) → Err f ≡ outcome (input_refusal r ys (length ks)) → Told f
  told f e =
      let some : input_refusal r ys (length ks) ≡ 0 → ⊥ = λ z. refused-none (e ∙ ap outcome z) in
      let (out, slice) = buses-refused (input_refusal r ys (length ks)) some refl in (
        ap (λ (a : Result (Unit {0}) Refusal). record { answer = a; removed = 0 }) e ∙ ap (λ (t : AfterRemovals). t.removals) out,
        ap (λ (t : AfterRemovals). t.rec) out,
        slice,
      )

  pub told-shape : (f : Refusal) → Err f ≡ outcome (input_shape_refusal r ys (length ks)) → Told f
  unfolding input_refusal
  told-shape f e = told f (given-before (tt {0}) (tt {0}) _ (present r ys) f e)

  pub told-not : Ok tt ≡ outcome (input_shape_refusal r ys (length ks)) → all_finite (present r ys) ≡ false → Told GivenNotFinite
  unfolding input_refusal
  told-not e h = told GivenNotFinite (given-not (tt {0}) (tt {0}) _ (present r ys) tt e h)

  pub told_none : Ok tt ≡ outcome (input_shape_refusal r ys (length ks)) → all_finite (present r ys) ≡ true → input_refusal r ys (length ks) ≡ 0
  unfolding input_refusal
  told_none e h = (accepted (tt {0}) (tt {0}) _ tt (given-all (tt {0}) (tt {0}) _ (present r ys) tt e h)).0

  -- where the input is accepted
  module _ (ok : input_refusal r ys (length ks) ≡ 0) (long : length r.active_buses ≡ limit) (full : length r.numbers ≡ limit) where
    abbrev s : State
    s = state_in r.n_buses (active_of r) ys

    -- the rows of the listed buses
    abbrev rs : List ℕ
    rs = rows_of r ks

    after : after_buses r ys ks ≡ record { out = removals_of (stopped_by s rs) (length (carried_out s rs)) (leaves r ys (carried_out s rs)).rec; slice = (leaves r ys (carried_out s rs)).slice }
    unfolding removed_rows removals_refusal after_buses state_of
    after = rw ok

    same-places : padded (eliminate s []).active ≡ r.active_buses
    unfolding eliminate
    same-places = sym (accepted-holds r ys (length ks) long ok).places

    module _ (ran : Removals) (q : KronReducer) (zs : List Float) (t : RemovedAll r ys rs ran q zs) where
      -- what is answered, and left of the record
      abbrev Left : Type 0
      Left = (ran ≡ (after_buses r ys ks).out.removals) × (q ≡ (after_buses r ys ks).out.rec)

      answered : q ≡ (leaves r ys (carried_out s rs)).rec → Left
      answered e = (
        ap₂ (λ (a : Result (Unit {0}) Refusal) (d : ℕ). record { answer = a; removed = d }) t.says t.count ∙ ap (λ (x : AfterBuses). x.out.removals) (sym after),
        e ∙ ap (λ (x : AfterBuses). x.out.rec) (sym after),
      )

      pub buses-none : ran.removed ≡ 0 → Left × (zs ≡ (after_buses r ys ks).slice)
      unfolding left_by
      buses-none z =
          let none : carried_out s rs ≡ [] = nothing (carried_out s rs) (sym t.count ∙ z) in
          let kept : leaves r ys (carried_out s rs) ≡ reducer_state_of r ys = ap (leaves r ys) none ∙ leaves_none r ys in
          let all : q ≡ r =
          t.left ∙ ap₂ (λ (n : ℕ) (xs : List ℕ). reducer_of r.made n xs r.numbers) (ap (λ (d : ℕ). r.n_buses - d) z ∙ sub-zero r.n_buses) (ap (λ (ts : List ℕ). padded (eliminate s ts).active) none ∙ same-places) in (
            answered (all ∙ ap (λ (h : ReducerState). h.rec) (sym kept)),
            t.slice ∙ ap (left_by s ys) none ∙ ap (λ (h : ReducerState). h.slice) (sym kept) ∙ ap (λ (x : AfterBuses). x.slice) (sym after),
          )

      -- the state that is left
      abbrev end : State
      end = eliminate s (carried_out s rs)

      -- and its size
      pub size-left : q.n_buses ≡ r.n_buses - ran.removed
      size-left = ap (λ (q : KronReducer). q.n_buses) t.left

      -- the numbers are as they were
      places-kept : r.numbers ≡ padded (numbers_of r)
      places-kept =
          let ok' = accepts-has r ys (length ks) ok in
          let has = sound-has r ok'.record' in
          filled-places r.made r.numbers ok'.size full has.spare

      buses-left : length end.active ≡ r.n_buses - ran.removed
      buses-left =
          let h = accepted-holds r ys (length ks) long ok in
          let e = length-eliminate s (carried_out s rs) h.rises (taken-accepted s rs) in
          let l : length (active_of r) ≡ r.n_buses = holds-long r ys h in
          omega (arith, e, l, t.count)

      left-end : length end.active ≡ q.n_buses
      left-end = buses-left ∙ sym size-left

      pub buses-fewer : q.n_buses ≤ limit
      buses-fewer = omega (arith, size-left, (accepted-holds r ys (length ks) long ok).room)

      pub buses-room : 2 * (q.n_buses * q.n_buses) ≤ length ys
      buses-room = le_trans (mul-le-mul_left 2 (mul-le-mul (omega (arith, size-left)) (omega (arith, size-left)))) (accepted-holds r ys (length ks) long ok).fits

      pub buses-some : (ran.removed ≡ 0 → ⊥) → length zs ≡ length ys → (cs : List Float) → cs ≡ zeros (length ys - 2 * (q.n_buses * q.n_buses))
          → Left
          × (back (2 * (q.n_buses * q.n_buses)) (length ys - 2 * (q.n_buses * q.n_buses)) zs cs ≡ (after_buses r ys ks).slice)
      buses-some n same cs cleared =
          let kept : leaves r ys (carried_out s rs) ≡ laid r end = something (carried_out s rs) (λ (z : length (carried_out s rs) ≡ 0). n (t.count ∙ z)) in
          let rec : q ≡ record_of r.made (numbers_of r) end.active =
          t.left
          ∙ ap (λ (n : ℕ). reducer_of r.made n (padded end.active) r.numbers) (sym buses-left)
          ∙ ap (reducer_of r.made (length end.active) (padded end.active)) places-kept in (
            answered (rec ∙ ap (λ (h : ReducerState). h.rec) (sym kept)),
            laid_out end q.n_buses (length ys) zs cs left-end t.shows same buses-room cleared
                ∙ ap (λ (len : ℕ). row_major len end.active end.entries) (accepts-has r ys (length ks) ok).slice
                ∙ ap (λ (h : ReducerState). h.slice) (sym kept)
                ∙ ap (λ (x : AfterBuses). x.slice) (sym after),
          )
        where
          something : (ts : List ℕ) → (length ts ≡ 0 → ⊥) → leaves r ys ts ≡ laid r (eliminate s ts)
          something [] h = absurd (h refl)
          something (t ∷ ts) h = leaves-cons r ys t ts

-- ---- how many are removed

zero_or : (n : ℕ) → (n ≡ 0) ⊎ (n ≡ 0 → ⊥)
zero_or zero = inl refl
zero_or (suc n) = inr (λ (e : suc n ≡ 0). omega arith)

-- none on an input refusal
pub none-removed : (r : KronReducer) (ys : List Float) (ks : List ℕ) → (input_refusal r ys (length ks) ≡ 0 → ⊥) → (after_buses r ys ks).out.removals.removed ≡ 0
none-removed r ys ks n = sym (ap (λ (t : AfterRemovals). t.removals.removed) (buses-refused r ys ks (input_refusal r ys (length ks)) n refl).0)

-- their number and the present size at exit are the present size at entry, accepted or refused; a record has as many places as the limit
pub removed-count : (r : KronReducer) (ys : List Float) (ks : List ℕ) → length r.active_buses ≡ limit → length r.numbers ≡ limit
    → (after_buses r ys ks).out.removals.removed + (after_buses r ys ks).out.rec.n_buses ≡ r.n_buses
removed-count r ys ks long full = elim (zero_or (input_refusal r ys (length ks))) [ inl ok ↦ counted ok | inr n ↦ as_it_was n ]
  where
    as_it_was : (input_refusal r ys (length ks) ≡ 0 → ⊥) → (after_buses r ys ks).out.removals.removed + (after_buses r ys ks).out.rec.n_buses ≡ r.n_buses
    as_it_was n =
        let e = (buses-refused r ys ks (input_refusal r ys (length ks)) n refl).0 in
        sym (ap (λ (t : AfterRemovals). t.removals.removed + t.rec.n_buses) e) ∙ zero-add r.n_buses

    counted : input_refusal r ys (length ks) ≡ 0 → (after_buses r ys ks).out.removals.removed + (after_buses r ys ks).out.rec.n_buses ≡ r.n_buses
    counted ok = ap (λ (x : AfterBuses). x.out.removals.removed + x.out.rec.n_buses) (after r ys ks ok long full) ∙ sum (carried_out (state_in r.n_buses (active_of r) ys) (rows_of r ks)) (taken-accepted (state_in r.n_buses (active_of r) ys) (rows_of r ks))
      where
        h : Holds r ys
        h = accepted-holds r ys (length ks) long ok

        sum : (ts : List ℕ) → Accepted (state_in r.n_buses (active_of r) ys) ts → length ts + (leaves r ys ts).rec.n_buses ≡ r.n_buses
        sum [] a = ap (λ (x : ReducerState). 0 + x.rec.n_buses) (leaves_none r ys) ∙ zero-add r.n_buses
        sum (t ∷ ts) a =
            let e = length-eliminate (state_in r.n_buses (active_of r) ys) (t ∷ ts) h.rises a in
            ap (λ (x : ReducerState). length (t ∷ ts) + x.rec.n_buses) (leaves-cons r ys t ts)
            ∙ omega (arith, e, holds-long r ys h)
