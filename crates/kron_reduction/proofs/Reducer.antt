-- Laws about records and slices: the record and layout of a state are sound, are read back as that state, and a call on them does what Kron's formula says.
use Rattle.prelude.proofs.Prelude.{◌≡◌, refl, sym, ap, ◌∙◌, Bool, true, false, not, ◌&&◌, ◌||◌, List, [], ◌∷◌, ◌++◌, ℕ, zero, suc, ◌+◌, ◌-◌, ◌*◌, ◌≤◌, ◌<◌, arith, T, eqb, ltb, length, get_or, take, drop, replicate, Float, ap₂, append-nil, mul-le-mul, mul-le-mul_left, le_trans, leb, eqb→eq, leb→le, length-append, length-drop, take-append-drop, length-take-le, take-append_seam, take_at, and_i, and_l, and_r, is_true, le-ltb, lt-ltb, eq-eqb}
use native.Mathlib.Nat.{sub_self}
use lib.Dec.{le→leb}
use lib.Seq.{drop-append_seam}
use Rattle.complex.specs.{Matrix, entry_at, rows, grid, zeros}
use Rattle.lists.specs.Buses.{up_to, rising, all_below, all_zero, place, repeats, rows_in}
use Rattle.complex.proofs.Entries.{entry-append-left}
use Rattle.complex.proofs.Matrices.{length-zeros, length-rows, entry-rows, grid-ext, entry-within}
use Rattle.lists.proofs.Order.{length-up_to}
use Rattle.binary64.specs.Values.{all_finite}
use Rattle.refusals.specs.Refusals.{limit, too_many, then_given}
use Rattle.refusals.proofs.Answering.{accepted, none}
use Rattle.refusals.proofs.Numbers.{given-all}
use Rattle.kron_reduction.specs.declared.KronReducer.{KronReducer}
use Rattle.kron_reduction.specs.Kron.{State, eliminate, carried_out, stopped_by}
use Rattle.kron_reduction.specs.Reducer.{padded, record_of, active_of, numbers_of, sound_rows, sound_numbers, sound, input_shape_refusal, present, input_refusal, state_of, row_major, stored, leaves, rows_of, removed_rows, removals_refusal}
use Rattle.lists.proofs.Buses.{get_or-place, place-lt, rising-length}
use Rattle.kron_reduction.proofs.States.{Accepted, Regular, FiniteIn, rows-finite, Agree, agree-taken, agree-stop, agree-eliminate, rows_same}

-- ---- the record of rows with the numbers ns, the rows xs active

pub active-record_of : (n : ℕ) (ns xs : List ℕ) → active_of (record_of n ns xs) ≡ xs
active-record_of n ns xs = take-append_seam xs (replicate (limit - length xs) 0)

pub numbers-record_of : (n : ℕ) (ns xs : List ℕ) → length ns ≡ n → numbers_of (record_of n ns xs) ≡ ns
numbers-record_of n ns xs e = ap (λ (m : ℕ). take m (padded ns)) (sym e) ∙ take-append_seam ns (replicate (limit - length ns) 0)

behind-record_of : (n : ℕ) (ns : List ℕ) → length ns ≡ n → drop n (padded ns) ≡ replicate (limit - length ns) 0
behind-record_of n ns e = ap (λ (m : ℕ). drop m (padded ns)) (sym e) ∙ drop-append_seam ns (replicate (limit - length ns) 0)

pub all-zero-replicate : (n : ℕ) → T (all_zero (replicate n 0))
all-zero-replicate zero = tt
all-zero-replicate (suc n) = all-zero-replicate n

pub all-zero-is : (xs : List ℕ) → T (all_zero xs) → xs ≡ replicate (length xs) 0
all-zero-is [] h = refl
all-zero-is (x ∷ xs) h =
    let e = eqb→eq x 0 (and_l (eqb x 0) (all_zero xs) h) in
    let f = all-zero-is xs (and_r (eqb x 0) (all_zero xs) h) in
    cc

sound-rows : (n : ℕ) (ns xs : List ℕ) → length xs ≤ limit → T (rising xs) → T (all_below n xs) → T (sound_rows (record_of n ns xs))
unfolding sound_rows
sound-rows n ns xs h r b =
    rw (take-append_seam xs (replicate (limit - length xs) 0), drop-append_seam xs (replicate (limit - length xs) 0))
    (and_i (leb (length xs) limit && rising xs && all_below n xs) (all_zero (replicate (limit - length xs) 0))
    (and_i (leb (length xs) limit && rising xs) (all_below n xs) (and_i (leb (length xs) limit) (rising xs) (le→leb (length xs) limit h) r) b)
    (all-zero-replicate (limit - length xs)))

sound-numbers : (n : ℕ) (ns xs : List ℕ) → length ns ≡ n → repeats ns ≡ false → T (sound_numbers (record_of n ns xs))
unfolding sound_numbers
sound-numbers n ns xs e d = rw (numbers-record_of n ns xs e, behind-record_of n ns e, d) (all-zero-replicate (limit - length ns))

pub sound-record_of : (n : ℕ) (ns xs : List ℕ) → length xs ≤ limit → T (rising xs) → T (all_below n xs) → length ns ≡ n → repeats ns ≡ false → T (sound (record_of n ns xs))
sound-record_of n ns xs h r b e d = and_i (sound_rows (record_of n ns xs)) (sound_numbers (record_of n ns xs)) (sound-rows n ns xs h r b) (sound-numbers n ns xs e d)

-- what a sound record has
pub record Sound (r : KronReducer) : Type 0 where
  pub room : r.n_buses ≤ limit
  pub rises : T (rising (active_of r))
  pub below : T (all_below r.made (active_of r))
  pub behind : T (all_zero (drop r.n_buses r.active_buses))
  pub distinct : repeats (numbers_of r) ≡ false
  pub spare : T (all_zero (drop r.made r.numbers))

pub sound-has : (r : KronReducer) → T (sound r) → Sound r
unfolding sound_rows sound_numbers
sound-has r h =
    let a = leb r.n_buses limit in
    let b = rising (active_of r) in
    let c = all_below r.made (active_of r) in
    let d = all_zero (drop r.n_buses r.active_buses) in
    let e = not (repeats (numbers_of r)) in
    let f = all_zero (drop r.made r.numbers) in
    let rows = and_l (a && b && c && d) (e && f) h in
    let numbers = and_r (a && b && c && d) (e && f) h in
    let abc = and_l (a && b && c) d rows in
    let ab = and_l (a && b) c abc in
    record {
      room = leb→le r.n_buses limit (and_l a b ab);
      rises = and_r a b ab;
      below = and_r (a && b) c abc;
      behind = and_r (a && b && c) d rows;
      distinct = not-true (repeats (numbers_of r)) (is_true e (and_l e f numbers));
      spare = and_r e f numbers;
    }
  where
    not-true : (b : Bool) → not b ≡ true → b ≡ false
    not-true true h = sym h
    not-true false h = refl

-- its places are those of its active rows, and of its numbers
pub filled-places : (n : ℕ) (xs : List ℕ) → n ≤ limit → length xs ≡ limit → T (all_zero (drop n xs)) → xs ≡ padded (take n xs)
filled-places n xs h e z =
    let count : n ≡ length (take n xs) = sym (length-take-le n xs (rw e h)) in
    sym (take-append-drop n xs)
    ∙ ap (λ (l : List ℕ). take n xs ++ l) (all-zero-is (drop n xs) z ∙ ap (λ (m : ℕ). replicate m 0) (length-drop n xs ∙ ap₂ (λ (a b : ℕ). a - b) e count))

-- ---- the layout of a matrix

pub length-row_major : (len : ℕ) (xs : List ℕ) (Y : Matrix) → 2 * (length xs * length xs) ≤ len → length (row_major len xs Y) ≡ len
unfolding row_major
length-row_major len xs Y h = simp (length-append, length-rows, length-zeros) (omega arith)

pub entry-row_major : (len : ℕ) (xs : List ℕ) (Y : Matrix) (p q : ℕ) → p < length xs → q < length xs → entry_at (length xs) (row_major len xs Y) p q ≡ Y (get_or xs p 0) (get_or xs q 0)
unfolding row_major entry_at
entry-row_major len xs Y p q h k =
    entry-append-left (rows Y xs xs) (zeros (len - 2 * (length xs * length xs))) (p * length xs + q)
    (let l = entry-within (length xs) (length xs) p q h k in rw length-rows (omega arith))
    ∙ unfold entry_at in entry-rows Y xs xs p q h k

-- a slice of n rows of n is the layout of the matrix that it holds
pub row_major-all : (n : ℕ) (ys : List Float) → length ys ≡ 2 * (n * n) → row_major (2 * (n * n)) (up_to n) (entry_at n ys) ≡ ys
unfolding row_major zeros grid
row_major-all n ys e =
    let none : 2 * (n * n) - 2 * (length (up_to n) * length (up_to n)) ≡ 0 = rw length-up_to (sub_self (2 * (n * n))) in
    let front : ys ≡ rows (entry_at n ys) (up_to n) (up_to n) = grid-ext n n (entry_at n ys) ys e (λ i j x y. refl) in
    rw (none, append-nil, ← front)

-- states that agree have one layout
pub agree-stored : (n : ℕ) (ns : List ℕ) {s t : State} → Agree s t → stored n ns s ≡ stored n ns t
unfolding stored row_major
agree-stored n ns {s} {t} h = rw (← h.active, rows_same s.entries t.entries s.active s.active h.entries)

-- ---- a state as record and slice, given to a call

module _ (n : ℕ) (ns : List ℕ) (s : State) (small : n ≤ limit) (many : length ns ≡ n) (distinct : repeats ns ≡ false) (regular : Regular n s) where
  pub active-room : length s.active ≤ n
  active-room = rising-length n s.active regular.rises regular.below

  pub length-stored : length (stored n ns s).slice ≡ 2 * (n * n)
  unfolding stored
  length-stored = length-row_major (2 * (n * n)) s.active s.entries (mul-le-mul_left 2 (mul-le-mul active-room active-room))

  pub numbers-stored : numbers_of (stored n ns s).rec ≡ ns
  unfolding stored
  numbers-stored = numbers-record_of n ns s.active many

  -- no input refusal comes, with a list within the limit, where the entries are finite
  shape-stored : (l : ℕ) → l ≤ limit → input_shape_refusal (stored n ns s).rec (stored n ns s).slice l ≡ 0
  unfolding input_shape_refusal stored
  shape-stored l h =
      rw (le-ltb limit n small, le-ltb limit l h, eq-eqb (length (stored n ns s).slice) (2 * (n * n)) length-stored, is_true (sound (record_of n ns s.active)) (sound-record_of n ns s.active (le_trans active-room small) regular.rises regular.below many distinct))

  -- the present rows are the state's
  pub present-stored : present (stored n ns s).rec (stored n ns s).slice ≡ rows s.entries s.active s.active
  unfolding stored row_major
  present-stored = take_at (rows s.entries s.active s.active) _ _ (length-rows s.entries s.active s.active)

  pub input-stored : FiniteIn s → (l : ℕ) → l ≤ limit → input_refusal (stored n ns s).rec (stored n ns s).slice l ≡ 0
  unfolding input_refusal
  input-stored fine l h =
      (accepted (tt {0}) (tt {0}) _ tt (given-all (tt {0}) (tt {0}) _ (present (stored n ns s).rec (stored n ns s).slice) tt (none (tt {0}) _ (shape-stored l h)) (ap all_finite present-stored ∙ is_true (all_finite (rows s.entries s.active s.active)) (rows-finite s fine)))).0

  -- it is read back as that state, as far as its buses are active
  pub state-stored : Agree s (state_of (stored n ns s).rec (stored n ns s).slice)
  unfolding state_of stored
  state-stored = record {
    active = sym (active-record_of n ns s.active);
    entries = λ (i j : ℕ). λ x y.
        sym (rw active-record_of
        (entry-row_major (2 * (n * n)) s.active s.entries (place i s.active) (place j s.active) (place-lt i s.active x) (place-lt j s.active y)
        ∙ ap₂ s.entries (get_or-place i s.active x) (get_or-place j s.active y)));
  }

  pub removed-stored : FiniteIn s → (ks : List ℕ) → length ks ≤ limit → removed_rows (stored n ns s).rec (stored n ns s).slice ks ≡ carried_out s (rows_in ns ks)
  unfolding removed_rows
  removed-stored fine ks h =
      rw (input-stored fine (length ks) h)
      (sym (agree-taken s (state_of (stored n ns s).rec (stored n ns s).slice) (rows_of (stored n ns s).rec ks) state-stored) ∙ ap (λ (ms : List ℕ). carried_out s (rows_in ms ks)) numbers-stored)

  pub refusal-stored : FiniteIn s → (ks : List ℕ) → length ks ≤ limit → removals_refusal (stored n ns s).rec (stored n ns s).slice ks ≡ stopped_by s (rows_in ns ks)
  unfolding removals_refusal
  refusal-stored fine ks h =
      rw (input-stored fine (length ks) h)
      (sym (agree-stop s (state_of (stored n ns s).rec (stored n ns s).slice) (rows_of (stored n ns s).rec ks) state-stored) ∙ ap (λ (ms : List ℕ). stopped_by s (rows_in ms ks)) numbers-stored)

  pub leaves-stored : (ks : List ℕ) → Accepted s ks → leaves (stored n ns s).rec (stored n ns s).slice ks ≡ stored n ns (eliminate s ks)
  unfolding leaves stored
  leaves-stored [] ok = unfold eliminate in refl
  leaves-stored (k ∷ ks) ok =
      ap (λ (ms : List ℕ). stored n ms (eliminate (state_of (stored n ns s).rec (stored n ns s).slice) (k ∷ ks))) (numbers-record_of n ns s.active many)
      ∙ sym (agree-stored n ns (agree-eliminate s (state_of (stored n ns s).rec (stored n ns s).slice) (k ∷ ks) state-stored ok))

or-true : (b : Bool) → (b || true) ≡ true
or-true true = refl
or-true false = refl

-- a list longer than the limit is refused for its length, whatever the record and the slice, and removes nothing
shape-long : (r : KronReducer) (ys : List Float) (l : ℕ) → limit < l → input_shape_refusal r ys l ≡ too_many
unfolding input_shape_refusal
shape-long r ys l h = rw (lt-ltb limit l h, or-true (ltb limit r.made))

pub input-long : (r : KronReducer) (ys : List Float) (l : ℕ) → limit < l → input_refusal r ys l ≡ too_many
unfolding input_refusal then_given
input-long r ys l h = rw (shape-long r ys l h)

pub removable-long : (r : KronReducer) (ys : List Float) (ks : List ℕ) → limit < length ks → removed_rows r ys ks ≡ []
unfolding removed_rows
removable-long r ys ks h = rw (input-long r ys (length ks) h)
