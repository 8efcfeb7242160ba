-- What `new`, `eliminate_bus` and `eliminate_buses` answer and leave, for every record and slice. The contracts are these definitions.
use Rattle.std.specs.Prelude.{ℕ, ◌*◌, ◌-◌}
use Rattle.std.specs.Prelude.{Float, Result}
use Rattle.std.specs.Prelude.{Bool, not, ◌&&◌, ◌||◌, cond, List, [], ◌∷◌, ◌++◌, T, eqb, leb, ltb, length, take, drop, replicate}
use Rattle.complex.specs.Matrices.{Matrix, entry_at, rows, zeros}
use Rattle.lists.specs.Buses.{up_to, rising, all_below, all_zero, place, repeats, rows_in}
use Rattle.refusals.specs.Refusals.{limit, too_many, wrong_length, bus_twice, bad_record, refuse, then_given, answered, outcome}
use Rattle.refusals.specs.declared.Refusal.{Refusal}
use Rattle.kron_reduction.specs.declared.KronReducer.{KronReducer}
use Rattle.kron_reduction.specs.declared.AfterRemoval.{AfterRemoval}
use Rattle.kron_reduction.specs.declared.AfterRemovals.{AfterRemovals}
use Rattle.kron_reduction.specs.Kron.{State, eliminate, carried_out, stopped_by}

-- ---- making

pub record ReducerInput : Type 0 where
  pub size : ℕ
  pub given : List Float
  -- the number of each row's bus
  pub numbers : List ℕ

abbrev pub reducer_input_of : ℕ → List Float → List ℕ → ReducerInput
reducer_input_of n ys ns = record { size = n; given = ys; numbers = ns }

-- what size, lengths and numbers tell: 1, 2, 8 or 0
unfoldable pub making_shape_refusal : ReducerInput → ℕ
unfolding repeats
making_shape_refusal M =
    refuse (ltb limit M.size || ltb limit (length M.numbers)) too_many
    (refuse (not (eqb (length M.given) (2 * (M.size * M.size))) || not (eqb (length M.numbers) M.size)) wrong_length
    (refuse (repeats M.numbers) bus_twice 0))

-- 1, 2, 8, 19 of all the numbers given, or 0
unfoldable pub making_refusal : ReducerInput → ℕ
making_refusal M = then_given (making_shape_refusal M) M.given

-- an accepted making
abbrev pub AcceptedMaking : ReducerInput → Type 0
AcceptedMaking M = T (eqb (making_refusal M) 0)

-- a list as the record holds it, 0 in the places behind
abbrev pub padded : List ℕ → List ℕ
padded xs = xs ++ replicate (limit - length xs) 0

-- a record of these parts: the size at making, the present size, the places of the active rows and of the numbers
abbrev pub reducer_of : ℕ → ℕ → List ℕ → List ℕ → KronReducer
reducer_of m n xs ns = record { made = m; n_buses = n; active_buses = xs; numbers = ns }

-- the record of a making of size n whose rows have the numbers ns, with the rows xs active, both 0 in the places behind
abbrev pub record_of : ℕ → List ℕ → List ℕ → KronReducer
record_of n ns xs = reducer_of n (length xs) (padded xs) (padded ns)

-- what a making answers: the record of its buses, all active, or its refusal
unfoldable pub after_new : ReducerInput → Result KronReducer Refusal
unfolding answered
after_new M = answered (record_of M.size M.numbers (up_to M.size)) (making_refusal M)

-- the record that removals after a making begin with: where that is refused, one of no bus
unfoldable pub made : ReducerInput → KronReducer
made M = cond (eqb (making_refusal M) 0) (record_of M.size M.numbers (up_to M.size)) (record_of 0 [] [])

-- ---- a record and its slice

-- the rows that a record has active
abbrev pub active_of : KronReducer → List ℕ
active_of r = take r.n_buses r.active_buses

-- the numbers of its rows at making
abbrev pub numbers_of : KronReducer → List ℕ
numbers_of r = take r.made r.numbers

-- the active rows are rising, below the size at making and as many as the present size, and 0 in the places behind
unfoldable pub sound_rows : KronReducer → Bool
sound_rows r =
    leb r.n_buses limit
    && rising (active_of r)
    && all_below r.made (active_of r)
    && all_zero (drop r.n_buses r.active_buses)

-- no number stands twice, and 0 in the places behind
unfoldable pub sound_numbers : KronReducer → Bool
unfolding repeats
sound_numbers r = not (repeats (numbers_of r)) && all_zero (drop r.made r.numbers)

abbrev pub sound : KronReducer → Bool
sound r = sound_rows r && sound_numbers r

-- what the record, the slice's length and a list of l buses tell: 1, 2, 9 or 0
unfoldable pub input_shape_refusal : KronReducer → List Float → ℕ → ℕ
input_shape_refusal r ys l =
    refuse (ltb limit r.made || ltb limit l) too_many
    (refuse (not (eqb (length ys) (2 * (r.made * r.made)))) wrong_length
    (refuse (not (sound r)) bad_record 0))

-- the numbers of the present rows, which stand at the front of the slice
abbrev pub present : KronReducer → List Float → List Float
present r ys = take (2 * (r.n_buses * r.n_buses)) ys

-- the input refusals of a call with a list of l buses: 1, 2, 9, 19 of the present rows alone, or 0
unfoldable pub input_refusal : KronReducer → List Float → ℕ → ℕ
input_refusal r ys l = then_given (input_shape_refusal r ys l) (present r ys)

-- the active buses xs, each by its row at making, and the matrix between them, whose rows of n entries stand at the front of ys
abbrev pub state_in : ℕ → List ℕ → List Float → State
state_in n xs ys = record { active = xs; entries = λ (i j : ℕ). entry_at n ys (place i xs) (place j xs) }

-- what a record and its slice hold
unfoldable pub state_of : KronReducer → List Float → State
state_of r ys = state_in r.n_buses (active_of r) ys

pub record ReducerState : Type 0 where
  pub rec : KronReducer
  pub slice : List Float

abbrev pub reducer_state_of : KronReducer → List Float → ReducerState
reducer_state_of r ys = record { rec = r; slice = ys }

-- the rows and columns of the buses xs at the front, +0 behind
unfoldable pub row_major : ℕ → List ℕ → Matrix → List Float
unfolding rows zeros
row_major len xs Y = rows Y xs xs ++ zeros (len - 2 * (length xs * length xs))

-- a state as record and slice
unfoldable pub stored : ℕ → List ℕ → State → ReducerState
unfolding row_major
stored n ns s = reducer_state_of (record_of n ns s.active) (row_major (2 * (n * n)) s.active s.entries)

-- what the removal of the rows ks leaves: where there is none, all as it was, and what stands behind the rows too
unfoldable pub leaves : KronReducer → List Float → List ℕ → ReducerState
leaves r ys [] = reducer_state_of r ys
leaves r ys (k ∷ ks) = stored r.made (numbers_of r) (eliminate (state_of r ys) (k ∷ ks))

-- ---- the calls

-- the row of the bus numbered k; a number that no row has becomes the size at making, which is no active row
abbrev pub row_of : KronReducer → ℕ → ℕ
row_of r k = place k (numbers_of r)

-- the rows of a list of buses, in its order
abbrev pub rows_of : KronReducer → List ℕ → List ℕ
rows_of r ks = rows_in (numbers_of r) ks

-- of the buses numbered ks the rows of those that are removed, and the refusal of the call
unfoldable pub removed_rows : KronReducer → List Float → List ℕ → List ℕ
unfolding rows_in
removed_rows r ys ks = cond (eqb (input_refusal r ys (length ks)) 0) (carried_out (state_of r ys) (rows_of r ks)) []

unfoldable pub removals_refusal : KronReducer → List Float → List ℕ → ℕ
unfolding rows_in
removals_refusal r ys ks = let f = input_refusal r ys (length ks) in cond (eqb f 0) (stopped_by (state_of r ys) (rows_of r ks)) f

-- what a list of removals answers, with refusal f or 0 and c buses removed
abbrev pub removals_of : ℕ → ℕ → KronReducer → AfterRemovals
removals_of f c r = record { removals = record { answer = outcome f; removed = c }; rec = r }

pub record AfterBus : Type 0 where
  pub out : AfterRemoval
  pub slice : List Float

pub record AfterBuses : Type 0 where
  pub out : AfterRemovals
  pub slice : List Float

unfoldable pub after_bus : KronReducer → List Float → ℕ → AfterBus
after_bus r ys k =
    let h = leaves r ys (removed_rows r ys (k ∷ [])) in
    record { out = record { answer = outcome (removals_refusal r ys (k ∷ [])); rec = h.rec }; slice = h.slice }

unfoldable pub after_buses : KronReducer → List Float → List ℕ → AfterBuses
after_buses r ys ks =
    let ts = removed_rows r ys ks in
    let h = leaves r ys ts in
    record { out = removals_of (removals_refusal r ys ks) (length ts) h.rec; slice = h.slice }
