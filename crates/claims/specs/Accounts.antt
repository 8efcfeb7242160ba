-- A list of removal calls on a reducer freshly made: what the calls leave, and, from the making and the calls alone, which buses they
-- remove. A call names buses by number; the account tells each bus by its row in the matrix at making.
use Rattle.std.specs.Prelude.{ℕ, cond, List, [], ◌∷◌, ◌++◌, map, leb, length, get_or}
use Rattle.complex.specs.Matrices.{Matrix, entry_at}
use Rattle.lists.specs.Buses.{up_to, others, rows_in}
use Rattle.refusals.specs.Refusals.{limit}
use Rattle.kron_reduction.specs.Kron.{State, start, eliminate, carried_out}
use Rattle.kron_reduction.specs.Reducer.{ReducerInput, made as record_made, ReducerState, reducer_state_of, after_bus, after_buses}

-- a call of `eliminate_bus` with a bus, or of `eliminate_buses` with a list of buses: any numbers, in any order
pub data Call : Type 0 where
  bus : ℕ → Call
  buses : List ℕ → Call

-- ---- what is left: record and slice, by the definitions that the contracts of the calls cite

unfoldable pub after_call : ReducerState → Call → ReducerState
after_call h (bus k) = let a = after_bus h.rec h.slice k in reducer_state_of a.out.rec a.slice
after_call h (buses ks) = let a = after_buses h.rec h.slice ks in reducer_state_of a.out.rec a.slice

-- each call gets what the one before left, also after a refusal
unfoldable pub left_from : ReducerState → List Call → ReducerState
left_from h [] = h
left_from h (c ∷ cs) = left_from (after_call h c) cs

-- from the record of the making and the slice that it was made of
unfoldable pub left : ReducerInput → List Call → ReducerState
left M calls = left_from (reducer_state_of (record_made M) M.given) calls

-- the entry in row p and column q of the matrix in the slice: a row is as long as there are buses now
abbrev pub entry_in : ReducerState → Matrix
entry_in h p q = entry_at h.rec.n_buses h.slice p q

-- ---- the account: the size, the numbers and the entries at making ("old"), and the buses removed since, each by its row, in the order of
-- the calls

pub record Account : Type 0 where
  pub size : ℕ
  pub numbers : List ℕ
  pub old : Matrix
  pub removed : List ℕ

unfoldable pub fresh : ReducerInput → Account
fresh M = record { size = M.size; numbers = M.numbers; old = entry_at M.size M.given; removed = [] }

-- the old matrix after the removals, by Kron's formula
unfoldable pub state_after : Account → State
state_after a = eliminate (start a.size a.old) a.removed

-- the buses that a call removes: those before the first refused one; none where the list is longer than the limit
unfoldable pub removes : Account → Call → List ℕ
unfolding rows_in
removes a (bus k) = carried_out (state_after a) (rows_in a.numbers (k ∷ []))
removes a (buses ks) = cond (leb (length ks) limit) (carried_out (state_after a) (rows_in a.numbers ks)) []

unfoldable pub step : Account → Call → Account
step a c = record { size = a.size; numbers = a.numbers; old = a.old; removed = a.removed ++ removes a c }

unfoldable pub account_from : Account → List Call → Account
account_from a [] = a
account_from a (c ∷ cs) = account_from (step a c) cs

abbrev pub account : ReducerInput → List Call → Account
account M calls = account_from (fresh M) calls

-- "kept" are all other buses: the first of them in old row order has the first row and column, and so on
abbrev pub kept : Account → List ℕ
kept a = others a.removed (up_to a.size)

-- the old row of the kept bus of row and column p, and its number
abbrev pub row_at : Account → ℕ → ℕ
row_at a p = get_or (kept a) p 0

abbrev pub bus_at : Account → ℕ → ℕ
bus_at a p = get_or a.numbers (row_at a p) 0

-- the numbers of the buses in these rows
abbrev pub numbers_at : Account → List ℕ → List ℕ
numbers_at a is = map (λ (i : ℕ). get_or a.numbers i 0) is
