-- What an input of `reduce` says: the buses and their numbers, the matrix that a reducer is made of, and the drops as a list of calls.
use Rattle.std.specs.Prelude.{Option, Some, None, Ok}
use Rattle.std.specs.Prelude.{ℕ, ◌*◌, List, [], ◌∷◌, ◌++◌, map, ◌≡◌, get_or, take, drop, Float}
use Rattle.kron_reduction.specs.Reducer.{ReducerInput, reducer_input_of, ReducerState, reducer_state_of}
use Rattle.claims.specs.Accounts.{Call, bus, Account, account}
use Rattle.text_numbers.specs.Bytes.{Bytes}
use Rattle.reduce_text.specs.Lines.{lines, buses_of, number_of, drop_of, entry_of}
use Rattle.reduce_text.specs.Reading.{of_word, run_of}

-- ---- lines that are taken for numbers, for entries, and for drops

abbrev pub bus_in : Option ℕ → List ℕ
bus_in (Some k) = k ∷ []
bus_in None = []

-- the buses of the number lines, in order
unfoldable pub names_of : List Bytes → List ℕ
names_of [] = []
names_of (l ∷ ls) = bus_in (number_of l) ++ names_of ls

-- real and imaginary part
abbrev pub entry_parts : Option (ℕ × ℕ) → List Float
entry_parts (Some (a, b)) = of_word a ∷ of_word b ∷ []
entry_parts None = []

-- the numbers of the entry lines, in order
unfoldable pub entries_of : List Bytes → List Float
entries_of [] = []
entries_of (l ∷ ls) = entry_parts (entry_of l) ++ entries_of ls

-- the buses of the drop lines, in order
unfoldable pub dropped : List Bytes → List ℕ
dropped [] = []
dropped (l ∷ ls) = bus_in (drop_of l) ++ dropped ls

-- a call of `eliminate_bus` for each
unfoldable pub calls_of : List Bytes → List Call
unfolding dropped
calls_of ls = map bus (dropped ls)

-- ---- the whole input

abbrev pub first_line : Bytes → Bytes
first_line input = get_or (lines input) 0 []

abbrev pub or_none : Option ℕ → ℕ
or_none (Some n) = n
or_none None = 0

-- the buses that the first line tells
unfoldable pub size_of : Bytes → ℕ
size_of input = or_none (buses_of (first_line input))

-- the lines behind the first: so many are numbers, so many entries, and the others drops
abbrev pub behind_first : Bytes → List Bytes
behind_first input = drop 1 (lines input)

abbrev pub number_part : Bytes → List Bytes
number_part input = take (size_of input) (behind_first input)

abbrev pub behind_numbers : Bytes → List Bytes
behind_numbers input = drop (size_of input) (behind_first input)

abbrev pub entry_count : Bytes → ℕ
entry_count input = size_of input * size_of input

abbrev pub entry_part : Bytes → List Bytes
entry_part input = take (entry_count input) (behind_numbers input)

abbrev pub drop_part : Bytes → List Bytes
drop_part input = drop (entry_count input) (behind_numbers input)

-- the number of each bus, in row order
unfoldable pub bus_numbers : Bytes → List ℕ
bus_numbers input = names_of (number_part input)

unfoldable pub making_in : Bytes → ReducerInput
making_in input = reducer_input_of (size_of input) (entries_of (entry_part input)) (bus_numbers input)

unfoldable pub calls : Bytes → List Call
calls input = calls_of (drop_part input)

-- demand 3's account of these calls
abbrev pub account_of : Bytes → Account
account_of input = account (making_in input) (calls input)

-- ---- the run

-- the input is read to its end, and no drop is refused: what is left is printed
abbrev pub IsKept : Bytes → Type 0
IsKept input = (run_of input).reading.end ≡ Ok tt

-- the record, and the numbers of the matrix, at the run's end
unfoldable pub state_left : Bytes → ReducerState
state_left input = reducer_state_of (run_of input).reading.rec (run_of input).numbers
