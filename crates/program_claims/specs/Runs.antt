-- What demand 3 says of the program `reduce`: its drops are a list of calls, and the claims on lists of calls hold of what it prints.
use Rattle.std.specs.Prelude.{Some}
use Rattle.std.specs.Prelude.{◌+◌, ◌≡◌, length}
use Rattle.lists.specs.Buses.{rows_in}
use Rattle.kron_reduction.specs.Reducer.{AcceptedMaking, record_of}
use Rattle.kron_reduction.specs.Reading.{active_numbers}
use Rattle.claims.specs.Accounts.{left, kept, numbers_at}
use Rattle.claims.specs.Finite.{Finite}
use Rattle.claims.specs.Removals.{Unchanged, Independent}
use Rattle.text_numbers.specs.Bytes.{Bytes}
use Rattle.reduce_text.specs.Lines.{lines, buses_of}
use Rattle.reduce_text.specs.Reading.{run_of}
use Rattle.reduce_text.specs.Printing.{kept_text}
use Rattle.reduce_text.specs.Reduce.{printed}
use Rattle.program_claims.specs.Inputs.{first_line, size_of, bus_numbers, entry_count, dropped, drop_part, making_in, calls, account_of}
use Rattle.program_claims.specs.Inputs.{IsKept, state_left}

-- of an input that is kept: the first line tells the buses; the making is accepted, so each line behind it that is due is a number, none of
-- them twice, and then an entry; each line behind those is a call; and what the run ends with, and prints, is what the calls leave
pub record DropsAreCalls (input : Bytes) : Type 0 where
  pub size : buses_of (first_line input) ≡ Some (size_of input)
  pub made : AcceptedMaking (making_in input)
  pub all_lines : 1 + size_of input + entry_count input + length (calls input) ≡ length (lines input)
  pub ends : state_left input ≡ left (making_in input) (calls input)
  pub prints : printed input ≡ kept_text (left (making_in input) (calls input)).rec (left (making_in input) (calls input)).slice

-- for every input that is kept
pub record ProgramClaims : Type 0 where
  pub drops : (input : Bytes) → IsKept input → DropsAreCalls input
  -- the buses removed are those of the drop lines, in order: by row, and by number
  pub removed : (input : Bytes) → IsKept input → (account_of input).removed ≡ rows_in (bus_numbers input) (dropped (drop_part input))
  pub numbers : (input : Bytes) → IsKept input → numbers_at (account_of input) (account_of input).removed ≡ dropped (drop_part input)
  -- the kept buses of the account give the rows and columns, and are printed by number with the entries of the run
  pub kept-numbers : (input : Bytes) → IsKept input
      → active_numbers (run_of input).reading.rec ≡ numbers_at (account_of input) (kept (account_of input))
  pub buses : (input : Bytes) → IsKept input
      → (run_of input).reading.rec ≡ record_of (size_of input) (bus_numbers input) (kept (account_of input))
  pub prints : (input : Bytes) → IsKept input
      → printed input ≡ kept_text (record_of (size_of input) (bus_numbers input) (kept (account_of input))) (run_of input).numbers
  -- an entry has its old value unless a chain joins its buses through dropped ones
  pub unchanged : (input : Bytes) → IsKept input → Unchanged (account_of input) (state_left input)
  -- two inputs that differ in the rows and columns of a group of dropped buses: no entry differs without a chain into the group and one out
  -- of it
  pub independent : (input input' : Bytes) → IsKept input → IsKept input'
      → Independent (account_of input) (state_left input) (account_of input') (state_left input')
  -- every number of the entry lines, and every one computed in the drops, is finite
  pub finite : (input : Bytes) → IsKept input → Finite (making_in input) (calls input)
