-- Demand 3 of lists of calls with every bus told by its number.
use Rattle.std.specs.Prelude.{ℕ, ◌≡◌, ◌⊎◌, List}
use Rattle.complex.specs.declared.Complex.{Complex}
use Rattle.complex.specs.Values.{◌≈◌}
use Rattle.binary64.specs.Values.{F64s}
use Rattle.lists.specs.Buses.{◌is_one_of◌, place}
use Rattle.kron_reduction.specs.Reducer.{ReducerInput, AcceptedMaking, ReducerState}
use Rattle.kron_reduction.specs.Reading.{active_numbers}
use Rattle.claims.specs.Accounts.{Call, left, entry_in, Account, account, kept, numbers_at}
use Rattle.claims.specs.Chains.{Chain}
use Rattle.claims.specs.Removals.{NoInto, NoOut}

-- the old entry from the bus numbered b to the one numbered c
unfoldable pub old_between : Account → ℕ → ℕ → Complex
old_between a b c = a.old (place b a.numbers) (place c a.numbers)

-- the entry left between them: a bus has the row and column of its place among the active buses that the record tells
unfoldable pub left_between : ReducerState → ℕ → ℕ → Complex
left_between h b c = entry_in h (place b (active_numbers h.rec)) (place c (active_numbers h.rec))

-- the account with its old entries and its removed buses by number
abbrev pub by_number : Account → Account
by_number a = record { size = a.size; numbers = a.numbers; old = old_between a; removed = numbers_at a a.removed }

-- the same numbers, the same buses removed in the same order, and old entries that agree where neither end is one of G, numbers of removed
-- buses
pub record AlikeByNumber (a a' : Account) (G : List ℕ) : Type 0 where
  pub numbers : a'.numbers ≡ a.numbers
  pub removed : numbers_at a' a'.removed ≡ numbers_at a a.removed
  pub group : (k : ℕ) → k is_one_of G → k is_one_of numbers_at a a.removed
  pub outside : (b c : ℕ) → b is_one_of a.numbers → c is_one_of a.numbers
      → (b is_one_of G → ⊥) → (c is_one_of G → ⊥) → old_between a b c ≈ old_between a' b c

-- claim 1: the entry between two active buses has its old value unless a chain joins them through removed buses
abbrev pub UnchangedByNumber : Account → ReducerState → Type 0
UnchangedByNumber a h = (b c : ℕ) → b is_one_of active_numbers h.rec → c is_one_of active_numbers h.rec
    → (Chain (by_number a).old (by_number a).removed b c → ⊥) → left_between h b c ≈ old_between a b c

-- claim 2: whatever the rows and columns of the group hold, no entry between two active buses differs without a chain from its row bus into
-- the group and one out of it to its column bus
abbrev pub IndependentByNumber : Account → ReducerState → Account → ReducerState → Type 0
IndependentByNumber a h a' h' = (G : List ℕ) → AlikeByNumber a a' G
    → (b c : ℕ) → b is_one_of active_numbers h.rec → c is_one_of active_numbers h.rec
    → NoInto (by_number a) (by_number a') G b ⊎ NoOut (by_number a) (by_number a') G c → left_between h b c ≈ left_between h' b c

-- for every accepted making and every list of calls, as in `RemovalClaims`
pub record NumberClaims : Type 0 where
  -- active are the kept buses, in old row order
  pub active : (M : ReducerInput) (calls : List Call) → AcceptedMaking M
      → active_numbers (left M calls).rec ≡ numbers_at (account M calls) (kept (account M calls))
  pub unchanged : (M : ReducerInput) (calls : List Call) → F64s M.given → AcceptedMaking M
      → UnchangedByNumber (account M calls) (left M calls)
  pub independent : (M M' : ReducerInput) (calls calls' : List Call) → F64s M.given → F64s M'.given
      → AcceptedMaking M → AcceptedMaking M'
      → IndependentByNumber (account M calls) (left M calls) (account M' calls') (left M' calls')
