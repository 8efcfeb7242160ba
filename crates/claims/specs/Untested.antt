-- The account that 11 and 12 alone would give, whatever the numbers that its removals compute: to say that 20 refuses nothing finite.
use Rattle.std.specs.Prelude.{ℕ, Bool, not, ◌&&◌, cond, List, [], ◌∷◌, ◌++◌, leb, length}
use Rattle.complex.specs.Arithmetic.{too_small}
use Rattle.lists.specs.Buses.{mem, rows_in}
use Rattle.refusals.specs.Refusals.{limit}
use Rattle.kron_reduction.specs.Kron.{State, remove}
use Rattle.kron_reduction.specs.Reducer.{ReducerInput}
use Rattle.claims.specs.Accounts.{Call, bus, buses, Account, fresh, state_after}

-- bus k is active, and its own entry is not too small
abbrev pub admits : State → ℕ → Bool
admits s k = mem k s.active && not (too_small (s.entries k k))

-- of ks those before the first that 11 or 12 refuses
unfoldable pub admitted : State → List ℕ → List ℕ
admitted s [] = []
admitted s (k ∷ ks) = cond (admits s k) (k ∷ admitted (remove s k) ks) []

unfoldable pub untested_removes : Account → Call → List ℕ
unfolding rows_in
untested_removes a (bus k) = admitted (state_after a) (rows_in a.numbers (k ∷ []))
untested_removes a (buses ks) = cond (leb (length ks) limit) (admitted (state_after a) (rows_in a.numbers ks)) []

unfoldable pub untested_step : Account → Call → Account
untested_step a c = record { size = a.size; numbers = a.numbers; old = a.old; removed = a.removed ++ untested_removes a c }

unfoldable pub untested_from : Account → List Call → Account
untested_from a [] = a
untested_from a (c ∷ cs) = untested_from (untested_step a c) cs

abbrev pub untested_account : ReducerInput → List Call → Account
untested_account M calls = untested_from (fresh M) calls
