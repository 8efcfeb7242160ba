-- What 01 says of demand 3's lists of calls, and what now holds of every accepted making: all numbers given, and all computed in the
-- removals carried out, are finite.
use Rattle.std.specs.Prelude.{List, T, Float}
use Rattle.binary64.specs.Values.{all_finite}
use Rattle.kron_reduction.specs.Kron.{start, of_removals}
use Rattle.kron_reduction.specs.Reducer.{ReducerInput, AcceptedMaking}
use Rattle.claims.specs.Accounts.{Call, Account, account}

-- the numbers computed on the way in the removals carried out, in the order of the work
unfoldable pub of_account : Account → List Float
of_account a = of_removals (start a.size a.old) a.removed

-- an accepted making and a list of calls, with finite numbers alone
pub record Finite (M : ReducerInput) (calls : List Call) : Type 0 where
  pub made : AcceptedMaking M
  pub given : T (all_finite M.given)
  pub computed : T (all_finite (of_account (account M calls)))
