-- The claims of demand 3 on lists of calls, of an account and of what is held after its calls.
use Rattle.std.specs.Prelude.{ℕ, ◌<◌, ◌≡◌, ◌⊎◌, List, T, length}
use Rattle.complex.specs.Values.{◌≈◌}
use Rattle.binary64.specs.Values.{all_finite, F64s}
use Rattle.lists.specs.Buses.{◌is_one_of◌}
use Rattle.kron_reduction.specs.Reducer.{ReducerInput, making_shape_refusal, AcceptedMaking, ReducerState}
use Rattle.claims.specs.Accounts.{Call, left, entry_in, Account, account, kept, row_at}
use Rattle.claims.specs.Chains.{Chain, Into, Out, SameOutside}
use Rattle.claims.specs.Finite.{of_account, Finite}
use Rattle.claims.specs.Untested.{untested_account}

-- an entry between two kept buses has its old value unless a chain joins row bus to column bus through removed buses
abbrev pub Unchanged : Account → ReducerState → Type 0
Unchanged a h = (p q : ℕ) → p < length (kept a) → q < length (kept a)
    → (Chain a.old a.removed (row_at a p) (row_at a q) → ⊥) → entry_in h p q ≈ a.old (row_at a p) (row_at a q)

-- two accounts of the same buses, row by row and under whatever numbers, with the same removed in the same order, whose old entries agree
-- but in the rows and columns of G, a "group" of removed buses
pub record Alike (a a' : Account) (G : List ℕ) : Type 0 where
  pub size : a'.size ≡ a.size
  pub removed : a'.removed ≡ a.removed
  pub group : (k : ℕ) → k is_one_of G → k is_one_of a.removed
  pub outside : SameOutside a.size a.old a'.old G

-- bus i has no chain into the group in either matrix, bus j none out of it in either
abbrev pub NoInto : Account → Account → List ℕ → ℕ → Type 0
NoInto a a' G i = (Into a.old a.removed G i → ⊥) × (Into a'.old a'.removed G i → ⊥)

abbrev pub NoOut : Account → Account → List ℕ → ℕ → Type 0
NoOut a a' G j = (Out a.old a.removed G j → ⊥) × (Out a'.old a'.removed G j → ⊥)

-- whatever the rows and columns of the group hold, no entry differs whose row bus has no chain into it, nor one whose column bus has none
-- out of it
abbrev pub Independent : Account → ReducerState → Account → ReducerState → Type 0
Independent a h a' h' = (G : List ℕ) → Alike a a' G → (p q : ℕ) → p < length (kept a) → q < length (kept a)
    → NoInto a a' G (row_at a p) ⊎ NoOut a a' G (row_at a q) → entry_in h p q ≈ entry_in h' p q

-- for every accepted making, whose given numbers are finite (19), and every list of calls; a slice of f64 holds numbers of binary64 (F64s),
-- which is how the logic writes an f64 and no restriction
pub record RemovalClaims : Type 0 where
  pub unchanged : (M : ReducerInput) (calls : List Call) → F64s M.given → AcceptedMaking M
      → Unchanged (account M calls) (left M calls)
  pub independent : (M M' : ReducerInput) (calls calls' : List Call) → F64s M.given → F64s M'.given
      → AcceptedMaking M → AcceptedMaking M'
      → Independent (account M calls) (left M calls) (account M' calls') (left M' calls')
  -- 01's premise of both follows: every number given, and every one computed on the way in the removals carried out, is finite
  pub finite : (M : ReducerInput) (calls : List Call) → AcceptedMaking M → Finite M calls
  -- and nothing finite is refused: where 1, 2 and 8 are not told, and every number given, and every one computed in the removals that 11
  -- and 12 alone let through, is finite, the making is accepted, and those are the removals
  pub no-more-refused : (M : ReducerInput) (calls : List Call) → making_shape_refusal M ≡ 0 → T (all_finite M.given)
      → T (all_finite (of_account (untested_account M calls)))
      → AcceptedMaking M × (account M calls ≡ untested_account M calls)
