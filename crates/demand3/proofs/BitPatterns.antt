-- Demand 3 where numbers are given by their bit patterns: no premise on how a number is written is left.
use Rattle.prelude.proofs.Prelude.{List, ℕ, ◌<◌, length, binary64, of_bits}
use Rattle.binary64.specs.BitPatterns.{of_bit_patterns}
use Rattle.binary64.proofs.BitPatterns.{words-f64s}
use Rattle.kron_reduction.specs.Reducer.{reducer_input_of, AcceptedMaking}
use Rattle.ward_equivalent.specs.Ward.{Outputs}
use Rattle.ward_equivalent.specs.Extended.{ExtendedOutputs}
use Rattle.refusals.specs.declared.Allowance.{Allowance}
use Rattle.ward_equivalent.specs.Calls.{study_of}
use Rattle.ward_equivalent.specs.Numbers.{NumberedStudy, numbered_of, NumberedExtended, numbered_extended_of, in_rows, extended_in_rows, AcceptedStudy, AcceptedExtended, after_compute, after_compute_extended}
use Rattle.claims.specs.Accounts.{Call, left, account}
use Rattle.claims.specs.Removals.{Unchanged, Independent}
use Rattle.ward_claims.specs.WardRows.{row_buses, ZeroRow, KeepsRow, KeepsExtendedRow}
use Rattle.demand3.proofs.Demand3.{demand3}

-- ---- lists of calls

pub unchanged-words : (n : ℕ) (ws ns : List ℕ) (calls : List Call) → let M = reducer_input_of n (of_bit_patterns ws) ns in AcceptedMaking M → Unchanged (account M calls) (left M calls)
unchanged-words n ws ns calls = demand3.removals.unchanged (reducer_input_of n (of_bit_patterns ws) ns) calls (words-f64s ws)

pub independent-words : (n n' : ℕ) (ws ws' ns ns' : List ℕ) (calls calls' : List Call) → let M = reducer_input_of n (of_bit_patterns ws) ns in let M' = reducer_input_of n' (of_bit_patterns ws') ns' in AcceptedMaking M → AcceptedMaking M'
    → Independent (account M calls) (left M calls) (account M' calls') (left M' calls')
independent-words n n' ws ws' ns ns' calls calls' = demand3.removals.independent (reducer_input_of n (of_bit_patterns ws) ns) (reducer_input_of n' (of_bit_patterns ws') ns') calls calls' (words-f64s ws) (words-f64s ws')

-- ---- Ward's study

-- matrix, the numbers of its buses, base, and P and Q at the external buses
module _ (n : ℕ) (ws ns internal external boundary : List ℕ) (base : ℕ) (ps qs : List ℕ) where
  abbrev pub study : NumberedStudy
  study = numbered_of ns (study_of n (of_bit_patterns ws) internal external boundary (of_bits binary64 base) (of_bit_patterns ps) (of_bit_patterns qs))

  -- and the voltages there
  abbrev pub extended : List ℕ → NumberedExtended
  extended vs = numbered_extended_of study (of_bit_patterns vs)

  pub zero-row-words : (a : Allowance) (o : Outputs) → AcceptedStudy study a o → (p : ℕ) → p < length (row_buses (in_rows study)) → ZeroRow (in_rows study) p → KeepsRow (in_rows study) (after_compute study a o).outputs p
  zero-row-words a o = demand3.ward.study study a o (words-f64s ws)

  pub zero-row_x-words : (vs : List ℕ) (a : Allowance) (o : ExtendedOutputs) → AcceptedExtended (extended vs) a o
      → (p : ℕ) → p < length (row_buses (in_rows study)) → ZeroRow (in_rows study) p → KeepsExtendedRow (extended_in_rows (extended vs)) (after_compute_extended (extended vs) a o).outputs p
  zero-row_x-words vs a o = demand3.ward.extended (extended vs) a o (words-f64s ws)
