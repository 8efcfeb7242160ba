-- A call of the book, and what it answers and leaves by the definitions that the contracts cite.
use Rattle.std.specs.Prelude.{ℕ, cond, List, [], ◌∷◌, ◌++◌, eqb, Float, Result, Ok, Err}
use Rattle.complex.specs.declared.Complex.{Complex}
use Rattle.complex.specs.Arithmetic.{unit, cmul, complex_inv}
use Rattle.complex.specs.Computed.{of_parts, of_product, of_quotient}
use Rattle.complex.specs.Leaves.{single_refusal}
use Rattle.refusals.specs.declared.Allowance.TheVariants.{Unlimited}
use Rattle.refusals.specs.declared.Refusal.{Refusal}
use Rattle.refusals.specs.Refusals.{number, number_of}
use Rattle.solver.specs.Calls.{AfterElimination, after_solve}
use Rattle.kron_reduction.specs.declared.KronReducer.{KronReducer}
use Rattle.kron_reduction.specs.Reducer.{ReducerInput, made, AfterBus, after_bus, AfterBuses, after_buses}
use Rattle.kron_reduction.specs.Reading.{after_impedance}
use Rattle.ward_equivalent.specs.declared.answers.WardSummary.{WardSummary}
use Rattle.ward_equivalent.specs.Ward.{Outputs}
use Rattle.ward_equivalent.specs.Extended.{ExtendedOutputs}
use Rattle.ward_equivalent.specs.Studied.{AfterWard, AfterExtended}
use Rattle.ward_equivalent.specs.Numbers.{NumberedStudy, NumberedExtended, after_compute, after_compute_extended}

-- A call with all that is handed to it. The reducer's calls come after the making of their record; what comes last is what the slices hold
-- at entry. No call has an allowance.
pub data BookCall : Type 0 where
  product : Complex → Complex → BookCall
  inverse : Complex → BookCall
  removal : ReducerInput → ℕ → BookCall
  removals : ReducerInput → List ℕ → BookCall
  impedance : ReducerInput → ℕ → ℕ → List Float → BookCall
  study : NumberedStudy → Outputs → BookCall
  extended : NumberedExtended → ExtendedOutputs → BookCall
  solution : ℕ → List Float → List Float → List Float → List Float → BookCall

-- All that can be seen of a call once it has returned.
pub record Seen : Type 0 where
  -- the refusal's, 0 where the call is accepted
  pub number : ℕ
  -- the whole numbers answered
  pub counts : List ℕ
  -- the f64 answered
  pub values : List Float
  -- what each slice holds that the call may write: the outputs in the order of the parameters, then the work slice
  pub slices : List (List Float)

abbrev pub seen : ℕ → List ℕ → List Float → List (List Float) → Seen
seen k ns xs ss = record { number = k; counts = ns; values = xs; slices = ss }

-- the record's size at making, its present size, the places of its active rows, and those of the numbers
abbrev pub reducer_counts : KronReducer → List ℕ
reducer_counts r = r.made ∷ r.n_buses ∷ (r.active_buses ++ r.numbers)

-- ---- what each answer shows, beside the slices

unfoldable pub seen_impedance : Result Complex Refusal → List (List Float) → Seen
seen_impedance (Ok z) ss = seen 0 [] (of_parts z) ss
seen_impedance (Err r) ss = seen (number r) [] [] ss

unfoldable pub seen_summary : Result WardSummary Refusal → List (List Float) → Seen
seen_summary (Ok s) ss =
    seen 0 (s.n_buses_reduced ∷ s.n_buses_equivalent ∷ s.rows_reduced ∷ []) (s.reduction_ratio ∷ []) ss
seen_summary (Err r) ss = seen (number r) [] [] ss

-- how many rows were reduced
unfoldable pub reduced_rows : Result ℕ Refusal → List ℕ
reduced_rows (Ok n) = n ∷ []
reduced_rows (Err r) = []

-- a call on single numbers: those given, those computed, and its value
unfoldable pub seen_single : List Float → List Float → Complex → Seen
seen_single given computed z =
    let told = single_refusal given computed in
    seen told [] (cond (eqb told 0) (of_parts z) []) []

-- ---- the calls

abbrev pub seen_bus : AfterBus → Seen
seen_bus a = seen (number_of a.out.answer) (reducer_counts a.out.rec) [] (a.slice ∷ [])

-- the count of removals comes first
abbrev pub seen_buses : AfterBuses → Seen
seen_buses a = seen (number_of a.out.removals.answer) (a.out.removals.removed ∷ reducer_counts a.out.rec) [] (a.slice ∷ [])

abbrev pub seen_study : AfterWard → Seen
seen_study a = let o = a.outputs in seen_summary a.answer (o.y-ward ∷ o.p-ward ∷ o.q-ward ∷ o.work ∷ [])

abbrev pub seen_extended : AfterExtended → Seen
seen_extended a =
    let x = a.outputs in
    let o = x.outputs in
    seen_summary a.answer (o.y-ward ∷ o.p-ward ∷ o.q-ward ∷ x.correction ∷ x.compensation ∷ o.work ∷ [])

abbrev pub seen_solution : AfterElimination (Result ℕ Refusal) → Seen
seen_solution a = seen (number_of a.answer) (reduced_rows a.answer) [] (a.output ∷ a.work ∷ [])

unfoldable pub after : BookCall → Seen
after (product a b) = seen_single (of_parts a ++ of_parts b) (of_product a b) (cmul a b)
after (inverse b) = seen_single (of_parts b) (of_quotient unit b) (complex_inv b)
after (removal M k) = seen_bus (after_bus (made M) M.given k)
after (removals M ks) = seen_buses (after_buses (made M) M.given ks)
after (impedance M i j ws) = let a = after_impedance (made M) M.given i j ws in seen_impedance a.answer (a.work ∷ [])
after (study N o) = seen_study (after_compute N Unlimited o)
after (extended X o) = seen_extended (after_compute_extended X Unlimited o)
after (solution n a b x ws) = seen_solution (after_solve n a b Unlimited x ws)
