-- Removal by rows and columns, as the code does it: what a slice shows, where a row stood, and what each step answers and leaves.
use Rattle.std.specs.Prelude.{Float, Result, Ok, Err}
use Rattle.std.specs.Prelude.{ℕ, suc, ◌*◌, ◌-◌, ◌≤◌, ◌<◌, ◌≡◌, Bool, cond, List, [], ◌∷◌, ◌++◌, T, ltb, length, get_or, drop}
use Rattle.binary64.specs.Values.{all_finite}
use Rattle.complex.specs.declared.Complex.{Complex}
use Rattle.complex.specs.Arithmetic.{cmul}
use Rattle.complex.specs.Computed.{of_parts, of_product, of_quotient}
use Rattle.complex.specs.Entries.{entry}
use Rattle.complex.specs.Matrices.{Matrix, entry_at, rows}
use Rattle.refusals.specs.Refusals.{limit, outcome}
use Rattle.refusals.specs.declared.Refusal.{Refusal}
use Rattle.kron_reduction.specs.declared.Removals.{Removals}
use Rattle.lists.specs.Buses.{rising}
use Rattle.kron_reduction.specs.declared.KronReducer.{KronReducer}
use Rattle.kron_reduction.specs.Reducer.{padded, reducer_of, active_of, state_in}
use Rattle.kron_reduction.specs.Kron.{State, new_entry, of_new_entry, remove, removal_refusal, eliminate, carried_out, stopped_by}

-- when row k drops out: the old row of what is now row p
unfoldable pub old_row : ℕ → ℕ → ℕ
old_row k p = cond (ltb p k) p (suc p)

-- the numbers of a new entry, of y_ij, y_ik, y_kj and y_kk
abbrev pub of_entry : Complex → Complex → Complex → Complex → List Float
of_entry ij ik kj kk = of_product ik kj ++ of_quotient (cmul ik kj) kk ++ of_parts (new_entry ij ik kj kk)

-- an answer tells whether something is so
abbrev pub Tells : Bool → Type 0 → Type 0
Tells b P = (T b → P) × (P → T b)

-- every number of the new entry in row i and column j is finite; row and column k make none
abbrev pub Fine : ℕ → Matrix → ℕ → ℕ → Type 0
Fine k Y i j = (i ≡ k → ⊥) → (j ≡ k → ⊥) → T (all_finite (of_new_entry k Y i j))

-- the matrix of a state stands at the front of ys
abbrev pub StandsIn : State → List Float → Type 0
StandsIn s ys =
    (p q : ℕ) → p < length s.active → q < length s.active
    → entry_at (length s.active) ys p q ≡ s.entries (get_or s.active p 0) (get_or s.active q 0)

-- The slice ys of a state after the buses ks are removed, one after the other: each removal writes the rows of what it leaves over the
-- front, and what stands behind them stays.
unfoldable pub left_by : State → List Float → List ℕ → List Float
unfolding rows
left_by s ys [] = ys
left_by s ys (k ∷ ks) =
    let t = remove s k in
    left_by t (rows t.entries t.active t.active ++ drop (2 * (length t.active * length t.active)) ys) ks

-- a record whose rows have room in ys
pub record Holds (r : KronReducer) (ys : List Float) : Type 0 where
  pub room : r.n_buses ≤ limit
  pub places : r.active_buses ≡ padded (active_of r)
  pub rises : T (rising (active_of r))
  pub fits : 2 * (r.n_buses * r.n_buses) ≤ length ys

-- what is answered for the bus of row k, and the record and the slice after it
pub record RemovedOne (r : KronReducer) (ys : List Float) (k : ℕ) (answer : Result (Unit {0}) Refusal)
    (r' : KronReducer) (ys' : List Float) : Type 0 where
  pub says : answer ≡ outcome (removal_refusal (state_in r.n_buses (active_of r) ys) k)
  pub refused : (refusal : Refusal) → answer ≡ Err refusal → (r' ≡ r) × (ys' ≡ ys)
  pub left : answer ≡ Ok tt
      → r' ≡ reducer_of r.made (r.n_buses - 1) (padded (remove (state_in r.n_buses (active_of r) ys) k).active) r.numbers
  pub shows : answer ≡ Ok tt → StandsIn (remove (state_in r.n_buses (active_of r) ys) k) ys'
  pub behind : answer ≡ Ok tt → (t : ℕ) → (r.n_buses - 1) * (r.n_buses - 1) ≤ t → entry ys' t ≡ entry ys t

-- and for the buses of the rows ks
pub record RemovedAll (r : KronReducer) (ys : List Float) (ks : List ℕ) (ran : Removals)
    (r' : KronReducer) (ys' : List Float) : Type 0 where
  pub says : ran.answer ≡ outcome (stopped_by (state_in r.n_buses (active_of r) ys) ks)
  pub count : ran.removed ≡ length (carried_out (state_in r.n_buses (active_of r) ys) ks)
  pub within : ran.removed ≤ r.n_buses
  pub left : r' ≡ reducer_of r.made (r.n_buses - ran.removed)
      (padded (eliminate (state_in r.n_buses (active_of r) ys) (carried_out (state_in r.n_buses (active_of r) ys) ks)).active) r.numbers
  pub shows : StandsIn (eliminate (state_in r.n_buses (active_of r) ys) (carried_out (state_in r.n_buses (active_of r) ys) ks)) ys'
  pub slice : ys' ≡ left_by (state_in r.n_buses (active_of r) ys) ys (carried_out (state_in r.n_buses (active_of r) ys) ks)
