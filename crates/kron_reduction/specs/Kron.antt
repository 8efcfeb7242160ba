-- Kron's formula, and the removal of buses by it. A bus is its row in the matrix at making, here and below every call.
use Rattle.std.specs.Prelude.{ℕ, ◌≡◌, Bool, not, cond, List, [], ◌∷◌, ◌++◌, T, eqb, Float, Option, Some, None}
use Rattle.std.specs.Float.Ieee.Scale.{finite}
use Rattle.binary64.specs.Values.{all_finite}
use Rattle.complex.specs.declared.Complex.{Complex}
use Rattle.complex.specs.Arithmetic.{csub, cmul, cdiv, sqmag, too_small}
use Rattle.complex.specs.Computed.{of_parts, of_product, of_sqmag, of_quotient}
use Rattle.complex.specs.Leaves.{pair, product, quotient, difference, passing}
use Rattle.complex.specs.Matrices.{Matrix}
use Rattle.lists.specs.Buses.{up_to, mem, ◌is_one_of◌, others}
use Rattle.refusals.specs.Refusals.{not_active, small_entry, computed_not_finite, refuse}
use Rattle.refusals.specs.declared.Allowance.TheVariants.{Unlimited}
use Rattle.refusals.specs.Work.{Step, entry_too_small, computing, work_refusal}

-- the new entry, of y_ij, y_ik, y_kj and y_kk as they were
unfoldable pub new_entry : Complex → Complex → Complex → Complex → Complex
new_entry ij ik kj kk = csub ij (cdiv (cmul ik kj) kk)

-- the matrix without bus k
unfoldable pub kron : ℕ → Matrix → Matrix
unfolding new_entry
kron k Y i j = new_entry (Y i j) (Y i k) (Y k j) (Y k k)

pub record State : Type 0 where
  pub active : List ℕ
  pub entries : Matrix

abbrev pub start : ℕ → Matrix → State
start n Y = record { active = up_to n; entries = Y }

abbrev pub remove : State → ℕ → State
remove s k = record { active = others (k ∷ []) s.active; entries = kron k s.entries }

-- ---- the numbers that a removal computes, in the order of the work: the squared magnitude of y_kk, then the new entries row by row

abbrev pub of_new_entry : ℕ → Matrix → ℕ → ℕ → List Float
of_new_entry k Y i j = of_product (Y i k) (Y k j) ++ of_quotient (cmul (Y i k) (Y k j)) (Y k k) ++ of_parts (kron k Y i j)

unfoldable pub of_row : ℕ → Matrix → ℕ → List ℕ → List Float
of_row k Y i [] = []
of_row k Y i (j ∷ js) = of_new_entry k Y i j ++ of_row k Y i js

unfoldable pub of_rows : ℕ → Matrix → List ℕ → List ℕ → List Float
of_rows k Y [] js = []
of_rows k Y (i ∷ is) js = of_row k Y i js ++ of_rows k Y is js

abbrev pub of_removal : State → ℕ → List Float
of_removal s k = of_sqmag (s.entries k k) ++ of_rows k s.entries (remove s k).active (remove s k).active

-- ---- removals

-- 11, 12, 20 where a number that the removal computes is not finite, or 0 where bus k can be removed
unfoldable pub removal_refusal : State → ℕ → ℕ
removal_refusal s k =
    cond (mem k s.active)
    (refuse (too_small (s.entries k k)) small_entry
    (refuse (not (all_finite (of_removal s k))) computed_not_finite 0))
    not_active

abbrev pub accepts : State → ℕ → Bool
accepts s k = eqb (removal_refusal s k) 0

-- the buses ks are removed, in order
unfoldable pub eliminate : State → List ℕ → State
eliminate s [] = s
eliminate s (k ∷ ks) = eliminate (remove s k) ks

-- of ks those before the first that is refused
unfoldable pub carried_out : State → List ℕ → List ℕ
carried_out s [] = []
carried_out s (k ∷ ks) = cond (accepts s k) (k ∷ carried_out (remove s k) ks) []

-- and that one's refusal, 0 where none is
unfoldable pub stopped_by : State → List ℕ → ℕ
stopped_by s [] = 0
stopped_by s (k ∷ ks) = cond (accepts s k) (stopped_by (remove s k) ks) (removal_refusal s k)

-- and the numbers that the removals of ks compute
unfoldable pub of_removals : State → List ℕ → List Float
of_removals s [] = []
of_removals s (k ∷ ks) = of_removal s k ++ of_removals (remove s k) ks

-- ---- the work of a removal as steps, in the order of the Rust: y_kk's squared magnitude, its test, then the new entries

unfoldable pub steps_of_removal : State → ℕ → List Step
unfolding computing of_rows
steps_of_removal s k =
    computing (of_sqmag (s.entries k k))
    ++ cond (too_small (s.entries k k)) (entry_too_small ∷ [])
    (computing (of_rows k s.entries (remove s k).active (remove s k).active))

-- the refusal is what these steps meet first
abbrev pub MetInOrder : Type 0
MetInOrder = (s : State) (k : ℕ) → removal_refusal s k ≡ cond (mem k s.active) (work_refusal Unlimited (steps_of_removal s k)) not_active

-- the new entry in row i and column j by the operations that answer a finite number or none, each behind the one before
unfoldable pub entry_answer : ℕ → Matrix → ℕ → ℕ → Option Complex
unfolding product quotient difference passing
entry_answer k Y i j =
    passing (product (Y i k) (Y k j)) (λ (p : Complex). passing (quotient p (Y k k)) (λ (q : Complex). difference (Y i j) q))

-- what these answer is passed on
pub record PassedOn : Type 0 where
  -- an entry is answered exactly where every number in its list is finite
  pub entry : (k : ℕ) (Y : Matrix) (i j : ℕ) → entry_answer k Y i j ≡ pair (of_new_entry k Y i j) (kron k Y i j)
  -- of a removal that is carried out every entry is answered
  pub answered : (s : State) (k : ℕ) → T (accepts s k) → (i j : ℕ) → i is_one_of (remove s k).active → j is_one_of (remove s k).active
      → entry_answer k s.entries i j ≡ Some ((remove s k).entries i j)
  -- and one of an active bus, whose own entry's square is finite and not too small, is carried out where none is answered "not finite"
  pub carries-out : (s : State) (k : ℕ) → k is_one_of s.active → T (not (too_small (s.entries k k))) → T (finite (sqmag (s.entries k k)))
      → ((i j : ℕ) → i is_one_of (remove s k).active → j is_one_of (remove s k).active → entry_answer k s.entries i j ≡ None → ⊥)
      → T (accepts s k)
