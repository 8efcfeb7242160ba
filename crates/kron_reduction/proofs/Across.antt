-- What `thevenin_impedance` answers and leaves: only the n rows and columns of a matrix count for its inverse, and each test picks its case.
use Rattle.std.proofs.Common.{Some, None, Err, Result, ok_or}
use Rattle.prelude.proofs.Prelude.{◌≡◌, refl, sym, ap, ◌∙◌, Bool, true, false, cond, inl, inr, List, ℕ, ◌+◌, ◌*◌, ◌≤◌, ◌<◌, arith, T, eqb, length, take, Float, mul-le-mul, le-ltb, is_true}
use native.Mathlib.Nat.{mul-add}
use Rattle.binary64.specs.Values.{all_finite}
use Rattle.complex.specs.{Complex, Matrix, entry_at, zeros}
use Rattle.complex.specs.Leaves.{pair}
use Rattle.complex.proofs.Matrices.{row_within}
use Rattle.refusals.specs.declared.Refusal.{Refusal}
use Rattle.refusals.specs.declared.Refusal.TheVariants.{NotActive, ComputedNotFinite}
use Rattle.refusals.specs.Refusals.{limit, number, answered, outcome}
use Rattle.refusals.proofs.Answering.{answered-number, before, held-refused}
use Rattle.refusals.specs.declared.Allowance.TheVariants.{Unlimited}
use Rattle.refusals.specs.Work.{Step, work_refusal, then_work}
use Rattle.refusals.proofs.Numbers.{given-none}
use Rattle.refusals.proofs.Work.{then-numbers}
use Rattle.solver.specs.GaussJordan.{augmented, solution}
use Rattle.solver.specs.Solving.{operations, inverse, unit_column}
use Rattle.solver.specs.Steps.{workings, steps_of_inverse}
use Rattle.solver.proofs.StepsSame.{run-steps-same}
use Rattle.solver.proofs.GaussJordan.{run-same, augmented-system}
use Rattle.kron_reduction.specs.declared.KronReducer.{KronReducer}
use Rattle.lists.specs.Buses.{mem, place, found_in}
use Rattle.kron_reduction.specs.Reducer.{active_of, row_of, sound, present}
use Rattle.kron_reduction.specs.Inner.Removal.{Holds}
use Rattle.kron_reduction.specs.Reading.{reading_shape_refusal, reading_refusal, thevenin_of, of_thevenin, steps_of_impedance, impedance_told, after_impedance}
use Rattle.lists.proofs.Order.{lt-or-ge}
use Rattle.lists.proofs.Chains.{found_at, found-not}
use Rattle.kron_reduction.proofs.Calls.{shaped-has, shaped-holds}
use Rattle.kron_reduction.proofs.Reading.{reading-accepted}

-- ---- a work slice of n rows of 2 n entries

pub work-room : (n p : ℕ) → n ≤ limit → p < n → (p * (n + n) + (n + n) ≤ n * (n + n)) × (n * (n + n) ≤ limit * (limit + limit))
work-room n p a b = let twice : n + n ≤ limit + limit = omega arith in (row_within n (n + n) p b, mul-le-mul a twice)

-- ---- the same entries, the same inverse

module _ (n : ℕ) (A B : Matrix) (same : (i j : ℕ) → i < n → j < n → A i j ≡ B i j) where
  past : (R : Matrix) (i j : ℕ) → n ≤ j → augmented operations n A R i j ≡ augmented operations n B R i j
  unfolding augmented
  past R i j k = rw (le-ltb j n k)

  beside_same : (R : Matrix) (i j : ℕ) → i < n → augmented operations n A R i j ≡ augmented operations n B R i j
  beside_same R i j h = elim (lt-or-ge j n) [
    | inl k ↦ augmented-system operations n A R i j k ∙ same i j h k ∙ sym (augmented-system operations n B R i j k)
    | inr k ↦ past R i j k
  ]

  pub inverse-same : (i c : ℕ) → i < n → inverse n A i c ≡ inverse n B i c
  unfolding solution
  inverse-same i c h =
      (run-same operations n (n + 1) (omega arith) (augmented operations n A (λ (r k : ℕ). unit_column c r)) (augmented operations n B (λ (r k : ℕ). unit_column c r))
      (λ (i j : ℕ) (h : i < n) (k : j < n + 1). beside_same (λ (r k : ℕ). unit_column c r) i j h)).left i n h (omega arith)

  -- and the same steps
  pub steps-same : steps_of_inverse n A ≡ steps_of_inverse n B
  unfolding steps_of_inverse
  steps-same =
      run-steps-same operations workings n (n + n) (omega arith) (augmented operations n A (λ (r k : ℕ). unit_column k r)) (augmented operations n B (λ (r k : ℕ). unit_column k r))
      (λ (i j : ℕ) (h : i < n) (k : j < n + n). beside_same (λ (r k : ℕ). unit_column k r) i j h)

  pub impedance-steps-same : (p q : ℕ) → p < n → q < n → steps_of_impedance n A p q ≡ steps_of_impedance n B p q
  unfolding steps_of_impedance of_thevenin
  impedance-steps-same p q hp hq = rw (steps-same, inverse-same p p hp, inverse-same q q hq, inverse-same p q hp)

pub across-same : (Z W : Matrix) (p q : ℕ) → Z p p ≡ W p p → Z q q ≡ W q q → Z p q ≡ W p q → thevenin_of Z p q ≡ thevenin_of W p q
unfolding thevenin_of
across-same Z W p q a b c = rw (a, b, c)

pub numbers-same : (Z W : Matrix) (p q : ℕ) → Z p p ≡ W p p → Z q q ≡ W q q → Z p q ≡ W p q → of_thevenin Z p q ≡ of_thevenin W p q
unfolding of_thevenin
numbers-same Z W p q a b c = rw (a, b, c)

-- ---- the answer

-- by what the inverse's steps meet, and then by the numbers of the impedance
module _ (n : ℕ) (Y : Matrix) (p q : ℕ) (z : Complex) where
  abbrev all : ℕ
  all = work_refusal Unlimited (steps_of_impedance n Y p q)

  whole : (met : ℕ) → met ≡ work_refusal Unlimited (steps_of_inverse n Y) → all ≡ cond (eqb met 0) (cond (all_finite (of_thevenin (inverse n Y) p q)) 0 20) met
  unfolding steps_of_impedance
  whole met e = rw e (then-numbers (steps_of_inverse n Y) (of_thevenin (inverse n Y) p q))

  pub inverse-met : (r : Refusal) → number r ≡ work_refusal Unlimited (steps_of_inverse n Y) → Err r ≡ answered z all
  inverse-met r e = before z (tt {0}) (number r) _ r (sym (answered-number (tt {0}) r)) ∙ ap (answered z) (sym (whole (number r) e))

  -- the inverse is found: the answer is what the impedance's operations answer
  pub inverse-found : 0 ≡ work_refusal Unlimited (steps_of_inverse n Y) → ok_or (pair (of_thevenin (inverse n Y) p q) z) ComputedNotFinite ≡ answered z all
  unfolding pair answered
  inverse-found e = go (all_finite (of_thevenin (inverse n Y) p q)) ∙ ap (answered z) (sym (whole 0 e))
    where
      go : (b : Bool) → ok_or (cond b (Some z) None) ComputedNotFinite ≡ answered z (cond b 0 20)
      go true = refl
      go false = refl

-- between the buses numbered a and b
module _ (r : KronReducer) (ys : List Float) (a b : ℕ) (ws : List Float) where
  abbrev i : ℕ
  i = row_of r a

  abbrev j : ℕ
  j = row_of r b

  -- what is told before the work is the answer
  told-first : (told : ℕ) (f : Refusal) (es : List Step) (z : Complex) → Err f ≡ outcome told
      → (Err f ≡ answered z (then_work told Unlimited es)) × (ws ≡ cond (eqb told 0) (zeros (length ws)) ws)
  unfolding then_work
  told-first told f es z e = (before z (tt {0}) told _ f e, held-refused (tt {0}) told _ ws f e)

  abbrev Left : Refusal → Type 0
  Left f = (Err f ≡ (after_impedance r ys a b ws).answer) × (ws ≡ (after_impedance r ys a b ws).work)

  before-work : (f : Refusal) → Err f ≡ outcome (impedance_told (reading_refusal 4 r ys (length ws)) (active_of r) i j) → Left f
  unfolding after_impedance
  before-work f e =
      let xs = active_of r in let m = r.n_buses in let Y = entry_at m ys in
      told-first _ f (steps_of_impedance m Y (place i xs) (place j xs)) (thevenin_of (inverse m Y) (place i xs) (place j xs)) e

  pub impedance-refused : (f : Refusal) → Err f ≡ outcome (reading_refusal 4 r ys (length ws)) → Left f
  unfolding impedance_told
  impedance-refused f e = before-work f (before (tt {0}) (tt {0}) (reading_refusal 4 r ys (length ws)) _ f e)

  -- where the input is accepted
  module _ (ok : reading_refusal 4 r ys (length ws) ≡ 0) where
    pub impedance-first : found_in i (active_of r) ≡ None → Left NotActive
    unfolding impedance_told answered
    impedance-first e = before-work NotActive (rw (ok, found-not i (active_of r) e))

    module _ (p : ℕ) (at_i : found_in i (active_of r) ≡ Some p) where
      pub impedance-second : found_in j (active_of r) ≡ None → Left NotActive
      unfolding impedance_told answered
      impedance-second e = before-work NotActive (rw (ok, is_true (mem i (active_of r)) (found_at i (active_of r) p at_i).0, found-not j (active_of r) e))

      module _ (q : ℕ) (at_j : found_in j (active_of r) ≡ Some q) where
        none_told : impedance_told (reading_refusal 4 r ys (length ws)) (active_of r) i j ≡ 0
        unfolding impedance_told
        none_told = rw (ok, is_true (mem i (active_of r)) (found_at i (active_of r) p at_i).0, is_true (mem j (active_of r)) (found_at j (active_of r) q at_j).0)

        pub impedance-found : (o : Result Complex Refusal) (zs : List Float)
            → (o ≡ answered (thevenin_of (inverse r.n_buses (entry_at r.n_buses ys)) p q) (work_refusal Unlimited (steps_of_impedance r.n_buses (entry_at r.n_buses ys) p q))) × (zs ≡ zeros (length ws))
            → (o ≡ (after_impedance r ys a b ws).answer) × (zs ≡ (after_impedance r ys a b ws).work)
        unfolding after_impedance then_work
        impedance-found o zs h = rw (none_told, (found_at i (active_of r) p at_i).1, (found_at j (active_of r) q at_j).1) h

    accepted : (reading_shape_refusal 4 r ys (length ws) ≡ 0) × T (all_finite (present r ys))
    unfolding reading_refusal
    accepted = given-none (reading_shape_refusal 4 r ys (length ws)) (present r ys) ok

    pub impedance-finite : T (all_finite (take (2 * (r.n_buses * r.n_buses)) ys))
    impedance-finite = accepted.1

    pub impedance-sound : (r.made ≤ limit) × T (sound r)
    impedance-sound = let h = shaped-has r ys 0 (reading-accepted 4 r ys (length ws) accepted.0).1 in (h.size, h.record')

    -- what the elimination may use
    pub impedance-holds : length r.active_buses ≡ limit → Holds r ys
    impedance-holds long = shaped-holds r ys 0 long (reading-accepted 4 r ys (length ws) accepted.0).1

    pub impedance-room : length r.active_buses ≡ limit → 2 * (r.n_buses * (r.n_buses + r.n_buses)) ≤ length ws
    impedance-room long =
        let acc = reading-accepted 4 r ys (length ws) accepted.0 in
        let h = (impedance-holds long).fits in
        let s = (shaped-has r ys 0 acc.1).slice in
        let n = r.n_buses in
        let d : n * (n + n) ≡ n * n + n * n = mul-add n n n in
        omega (arith, acc.0, h, s, d)
