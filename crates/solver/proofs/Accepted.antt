-- Refusals told from the input: what an accepted call has.
use Rattle.prelude.proofs.Prelude.{◌≡◌, not, ◌&&◌, ◌||◌, List, ◌++◌, ℕ, ◌+◌, ◌*◌, ◌≤◌, arith, T, eqb, ltb, length, Float, ltb-false}
use native.Mathlib.Nat.{mul-add}
use Rattle.binary64.specs.Values.{all_finite}
use Rattle.complex.proofs.Finite.{all_left, all_right}
use Rattle.refusals.specs.Refusals.{limit}
use Rattle.refusals.proofs.Answering.{passed, accepting}
use Rattle.refusals.proofs.Numbers.{given-none}
use Rattle.lists.proofs.Buses.{neither}
use Rattle.solver.specs.Calls.{solve_shape_refusal, solve_refusal, inverse_shape_refusal, inverse_refusal}

pub record SolveAccepted (n a b x work : ℕ) : Type 0 where
  pub size : n ≤ limit
  pub matrix : a ≡ 2 * (n * n)
  pub right : b ≡ 2 * n
  pub solution : x ≡ 2 * n
  pub room : work ≡ 2 * (n * (n + 1))

pub solve-shaped : (n a b x work : ℕ) → solve_shape_refusal n a b x work ≡ 0 → SolveAccepted n a b x work
unfolding solve_shape_refusal
solve-shaped n a b x work e =
    let (few, e2) = passed (ltb limit n) 0 _ e in
    let (lengths, e5) = passed (not (eqb a (2 * (n * n)) && (eqb x (2 * n) && eqb work (2 * (n * (n + 1)))))) 1 _ e2 in
    let (empty, _) = passed (eqb n 0 || not (eqb b (2 * n))) 4 _ e5 in
    let (_, sides) = neither (eqb n 0) (not (eqb b (2 * n))) empty in
    search (accepting, ltb-false)

pub record InverseAccepted (n mat inverse work : ℕ) : Type 0 where
  pub size : n ≤ limit
  pub matrix : mat ≡ 2 * (n * n)
  pub out : inverse ≡ 2 * (n * n)
  pub room : work ≡ 2 * (n * (n + n))

pub inverse-shaped : (n mat inverse work : ℕ) → inverse_shape_refusal n mat inverse work ≡ 0 → InverseAccepted n mat inverse work
unfolding inverse_shape_refusal
inverse-shaped n mat inverse work e =
    let (few, e2) = passed (ltb limit n) 0 _ e in
    let (lengths, _) = passed (not (eqb mat (2 * (n * n)) && (eqb inverse (2 * (n * n)) && eqb work (4 * (n * n))))) 1 _ e2 in
    let four : work ≡ 4 * (n * n) = search accepting in
    let twice : n * (n + n) ≡ n * n + n * n = mul-add n n n in
    let room : work ≡ 2 * (n * (n + n)) = omega arith in
    search (accepting, ltb-false)

-- ---- and its numbers are finite

pub record SolveGiven (n : ℕ) (a b : List Float) (x work : ℕ) : Type 0 where
  pub shape : SolveAccepted n (length a) (length b) x work
  pub system-finite : T (all_finite a)
  pub right-finite : T (all_finite b)

pub solve-accepted : (n : ℕ) (a b : List Float) (x work : ℕ) → solve_refusal n a b x work ≡ 0 → SolveGiven n a b x work
unfolding solve_refusal
solve-accepted n a b x work e =
    let (none, all) = given-none (solve_shape_refusal n (length a) (length b) x work) (a ++ b) e in
    record { shape = solve-shaped n (length a) (length b) x work none; system-finite = all_left a b all; right-finite = all_right a b all }

pub inverse-accepted : (n : ℕ) (mat : List Float) (inverse work : ℕ) → inverse_refusal n mat inverse work ≡ 0 → InverseAccepted n (length mat) inverse work × T (all_finite mat)
unfolding inverse_refusal
inverse-accepted n mat inverse work e =
    let (none, all) = given-none (inverse_shape_refusal n (length mat) inverse work) mat e in
    (inverse-shaped n (length mat) inverse work none, all)
