-- What a solve counts and meets under an allowance.
use Rattle.prelude.proofs.Prelude.{◌≡◌, refl, sym, ap, ◌∙◌, Bool, true, false, not, ◌&&◌, ◌||◌, cond, List, ◌++◌, ℕ, ◌+◌, ◌-◌, ◌*◌, ◌≤◌, arith, eqb, ltb, length, Float, mul-le-mul, mul-le-mul_left}
use Rattle.std.proofs.Common.{Result, Ok, Err, is_ok}
use Rattle.refusals.specs.declared.Refusal.{Refusal}
use Rattle.refusals.specs.declared.Refusal.TheVariants.{TooMany, WrongLength, EmptySystem, BeyondAllowance}
use Rattle.binary64.specs.Values.{all_finite}
use Rattle.complex.specs.{Complex, Matrix, entry, entry_at, grid, zeros}
use Rattle.refusals.specs.declared.Allowance.{Allowance}
use Rattle.refusals.specs.declared.Allowance.TheVariants.{Unlimited, Rows}
use Rattle.refusals.specs.Refusals.{limit, refuse, then_given, answered, outcome, number, number_of}
use Rattle.refusals.specs.Work.{reductions, meets, granted, work_refusal, then_work, ◌no_more_than◌, allowed_rows}
use Rattle.refusals.proofs.Answering.{answered-number, accepted, before, held-refused, Told, told-refuse, told-given, number_of-answered}
use Rattle.refusals.proofs.Work.{told-work, meets-within, larger-call, from-count, unlimited-call, allowed-met, work-met, work-accepted}
use Rattle.solver.specs.GaussJordan.{gauss_jordan, pairs, augmented}
use Rattle.solver.specs.Solving.{operations, is_singular, solve, inverse, unit_column}
use Rattle.solver.specs.Steps.{workings, steps_of_solve, steps_of_inverse}
use Rattle.solver.specs.Calls.{AfterElimination, after_elimination, solve_shape_refusal, solve_refusal, after_solve, inverse_shape_refusal, inverse_refusal, after_inverse}
use Rattle.solver.specs.Allowances.{SolveAllowances}
use Rattle.solver.specs.Inner.Work.{Ended}
use Rattle.solver.proofs.GaussJordan.{augmented-singular}
use Rattle.solver.proofs.Pairs.{pairs-system, pairs-bound}
use Rattle.solver.proofs.Steps.{run-count, run-met, met_by}
use Rattle.solver.proofs.Told.{number-none, ok-none}

module _ (n : ℕ) (A : Matrix) (b : ℕ → Complex) where
  pub solve-count : reductions (steps_of_solve n A b) ≡ pairs operations n A
  unfolding steps_of_solve
  solve-count = run-count operations workings n (n + 1) (augmented operations n A (λ (r k : ℕ). b r)) ∙ pairs-system operations n A (λ (r k : ℕ). b r)

  pub solve-bound : reductions (steps_of_solve n A b) ≤ n * (n - 1)
  solve-bound = let most = pairs-bound operations n A in let same = solve-count in omega arith

  -- where the work without a limit does not meet 20
  pub solve-met : (m : ℕ) → (meets (reductions (steps_of_solve n A b)) (steps_of_solve n A b) ≡ 20 → ⊥) → meets m (steps_of_solve n A b) ≡ met_by m (pairs operations n A) (is_singular n A)
  unfolding steps_of_solve
  solve-met m unlost =
      let B = augmented operations n A (λ (r k : ℕ). b r) in
      run-met operations workings n (n + 1) B m unlost
      ∙ ap (λ (k : ℕ). met_by m k (gauss_jordan operations n B).singular) (pairs-system operations n A (λ (r k : ℕ). b r))
      ∙ ap (met_by m (pairs operations n A)) (augmented-singular operations n A (λ (r k : ℕ). b r))

  -- of a size within the limit, by how the elimination ends
  pub solve-refused : n ≤ limit → (a : Allowance) (end : Result ℕ Refusal) → Ended (allowed_rows a) end (steps_of_solve n A b) → work_refusal a (steps_of_solve n A b) ≡ number_of end
  solve-refused few a end e =
      let most = solve-bound in
      let less : n - 1 ≤ 256 = omega arith in
      let square = mul-le-mul few less in
      allowed-met a (steps_of_solve n A b) (omega arith) ∙ sym e.number

-- the inverse counts as its matrix does
pub inverse-count : (n : ℕ) (A : Matrix) → reductions (steps_of_inverse n A) ≤ n * n
unfolding steps_of_inverse
inverse-count n A =
    let count = run-count operations workings n (n + n) (augmented operations n A (λ (r k : ℕ). unit_column k r)) ∙ pairs-system operations n A (λ (r k : ℕ). unit_column k r) in
    let bound = pairs-bound operations n A in
    let less : n - 1 ≤ n = omega arith in
    let most = mul-le-mul_left n less in
    omega arith

-- so that n n row reductions are enough for it
pub inverse-refused : (n : ℕ) (A : Matrix) (end : Result ℕ Refusal) → Ended (n * n) end (steps_of_inverse n A) → number_of end ≡ work_refusal Unlimited (steps_of_inverse n A)
unfolding work_refusal granted
inverse-refused n A end e = e.number ∙ from-count (n * n) (steps_of_inverse n A) (inverse-count n A)

-- an accepted input, by how the elimination ends
pub solve-after : (n : ℕ) (ys bs : List Float) (a : Allowance) (xs ws : List Float) → solve_refusal n ys bs (length xs) (length ws) ≡ 0
    → n ≤ limit → (end : Result ℕ Refusal) → Ended (allowed_rows a) end (steps_of_solve n (entry_at n ys) (entry bs))
    → after_solve n ys bs a xs ws ≡ record {
      answer = answered (reductions (steps_of_solve n (entry_at n ys) (entry bs))) (number_of end);
      output = cond (is_ok end) (grid n 1 (λ (i k : ℕ). solve n (entry_at n ys) (entry bs) i)) xs;
      work = zeros (length ws);
    }
unfolding after_solve after_elimination
solve-after n ys bs a xs ws z few end e =
    rw (work-met (solve_refusal n ys bs (length xs) (length ws)) a (steps_of_solve n (entry_at n ys) (entry bs)) z, z, solve-refused n (entry_at n ys) (entry bs) few a end e, number-none end)

-- a refused input leaves the slices
pub solve-told : (n : ℕ) (ys bs : List Float) (a : Allowance) (xs ws : List Float) (r : Refusal) → Err r ≡ outcome (solve_refusal n ys bs (length xs) (length ws))
    → let after = after_solve n ys bs a xs ws in (Err r ≡ after.answer) × (xs ≡ after.output) × (ws ≡ after.work)
unfolding after_solve after_elimination then_work
solve-told n ys bs a xs ws r e =
    let told = before (reductions (steps_of_solve n (entry_at n ys) (entry bs))) tt (solve_refusal n ys bs (length xs) (length ws)) _ r e in
    (told, held-refused _ _ _ xs r told, held-refused tt (solve_refusal n ys bs (length xs) (length ws)) _ ws r e)

-- ---- the inverse, likewise

pub inverse-told : (n : ℕ) (ys os ws : List Float) (r : Refusal) → Err r ≡ outcome (inverse_refusal n ys (length os) (length ws))
    → let after = after_inverse n ys os ws in (Err r ≡ after.answer) × (os ≡ after.output) × (ws ≡ after.work)
unfolding after_inverse after_elimination then_work
inverse-told n ys os ws r e =
    let told = before tt tt (inverse_refusal n ys (length os) (length ws)) _ r e in
    (told, held-refused tt _ _ os r told, held-refused tt (inverse_refusal n ys (length os) (length ws)) _ ws r e)

pub inverse-after : (n : ℕ) (ys os ws : List Float) → inverse_refusal n ys (length os) (length ws) ≡ 0
    → (answer : Result (Unit {0}) Refusal) (output work : List Float) → answer ≡ outcome (work_refusal Unlimited (steps_of_inverse n (entry_at n ys)))
    → output ≡ cond (is_ok answer) (grid n n (inverse n (entry_at n ys))) os → work ≡ zeros (length ws)
    → let after = after_inverse n ys os ws in (answer ≡ after.answer) × (output ≡ after.output) × (work ≡ after.work)
unfolding after_inverse after_elimination
inverse-after n ys os ws z answer output work a o w =
    rw (work-met (inverse_refusal n ys (length os) (length ws)) Unlimited (steps_of_inverse n (entry_at n ys)) z, z)
    (a, o ∙ ap (λ (t : Bool). cond t (grid n n (inverse n (entry_at n ys))) os) (ap is_ok a ∙ ok-none _), w)

-- ---- what an allowance alters

pub told-solve : (n : ℕ) (a b : List Float) (x work : ℕ) → Told (solve_refusal n a b x work)
unfolding solve_refusal solve_shape_refusal answered
told-solve n a b x work =
    told-given _ (a ++ b)
    (told-refuse (ltb limit n) TooMany _
    (told-refuse (not (eqb (length a) (2 * (n * n)) && (eqb x (2 * n) && eqb work (2 * (n * (n + 1)))))) WrongLength _
    (told-refuse (eqb n 0 || not (eqb (length b) (2 * n))) EmptySystem 0 refl)))

pub told-inverse : (n : ℕ) (mat : List Float) (inverse work : ℕ) → Told (inverse_refusal n mat inverse work)
unfolding inverse_refusal inverse_shape_refusal answered
told-inverse n mat inverse work =
    told-given _ mat
    (told-refuse (ltb limit n) TooMany _
    (told-refuse (not (eqb (length mat) (2 * (n * n)) && (eqb inverse (2 * (n * n)) && eqb work (4 * (n * n))))) WrongLength _
    (told-refuse (eqb n 0) EmptySystem 0 refl)))

told-small : (n : ℕ) (a b : List Float) (x work : ℕ) → solve_refusal n a b x work ≡ 18 → ⊥
unfolding solve_refusal solve_shape_refusal then_given
told-small n a b x work =
    four (ltb limit n) (not (eqb (length a) (2 * (n * n)) && (eqb x (2 * n) && eqb work (2 * (n * (n + 1)))))) (eqb n 0 || not (eqb (length b) (2 * n))) (not (all_finite (a ++ b)))
  where
    four : (s t u v : Bool) → cond (eqb (refuse s 1 (refuse t 2 (refuse u 5 0))) 0) (refuse v 19 0) (refuse s 1 (refuse t 2 (refuse u 5 0))) ≡ 18 → ⊥
    four true t u v e = omega arith
    four false true u v e = omega arith
    four false false true v e = omega arith
    four false false false true e = omega arith
    four false false false false e = omega arith

module _ (n : ℕ) (ys bs xs ws : List Float) where
  told : ℕ
  told = solve_refusal n ys bs (length xs) (length ws)

  -- a call by its refusal
  by : ℕ → AfterElimination (Result ℕ Refusal)
  unfolding told
  by number = after_elimination (answered (reductions (steps_of_solve n (entry_at n ys) (entry bs)))) told number (grid n 1 (λ (i k : ℕ). solve n (entry_at n ys) (entry bs) i)) xs ws

  by_number : (a : Allowance) → after_solve n ys bs a xs ws ≡ by (then_work told a (steps_of_solve n (entry_at n ys) (entry bs)))
  unfolding after_solve by told
  by_number a = refl

  same_number : (a b : Allowance) → then_work told b (steps_of_solve n (entry_at n ys) (entry bs)) ≡ then_work told a (steps_of_solve n (entry_at n ys) (entry bs))
      → after_solve n ys bs b xs ws ≡ after_solve n ys bs a xs ws
  same_number a b e = by_number b ∙ ap by e ∙ sym (by_number a)

  same_met : (a b : Allowance) → work_refusal b (steps_of_solve n (entry_at n ys) (entry bs)) ≡ work_refusal a (steps_of_solve n (entry_at n ys) (entry bs))
      → after_solve n ys bs b xs ws ≡ after_solve n ys bs a xs ws
  unfolding then_work
  same_met a b e = same_number a b (ap (λ (k : ℕ). cond (eqb told 0) k told) e)

  number_is : (a : Allowance) → number_of (after_solve n ys bs a xs ws).answer ≡ then_work told a (steps_of_solve n (entry_at n ys) (entry bs))
  unfolding after_solve after_elimination told
  number_is a =
      let es = steps_of_solve n (entry_at n ys) (entry bs) in
      number_of-answered (reductions es) (then_work told a es) ∙ told-work told a es (told-solve n ys bs (length xs) (length ws))

  answer-is : (a : Allowance) (r : Refusal) → then_work told a (steps_of_solve n (entry_at n ys) (entry bs)) ≡ number r → (after_solve n ys bs a xs ws).answer ≡ Err r
  unfolding after_solve after_elimination told
  answer-is a r h = ap (answered _) h ∙ answered-number _ r

  larger-solve : (a b : Allowance) → a no_more_than b → ((after_solve n ys bs a xs ws).answer ≡ Err BeyondAllowance → ⊥) → after_solve n ys bs b xs ws ≡ after_solve n ys bs a xs ws
  larger-solve a b h other =
      same_number a b (larger-call told a b h (steps_of_solve n (entry_at n ys) (entry bs))
      (λ (e : then_work told a (steps_of_solve n (entry_at n ys) (entry bs)) ≡ 18). other (answer-is a BeyondAllowance e)))

  no-eighteen : (after_solve n ys bs Unlimited xs ws).answer ≡ Err BeyondAllowance → ⊥
  unfolding told
  no-eighteen h = unlimited-call told (steps_of_solve n (entry_at n ys) (entry bs)) (told-small n ys bs (length xs) (length ws)) (sym (number_is Unlimited) ∙ ap number_of h)

-- an accepted solve
within : (n : ℕ) (ys bs : List Float) (m : ℕ) (xs ws : List Float) (rows : ℕ) → (after_solve n ys bs (Rows m) xs ws).answer ≡ Ok rows → rows ≤ m
unfolding after_solve after_elimination granted work_refusal
within n ys bs m xs ws rows h =
    let es = steps_of_solve n (entry_at n ys) (entry bs) in
    let (none, count) = accepted (tt {0}) _ _ rows (sym h) in
    let most = meets-within m es (work-accepted (solve_refusal n ys bs (length xs) (length ws)) (Rows m) es none).1 in
    omega arith

pub solve-allowances : SolveAllowances
unfolding granted work_refusal
solve-allowances = record {
  counts-pairs = solve-count;
  at_most = solve-bound;
  meets-first = λ n A b m unlost. solve-met n A b m unlost;
  within = within;
  larger = λ n ys bs a b xs ws. larger-solve n ys bs xs ws a b;
  from-bound = λ n ys bs m xs ws h. same_met n ys bs xs ws Unlimited (Rows m) (let most = solve-bound n (entry_at n ys) (entry bs) in from-count m (steps_of_solve n (entry_at n ys) (entry bs)) (omega arith));
  unlimited = no-eighteen;
}
