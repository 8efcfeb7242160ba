-- An accepted solve or inverse is finite throughout, and nothing finite is refused.
--     run-finite   where a matrix and every number that its elimination computes are finite, so is the matrix that is left
--     run-regular  where every number is finite and no pivot too small, an elimination meets nothing but 18
use Rattle.prelude.proofs.Prelude.{◌≡◌, refl, sym, ap, ◌∙◌, subst, Bool, true, false, not, ◌||◌, cond, List, [], ◌∷◌, ◌++◌, ℕ, zero, suc, ◌+◌, ◌-◌, ◌≤◌, ◌<◌, arith, T, eqb, ltb, length, Float, eqb-true, le-ltb, is_true}
use Rattle.std.proofs.Common.{Ok}
use Rattle.binary64.specs.Values.{all_finite}
use Rattle.complex.specs.{cmul, csub, complex_inv, unit, of_quotient, of_sqmag, entry, entry_at, grid, zeros, Matrix}
use Rattle.complex.proofs.Finite.{all_left, all_right}
use Rattle.complex.proofs.Sticky.{Finite}
use Rattle.complex.proofs.FiniteEntries.{Each, each_at, AllFinite, grid-finite, slice-entries}
use Rattle.lists.specs.Buses.{up_to}
use Rattle.refusals.specs.declared.Allowance.{Allowance}
use Rattle.refusals.specs.declared.Allowance.TheVariants.{Unlimited, Rows}
use Rattle.refusals.specs.Refusals.{answered, then_given}
use Rattle.refusals.specs.Work.{Step, reduces, pivot_too_small, computing, numbers_in, reductions, meets, granted, work_refusal, then_work, ◌no_more_than◌}
use Rattle.refusals.proofs.Answering.{accepted}
use Rattle.refusals.proofs.Work.{numbers-both, numbers-alone, work-accepted, work-met, finite-unlost}
use Rattle.solver.specs.GaussJordan.{scaled, reduced, pivoted, cleared, gauss_jordan_from, gauss_jordan, pairs, augmented}
use Rattle.solver.specs.Solving.{operations, is_singular, solve, inverse, unit_column}
use Rattle.solver.specs.Steps.{workings, of_search, of_scaling, of_reducing, steps_of_row, steps_of_rows, steps_from, steps_of_run, steps_of_solve, steps_of_inverse}
use Rattle.solver.specs.Calls.{after_elimination, solve_shape_refusal, solve_refusal, inverse_shape_refusal, inverse_refusal, after_solve, after_inverse}
use Rattle.solver.specs.FiniteAnswers.{FiniteSolve, FiniteInverse, FiniteAnswers, AcceptedAnswers}
use Rattle.solver.proofs.GaussJordan.{column-alone, augmented-singular}
use Rattle.solver.proofs.Steps.{met_by, run-count, run-met}
use Rattle.solver.proofs.FiniteWork.{swapped-finite, each-scaling, each-reducing}
use Rattle.solver.proofs.Solutions.{augmented-finite, side-finite, identity-finite}
use Rattle.solver.proofs.Accepted.{solve-accepted, inverse-accepted}

-- ---- one column

module _ (n w c : ℕ) (B : Matrix) (here : c < n) (f : AllFinite n w B) where
  scaled-finite : T (all_finite (of_scaling operations workings B c (up_to w))) → AllFinite n w (scaled operations c B)
  unfolding scaled
  scaled-finite h i j x y = pick (eqb i c) refl
    where
      pick : (b : Bool) → eqb i c ≡ b → Finite (cond b (cmul (B i j) (complex_inv (B c c))) (B i j))
      pick true t = subst (λ (k : ℕ). Finite (cmul (B k j) (complex_inv (B c c)))) (sym (eqb-true i c t)) (each_at (λ (k : ℕ). Finite (cmul (B c k) (complex_inv (B c c)))) w (each-scaling B c (up_to w) h) j y)
      pick false t = f i j x y

each_row : (C : Matrix) (c : ℕ) (js is : List ℕ) → T (all_finite (numbers_in (steps_of_rows operations workings C c is js)))
    → Each (λ (i : ℕ). T (all_finite (numbers_in (steps_of_row operations workings C c i js)))) is
unfolding steps_of_rows
each_row C c js [] h = tt
each_row C c js (i ∷ is) h =
    let first = numbers_in (steps_of_row operations workings C c i js) in
    let later = numbers_in (steps_of_rows operations workings C c is js) in
    let both : T (all_finite (first ++ later)) = subst (λ (l : List Float). T (all_finite l)) (numbers-both (steps_of_row operations workings C c i js) (steps_of_rows operations workings C c is js)) h in
    (all_left first later both, each_row C c js is (all_right first later both))

reduced-finite : (n w c : ℕ) (C : Matrix) → AllFinite n w C → T (all_finite (numbers_in (steps_of_rows operations workings C c (up_to n) (up_to w)))) → AllFinite n w (reduced operations c C)
unfolding reduced steps_of_row numbers_in
reduced-finite n w c C f h i j x y = pick (eqb i c || operations.skips (C i c)) (each_at _ n (each_row C c (up_to w) (up_to n) h) i x)
  where
    pick : (b : Bool) → T (all_finite (numbers_in (cond b [] (reduces ∷ computing (of_reducing operations workings C c i (up_to w)))))) → Finite (cond b (C i j) (csub (C i j) (cmul (C i c) (C c j))))
    pick true k = f i j x y
    pick false k =
        each_at (λ (q : ℕ). Finite (csub (C i q) (cmul (C i c) (C c q)))) w
        (each-reducing C c i (up_to w) (subst (λ (l : List Float). T (all_finite l)) (numbers-alone (of_reducing operations workings C c i (up_to w))) k)) j y

-- ---- all columns

run-from-finite : (n w count c : ℕ) → c + count ≤ n → (A : Matrix) → AllFinite n w A → T (all_finite (numbers_in (steps_from operations workings n w count c A)))
    → AllFinite n w (gauss_jordan_from operations n count c A).left
unfolding gauss_jordan_from steps_from cleared
run-from-finite n w zero c l A f h = f
run-from-finite n w (suc count) c l A f h =
    go (operations.small (pivoted operations n c A c c)) (back (computing front) rest h) (run-from-finite n w count (suc c) (omega arith) (cleared operations c (pivoted operations n c A)))
  where
    here : c < n
    here = omega arith

    B : Matrix
    B = pivoted operations n c A

    front : List Float
    front = of_search operations workings A c c (suc c) (n - suc c) ++ of_sqmag (pivoted operations n c A c c)

    xs : List Float
    xs = of_quotient unit (pivoted operations n c A c c) ++ of_scaling operations workings (pivoted operations n c A) c (up_to w)

    rows : List Step
    rows = steps_of_rows operations workings (scaled operations c (pivoted operations n c A)) c (up_to n) (up_to w)

    later : List Step
    later = steps_from operations workings n w count (suc c) (cleared operations c (pivoted operations n c A))

    rest : List Step
    rest = cond (operations.small (pivoted operations n c A c c)) (pivot_too_small ∷ []) (computing xs ++ (rows ++ later))

    back : (es fs : List Step) → T (all_finite (numbers_in (es ++ fs))) → T (all_finite (numbers_in fs))
    back es fs k = all_right (numbers_in es) (numbers_in fs) (subst (λ (l : List Float). T (all_finite l)) (numbers-both es fs) k)

    ahead : (es fs : List Step) → T (all_finite (numbers_in (es ++ fs))) → T (all_finite (numbers_in es))
    ahead es fs k = all_left (numbers_in es) (numbers_in fs) (subst (λ (l : List Float). T (all_finite l)) (numbers-both es fs) k)

    go : (b : Bool) → T (all_finite (numbers_in (cond b (pivot_too_small ∷ []) (computing (of_quotient unit (pivoted operations n c A c c) ++ of_scaling operations workings (pivoted operations n c A) c (up_to w))
        ++ (steps_of_rows operations workings (scaled operations c (pivoted operations n c A)) c (up_to n) (up_to w) ++ steps_from operations workings n w count (suc c) (cleared operations c (pivoted operations n c A)))))))
        → (AllFinite n w (cleared operations c (pivoted operations n c A)) → T (all_finite (numbers_in (steps_from operations workings n w count (suc c) (cleared operations c (pivoted operations n c A)))))
        → AllFinite n w (gauss_jordan_from operations n count (suc c) (cleared operations c (pivoted operations n c A))).left)
        → AllFinite n w (cond b (record { singular = true; left = pivoted operations n c A }) (gauss_jordan_from operations n count (suc c) (cleared operations c (pivoted operations n c A)))).left
    go true k next = swapped-finite n w c A here f
    go false k next =
        let numbers : T (all_finite xs) = subst (λ (l : List Float). T (all_finite l)) (numbers-alone xs) (ahead (computing xs) (rows ++ later) k) in
        let both = back (computing xs) (rows ++ later) k in
        let g = scaled-finite n w c (pivoted operations n c A) here (swapped-finite n w c A here f)
        (all_right (of_quotient unit (pivoted operations n c A c c)) (of_scaling operations workings (pivoted operations n c A) c (up_to w)) numbers) in
        next (reduced-finite n w c (scaled operations c (pivoted operations n c A)) g (ahead rows later both)) (back rows later both)

pub run-finite : (n w : ℕ) (A : Matrix) → AllFinite n w A → T (all_finite (numbers_in (steps_of_run operations workings n w A))) → AllFinite n w (gauss_jordan operations n A).left
unfolding gauss_jordan steps_of_run
run-finite n w A f h = run-from-finite n w n 0 (omega arith) A f h

-- the solutions for right sides B
pub solutions-finite : (n m : ℕ) (A B : Matrix) → AllFinite n n A → AllFinite n m B → T (all_finite (numbers_in (steps_of_run operations workings n (n + m) (augmented operations n A B))))
    → AllFinite n m (λ (i c : ℕ). solve n A (λ (r : ℕ). B r c) i)
solutions-finite n m A B a b h i c x y =
    subst Finite (column-alone operations n A B i c x) (run-finite n (n + m) (augmented operations n A B) (augmented-finite n m A B a b) h i (n + c) x (omega arith))

-- ---- the calls

finite-solve : (n : ℕ) (a b : List Float) (allowance : Allowance) (x work : List Float) (rows : ℕ)
    → (after_solve n a b allowance x work).answer ≡ Ok rows → FiniteSolve n a b (after_solve n a b allowance x work).output
unfolding after_solve after_elimination steps_of_solve
finite-solve n a b allowance x work rows e =
    let told = solve_refusal n a b (length x) (length work) in
    let steps = steps_of_solve n (entry_at n a) (entry b) in
    let none = (accepted (tt {0}) _ (then_work told allowance steps) rows (sym e)).0 in
    let (accepted, met, all) = work-accepted told allowance steps none in
    let k = solve-accepted n a b (length x) (length work) accepted in
    let s = k.shape in
    record {
      system = k.system-finite;
      right_side = k.right-finite;
      computed = all;
      written = subst (λ (t : ℕ). T (all_finite (cond (eqb t 0) (grid n 1 (λ (i j : ℕ). solve n (entry_at n a) (entry b) i)) x))) (sym none)
          (grid-finite n 1 _ (solutions-finite n 1 (entry_at n a) (λ (r j : ℕ). entry b r) (slice-entries n n a s.matrix k.system-finite) (side-finite n b s.right k.right-finite) all));
    }

finite-inverse : (n : ℕ) (mat out work : List Float) → (after_inverse n mat out work).answer ≡ Ok tt → FiniteInverse n mat (after_inverse n mat out work).output
unfolding after_inverse after_elimination steps_of_inverse
finite-inverse n mat out work e =
    let told = inverse_refusal n mat (length out) (length work) in
    let steps = steps_of_inverse n (entry_at n mat) in
    let none = (accepted (tt {0}) _ (then_work told Unlimited steps) tt (sym e)).0 in
    let (accepted, met, all) = work-accepted told Unlimited steps none in
    let (s, f) = inverse-accepted n mat (length out) (length work) accepted in
    record {
      matrix = f;
      computed = all;
      written = subst (λ (t : ℕ). T (all_finite (cond (eqb t 0) (grid n n (inverse n (entry_at n mat))) out))) (sym none)
          (grid-finite n n (inverse n (entry_at n mat)) (solutions-finite n n (entry_at n mat) (λ (r k : ℕ). unit_column k r) (slice-entries n n mat s.matrix f) (identity-finite n n) all));
    }

pub finite-answers : FiniteAnswers
finite-answers = record { solve = finite-solve; inverse = finite-inverse }

-- ---- what is accepted

given-finite : (told : ℕ) (given : List Float) → told ≡ 0 → T (all_finite given) → then_given told given ≡ 0
unfolding then_given
given-finite told given e h = rw (e, is_true (all_finite given) h)

-- an elimination with right sides R
module _ (n w : ℕ) (A R : Matrix) where
  abbrev run : List Step
  run = steps_of_run operations workings n w (augmented operations n A R)

  run-regular : T (all_finite (numbers_in (steps_of_run operations workings n w (augmented operations n A R)))) → T (not (is_singular n A)) → (m : ℕ) → meets m run ≡ cond (ltb m (reductions run)) 18 0
  run-regular f r m =
      run-met operations workings n w (augmented operations n A R) m (finite-unlost (reductions run) run f)
      ∙ ap (met_by m (pairs operations n (augmented operations n A R))) (augmented-singular operations n A R ∙ is_false (is_singular n A) r)
      ∙ ap (λ (k : ℕ). cond (ltb m k) 18 0) (sym (run-count operations workings n w (augmented operations n A R)))
    where
      is_false : (b : Bool) → T (not b) → b ≡ false
      is_false true t = absurd t
      is_false false t = refl

enough : (a : Allowance) (es : List Step) → ((m : ℕ) → meets m es ≡ cond (ltb m (reductions es)) 18 0) → Rows (reductions es) no_more_than a → work_refusal a es ≡ 0
unfolding work_refusal granted ◌no_more_than◌
enough Unlimited es h k = h (reductions es) ∙ ap (λ (b : Bool). cond b 18 0) (le-ltb (reductions es) (reductions es) (omega arith))
enough (Rows m) es h k = h m ∙ ap (λ (b : Bool). cond b 18 0) (le-ltb m (reductions es) k)

pub inverse-regular : (n : ℕ) (A : Matrix) → T (all_finite (numbers_in (steps_of_inverse n A))) → T (not (is_singular n A)) → work_refusal Unlimited (steps_of_inverse n A) ≡ 0
unfolding steps_of_inverse ◌no_more_than◌
inverse-regular n A f r = enough Unlimited (steps_of_inverse n A) (run-regular n (n + n) A (λ (i k : ℕ). unit_column k i) f r) tt

accepted-solve : (n : ℕ) (a b : List Float) (allowance : Allowance) (x work : List Float) → solve_shape_refusal n (length a) (length b) (length x) (length work) ≡ 0
    → T (all_finite (a ++ b)) → T (all_finite (numbers_in (steps_of_solve n (entry_at n a) (entry b)))) → T (not (is_singular n (entry_at n a)))
    → Rows (reductions (steps_of_solve n (entry_at n a) (entry b))) no_more_than allowance
    → after_solve n a b allowance x work ≡ record { answer = Ok (reductions (steps_of_solve n (entry_at n a) (entry b))); output = grid n 1 (λ (i k : ℕ). solve n (entry_at n a) (entry b) i); work = zeros (length work) }
unfolding after_solve after_elimination solve_refusal steps_of_solve answered
accepted-solve n a b allowance x work shape given computed regular much =
    let steps = steps_of_solve n (entry_at n a) (entry b) in
    let told = solve_refusal n a b (length x) (length work) in
    let none : told ≡ 0 = given-finite (solve_shape_refusal n (length a) (length b) (length x) (length work)) (a ++ b) shape given in
    let met : work_refusal allowance steps ≡ 0 = enough allowance steps (run-regular n (n + 1) (entry_at n a) (λ (r k : ℕ). entry b r) computed regular) much in
    rw (work-met told allowance steps none, none, met)

accepted-inverse : (n : ℕ) (mat out work : List Float) → inverse_shape_refusal n (length mat) (length out) (length work) ≡ 0
    → T (all_finite mat) → T (all_finite (numbers_in (steps_of_inverse n (entry_at n mat)))) → T (not (is_singular n (entry_at n mat)))
    → after_inverse n mat out work ≡ record { answer = Ok tt; output = grid n n (inverse n (entry_at n mat)); work = zeros (length work) }
unfolding after_inverse after_elimination inverse_refusal answered
accepted-inverse n mat out work shape given computed regular =
    let steps = steps_of_inverse n (entry_at n mat) in
    let told = inverse_refusal n mat (length out) (length work) in
    let none : told ≡ 0 = given-finite (inverse_shape_refusal n (length mat) (length out) (length work)) mat shape given in
    rw (work-met told Unlimited steps none, none, inverse-regular n (entry_at n mat) computed regular)

-- `search` takes the part of a premise that is wanted: one that says more has it too
pub accepted-answers : AcceptedAnswers
accepted-answers = record {
  accepted-solve = λ n a b allowance x work shape given computed regular much.
      accepted-solve n a b allowance x work (search shape) (search given) (search computed) (search regular) (search much);
  accepted-inverse = λ n mat out work shape given computed regular. accepted-inverse n mat out work (search shape) (search given) (search computed) (search regular);
}
