-- What an accepted call leaves in the present rows, or writes, is finite, and no impedance is refused whose numbers are finite.
use Rattle.std.proofs.Common.{Ok}
use Rattle.prelude.proofs.Prelude.{◌≡◌, refl, sym, ap, ◌∙◌, subst, not, is_true, List, [], ◌∷◌, ◌++◌, ℕ, zero, suc, ◌+◌, ◌*◌, arith, T, length, replicate, Float, of_bits, take_at}
use Rattle.binary64.specs.Values.{all_finite}
use Rattle.complex.specs.{Complex, plus0, cadd, cmul, of_parts, of_sum, of_difference, of_product, entry as entry_of, entry_at, zeros, rows, Matrix}
use Rattle.complex.proofs.Finite.{none, all_more, all_join, all_left, all_right, all-at}
use Rattle.complex.proofs.Matrices.{length-rows, entry-within}
use Rattle.lists.proofs.Buses.{below-up_to}
use Rattle.refusals.specs.Refusals.{limit, answered}
use Rattle.refusals.proofs.Answering as Answering
use Rattle.refusals.proofs.Answering.{accepted as accepted-by, then-none}
use Rattle.refusals.proofs.Numbers.{given-none, given-all}
use Rattle.refusals.proofs.Work.{all-finite, numbers-both, numbers-alone, then-numbers, work-met}
use Rattle.refusals.specs.declared.Allowance.TheVariants.{Unlimited}
use Rattle.refusals.specs.Work.{computing, numbers_in, work_refusal, then_work}
use Rattle.lists.specs.Buses.{place}
use Rattle.solver.specs.Solving.{is_singular, inverse}
use Rattle.solver.specs.Steps.{steps_of_inverse}
use Rattle.solver.proofs.FiniteAnswers.{inverse-regular}
use Rattle.kron_reduction.specs.declared.KronReducer.{KronReducer}
use Rattle.kron_reduction.specs.Kron.{start, remove, eliminate, carried_out}
use Rattle.kron_reduction.specs.Reducer.{record_of, active_of, row_of, numbers_of, present, input_refusal, state_of, row_major, stored, leaves, rows_of, removed_rows, after_bus, after_buses}
use Rattle.kron_reduction.specs.Reading.{reading_shape_refusal, reading_refusal, after_matrix, two, thevenin_of, of_thevenin, steps_of_impedance, impedance_told, after_impedance}
use Rattle.kron_reduction.specs.FiniteAnswers.{FiniteAnswers, AcceptedImpedance}
use Rattle.kron_reduction.proofs.States.{Accepted, taken-accepted, FiniteIn, finite-remove, finite-eliminate, rows-finite}
use Rattle.kron_reduction.proofs.Calls.{accepts-finite, shaped-has}
use Rattle.kron_reduction.proofs.Reading.{reading-accepted, reading-shaped, matrix-holds, stored-now}

pub zeros-finite : (n : ℕ) → T (all_finite (zeros n))
unfolding zeros plus0 of_bits
zeros-finite zero = none
zeros-finite (suc n) = all_more plus0 (replicate n plus0) tt (zeros-finite n)

-- the present rows of a state as record and slice hold it
pub present-laid : (n : ℕ) (ns xs : List ℕ) (len : ℕ) (Y : Matrix) → present (record_of n ns xs) (row_major len xs Y) ≡ rows Y xs xs
unfolding row_major
present-laid n ns xs len Y = take_at (rows Y xs xs) _ _ (length-rows Y xs xs)

-- ---- a making

pub finite-start : (n : ℕ) (ys : List Float) → length ys ≡ 2 * (n * n) → T (all_finite ys) → FiniteIn (start n (entry_at n ys))
unfolding entry_at entry_of
finite-start n ys e h i j x y =
    let l = entry-within n n i j (below-up_to n i x) (below-up_to n j y) in
    (all-at ys (2 * (i * n + j)) (omega arith) h, all-at ys (2 * (i * n + j) + 1) (omega arith) h)

-- ---- removals

present-left : (r : KronReducer) (ys : List Float) (ks : List ℕ) → T (all_finite (present r ys)) → Accepted (state_of r ys) ks
    → T (all_finite (present (leaves r ys ks).rec (leaves r ys ks).slice))
unfolding leaves stored
present-left r ys [] h ok = h
present-left r ys (k ∷ ks) h ok =
    let s = eliminate (state_of r ys) (k ∷ ks) in
    subst (λ (l : List Float). T (all_finite l)) (sym (present-laid r.made (numbers_of r) s.active (2 * (r.made * r.made)) s.entries))
    (rows-finite s (unfold eliminate in finite-eliminate (remove (state_of r ys) k) ks (finite-remove (state_of r ys) k ok.0) ok.1))

-- ---- each call

left-finite : (r : KronReducer) (ys : List Float) (ks : List ℕ) → input_refusal r ys (length ks) ≡ 0
    → T (all_finite (present (leaves r ys (removed_rows r ys ks)).rec (leaves r ys (removed_rows r ys ks)).slice))
unfolding removed_rows
left-finite r ys ks e = rw e (present-left r ys (carried_out (state_of r ys) (rows_of r ks)) (accepts-finite r ys (length ks) e) (taken-accepted (state_of r ys) (rows_of r ks)))

written-finite : (r : KronReducer) (ys os : List Float) → length r.active_buses ≡ limit → reading_refusal 2 r ys (length os) ≡ 0 → T (all_finite (after_matrix r ys os).out)
unfolding after_matrix reading_refusal
written-finite r ys os full e =
    let shaped = reading-shaped 2 r ys (length os) e in
    let n = r.n_buses in
    let h = matrix-holds r ys os e full in
    rw e
    (subst (λ (l : List Float). T (all_finite l)) (stored-now r ys (shaped-has r ys 0 (reading-accepted 2 r ys (length os) shaped).1).slice h)
    (all_join (present r ys) _ (given-none (reading_shape_refusal 2 r ys (length os)) (present r ys) e).1 (zeros-finite _)))

across-finite : (told n : ℕ) (Y : Matrix) (p q : ℕ) → then_work told Unlimited (steps_of_impedance n Y p q) ≡ 0 → T (all_finite (of_parts (thevenin_of (inverse n Y) p q)))
unfolding then_work work_refusal steps_of_impedance of_thevenin thevenin_of
across-finite told n Y p q e =
    let Z = inverse n Y in let twice : Complex = record { re = two; im = plus0 } in
    let met = (then-none told _ e).1 in
    let all = all-finite _ (steps_of_inverse n Y ++ computing (of_thevenin Z p q)) met in
    let numbers = subst (λ (l : List Float). T (all_finite l)) (numbers-both (steps_of_inverse n Y) (computing (of_thevenin Z p q)) ∙ ap (λ (l : List Float). numbers_in (steps_of_inverse n Y) ++ l) (numbers-alone (of_thevenin Z p q))) all in
    all_right (of_sum (Z p p) (Z q q) ++ of_product twice (Z p q)) (of_difference (cadd (Z p p) (Z q q)) (cmul twice (Z p q))) (all_right (numbers_in (steps_of_inverse n Y)) (of_thevenin Z p q) numbers)

answered-finite : (r : KronReducer) (ys : List Float) (a b : ℕ) (ws : List Float) (z : Complex) → (after_impedance r ys a b ws).answer ≡ Ok z → T (all_finite (of_parts z))
unfolding after_impedance
answered-finite r ys a b ws z e =
    let (none, same) = accepted-by (tt {0}) _ _ z (sym e) in
    subst (λ (c : Complex). T (all_finite (of_parts c))) (sym same) (across-finite (impedance_told (reading_refusal 4 r ys (length ws)) (active_of r) (row_of r a) (row_of r b)) r.n_buses (entry_at r.n_buses ys) (place (row_of r a) (active_of r)) (place (row_of r b) (active_of r)) none)

pub finite-answers : FiniteAnswers
unfolding after_bus after_buses
finite-answers r ys full = record {
  removals = λ (ks : List ℕ) (e : input_refusal r ys (length ks) ≡ 0). left-finite r ys ks e;
  removal = λ (k : ℕ) (e : input_refusal r ys 1 ≡ 0). left-finite r ys (k ∷ []) e;
  matrix = λ (os : List Float) (e : reading_refusal 2 r ys (length os) ≡ 0). written-finite r ys os full e;
  impedance = λ (a b : ℕ) (ws : List Float) (z : Complex) (e : (after_impedance r ys a b ws).answer ≡ Ok z). answered-finite r ys a b ws z e;
}

-- ---- what is accepted

accepted-across : (n : ℕ) (Y : Matrix) (p q : ℕ) → T (all_finite (numbers_in (steps_of_impedance n Y p q))) → T (not (is_singular n Y)) → work_refusal Unlimited (steps_of_impedance n Y p q) ≡ 0
unfolding steps_of_impedance
accepted-across n Y p q f r =
    let es = steps_of_inverse n Y in let xs = of_thevenin (inverse n Y) p q in
    let both : T (all_finite (numbers_in es ++ xs)) = subst (λ (l : List Float). T (all_finite l)) (numbers-both es (computing xs) ∙ ap (λ (l : List Float). numbers_in es ++ l) (numbers-alone xs)) f in
    then-numbers es xs ∙ rw (inverse-regular n Y (all_left (numbers_in es) xs both) r, is_true (all_finite xs) (all_right (numbers_in es) xs both))

accepted : (r : KronReducer) (ys : List Float) (a b : ℕ) (ws : List Float) → let n = r.n_buses in let Y = entry_at n ys in let p = place (row_of r a) (active_of r) in let q = place (row_of r b) (active_of r) in
    impedance_told (reading_shape_refusal 4 r ys (length ws)) (active_of r) (row_of r a) (row_of r b) ≡ 0 → T (all_finite (present r ys)) → T (all_finite (numbers_in (steps_of_impedance n Y p q))) → T (not (is_singular n Y))
    → after_impedance r ys a b ws ≡ record { answer = Ok (thevenin_of (inverse n Y) p q); work = zeros (length ws) }
unfolding after_impedance impedance_told reading_refusal answered
accepted r ys a b ws told given computed regular =
    let n = r.n_buses in let Y = entry_at n ys in let p = place (row_of r a) (active_of r) in let q = place (row_of r b) (active_of r) in
    let (shape, active) = then-none (reading_shape_refusal 4 r ys (length ws)) _ told in
    let none = (accepted-by (tt {0}) (tt {0}) _ tt (given-all (tt {0}) (tt {0}) (reading_shape_refusal 4 r ys (length ws)) (present r ys) tt (Answering.none (tt {0}) _ shape) (is_true (all_finite (present r ys)) given))).0 in
    rw (none, active, work-met 0 Unlimited (steps_of_impedance n Y p q) refl, accepted-across n Y p q computed regular)

-- `search` takes the part of a premise that is wanted: one that says more has it too
pub accepted-impedance : AcceptedImpedance
accepted-impedance r ys a b ws told given computed regular = accepted r ys a b ws (search told) (search given) (search computed) (search regular)
