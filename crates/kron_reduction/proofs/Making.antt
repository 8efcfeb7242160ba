-- What `new` answers and what a record's tests say, from the tests that the code makes.
use Rattle.std.specs.Result.{result_unwrap_or}
use Rattle.std.proofs.Common.{Result, Ok, Err}
use Rattle.prelude.proofs.Prelude.{cond, zero, suc, ◌≡◌, refl, sym, ap, ◌∙◌, false, not, ◌||◌, List, [], ℕ, ◌*◌, ◌≤◌, T, eqb, ltb, length, Float, is_true, ltb-false}
use lib.Dec.{eqb-suc-zero}
use Rattle.lists.specs.Buses.{up_to, repeats}
use Rattle.refusals.specs.Refusals.{limit, answered, outcome}
use Rattle.refusals.proofs.Refusing.{refusing}
use Rattle.refusals.proofs.Answering.{accepted, carried, none, passed, accepting}
use Rattle.refusals.proofs.Numbers.{given-none, given-all}
use Rattle.binary64.specs.Values.{all_finite, F64s}
use Rattle.lists.proofs.Buses.{neither}
use Rattle.refusals.specs.declared.Refusal.{Refusal}
use Rattle.kron_reduction.specs.declared.KronReducer.{KronReducer}
use Rattle.kron_reduction.specs.Reducer.{ReducerInput, reducer_input_of, making_shape_refusal, making_refusal, record_of, after_new, made}

-- ---- the refusals

shape-none : (n : ℕ) (ys : List Float) (ns : List ℕ) → n ≤ limit → length ns ≤ limit → length ys ≡ 2 * (n * n) → length ns ≡ n → repeats ns ≡ false
    → 0 ≡ making_shape_refusal (reducer_input_of n ys ns)
unfolding making_shape_refusal
shape-none n ys ns a b e l d = search refusing depth 9

pub making-none : (n : ℕ) (ys : List Float) (ns : List ℕ) → n ≤ limit → length ns ≤ limit → length ys ≡ 2 * (n * n) → length ns ≡ n → repeats ns ≡ false
    → T (all_finite ys) → 0 ≡ making_refusal (reducer_input_of n ys ns)
unfolding making_refusal
making-none n ys ns a b e l d h = sym (accepted (tt {0}) (tt {0}) _ tt (given-all (tt {0}) (tt {0}) _ ys tt (none (tt {0}) _ (sym (shape-none n ys ns a b e l d))) (is_true (all_finite ys) h))).0

-- what an accepted making has
pub record Makes (n : ℕ) (ys : List Float) (ns : List ℕ) : Type 0 where
  pub size : n ≤ limit
  pub slice : length ys ≡ 2 * (n * n)
  pub many : length ns ≡ n
  pub distinct : repeats ns ≡ false
  pub numbers : T (all_finite ys)

pub makes-has : (n : ℕ) (ys : List Float) (ns : List ℕ) → making_refusal (reducer_input_of n ys ns) ≡ 0 → Makes n ys ns
unfolding making_refusal making_shape_refusal
makes-has n ys ns h =
    let (e, finite) = given-none (making_shape_refusal (reducer_input_of n ys ns)) ys h in
    let (many, e2) = passed (ltb limit n || ltb limit (length ns)) 0 _ e in
    let (sizes, e8) = passed (not (eqb (length ys) (2 * (n * n))) || not (eqb (length ns) n)) 1 _ e2 in
    let (twice, _) = passed (repeats ns) 7 _ e8 in
    let (size, _) = neither (ltb limit n) _ many in
    let (slice, count) = neither (not (eqb (length ys) (2 * (n * n)))) _ sizes in
    search (accepting, ltb-false)

module _ (n : ℕ) (ys : List Float) (ns : List ℕ) where
  pub new-refused : (f : Refusal) → Err f ≡ outcome (making_refusal (reducer_input_of n ys ns)) → Err f ≡ after_new (reducer_input_of n ys ns)
  unfolding after_new
  new-refused f e = carried (record_of n ns (up_to n)) (tt {0}) (making_refusal (reducer_input_of n ys ns)) f e

  pub new-done : (r : KronReducer) → Ok tt ≡ outcome (making_refusal (reducer_input_of n ys ns)) → r ≡ record_of (length ns) ns (up_to (length ns)) → Ok r ≡ after_new (reducer_input_of n ys ns)
  unfolding after_new
  new-done r e s =
      let z = (accepted (tt {0}) (tt {0}) (making_refusal (reducer_input_of n ys ns)) tt e).0 in
      ap Ok (s ∙ ap (λ (m : ℕ). record_of m ns (up_to m)) (makes-has n ys ns z).many) ∙ none (record_of n ns (up_to n)) (making_refusal (reducer_input_of n ys ns)) z

-- ---- the record of a making

-- the record that removals begin with is the one answered
pub made-answered : (M : ReducerInput) → after_new M ≡ answered (made M) (making_refusal M)
unfolding after_new made answered
made-answered M = go (making_refusal M)
  where
    go : (f : ℕ) → answered (record_of M.size M.numbers (up_to M.size)) f ≡ answered (cond (eqb f 0) (record_of M.size M.numbers (up_to M.size)) (record_of 0 [] [])) f
    go zero = refl
    go (suc f) = refl

-- what the answer, and the record of no bus after a refusal, make
made-or : (M : ReducerInput) (answer : Result KronReducer Refusal) → answer ≡ after_new M → result_unwrap_or answer (record_of 0 [] []) ≡ made M
unfolding made answered
made-or M answer e = rw (e, made-answered M) (go (making_refusal M))
  where
    go : (f : ℕ) → result_unwrap_or (answered (cond (eqb f 0) (record_of M.size M.numbers (up_to M.size)) (record_of 0 [] [])) f) (record_of 0 [] [])
        ≡ cond (eqb f 0) (record_of M.size M.numbers (up_to M.size)) (record_of 0 [] [])
    go zero = refl
    go (suc f) = rw eqb-suc-zero refl

pub new-answers : (M : ReducerInput) (answer : Result KronReducer Refusal) → answer ≡ after_new M → F64s M.given
    → (answer ≡ after_new M) × F64s M.given × (result_unwrap_or answer (record_of 0 [] []) ≡ made M)
new-answers M answer e f = (e, f, made-or M answer e)
