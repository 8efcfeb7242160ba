-- The claims on runs, from the law of the drops and the claims on lists of calls.
use Rattle.std.proofs.Common.{Some, Ok, Err}
use Rattle.prelude.proofs.Prelude.{◌≡◌, refl, sym, ap, ◌∙◌, subst, List, [], ◌∷◌, ℕ, ◌+◌, ◌*◌, ◌≤◌, arith, length, length-drop}
use mathlib.Core.Path.{subst₂}
use Rattle.binary64.specs.Values.{F64s}
use Rattle.lists.specs.Buses.{rows_in}
use Rattle.kron_reduction.specs.declared.KronReducer.{KronReducer}
use Rattle.kron_reduction.specs.Reducer.{AcceptedMaking, record_of, made as record_made, ReducerState, stored}
use Rattle.kron_reduction.specs.Reading.{active_numbers}
use Rattle.claims.specs.Accounts.{left_from, left, fresh, account_from, kept, numbers_at}
use Rattle.claims.specs.Finite.{Finite}
use Rattle.claims.specs.Removals.{Unchanged, Independent}
use Rattle.claims.proofs.Bridge.{account-numbers, left_is, kept-state}
use Rattle.claims.proofs.ByNumber.{removed-are as by_number, kept-numbers}
use Rattle.claims.proofs.Removals.{removals}
use Rattle.reduce_text.specs.Reading.{End}
use Rattle.reduce_text.specs.declared.read.Trouble.TheVariants.{BadLine}
use Rattle.text_numbers.specs.Bytes.{Bytes}
use Rattle.reduce_text.specs.Lines.{lines, buses_of}
use Rattle.reduce_text.specs.Reading.{most, drops, finish, first, run_of}
use Rattle.reduce_text.specs.Printing.{text, text_of, kept_text}
use Rattle.reduce_text.specs.Reduce.{printed}
use Rattle.reduce_text.proofs.Fit.{Names, making-accepted}
use Rattle.program_claims.specs.Inputs.{or_none, dropped, calls_of, first_line, size_of, behind_first, behind_numbers, bus_numbers, entry_count, entry_part, drop_part, making_in, calls, account_of, IsKept, state_left}
use Rattle.program_claims.specs.Runs.{DropsAreCalls, ProgramClaims}
use Rattle.program_claims.proofs.Calls.{at-end, end_of, held_of, drops-calls, first-buses, f64s, all-finite}
use Rattle.program_claims.proofs.Dropped.{drops-removed}

-- ---- one input

-- what is printed of a run that is kept
kept-text : (input : Bytes) → IsKept input → printed input ≡ kept_text (state_left input).rec (state_left input).slice
unfolding printed text text_of state_left
kept-text input h = ap (λ (e : End). text_of e (run_of input).reading.rec (run_of input).numbers) h

-- numbers, entries and drops of the whole input
pub record AsRead (input : Bytes) : Type 0 where
  pub size : buses_of (first_line input) ≡ Some (size_of input)
  pub small : size_of input ≤ most
  pub there : 1 + size_of input + entry_count input ≤ length (lines input)
  pub names : Names (size_of input) (bus_numbers input)
  pub numbers : length (making_in input).given ≡ 2 * entry_count input
  pub place : ℕ
  pub then : run_of input ≡ drops finish place (record_made (making_in input)) (making_in input).given (drop_part input)

as_read : (input : Bytes) (ls : List Bytes) → lines input ≡ ls → IsKept input → AsRead input
unfolding run_of size_of making_in bus_numbers
as_read input [] e h = absurd (at-end (Err (BadLine 1)) (unfold first in rw e at h))
as_read input (l ∷ ls) e h =
    let a = first-buses l ls (rw e at h) in
    record {
      size = rw e a.size;
      small = rw e a.small;
      there = rw e (omega (arith, a.named.there, a.named.made.there, length-drop (or_none (buses_of l)) ls));
      names = rw e a.named.names;
      numbers = rw e a.named.made.numbers;
      place = a.named.made.place;
      then = rw e a.named.made.then;
    }

module _ (input : Bytes) (h : IsKept input) where
  abbrev given : AsRead input
  given = as_read input (lines input) refl h

  abbrev at-drops : end_of (drops finish given.place (record_made (making_in input)) (making_in input).given (drop_part input)) ≡ Ok tt
  at-drops = ap end_of (sym given.then) ∙ h

  is_made : AcceptedMaking (making_in input)
  unfolding making_in
  is_made = rw (making-accepted (size_of input) (bus_numbers input) (making_in input).given given.small given.names given.numbers (all-finite (entry_part input))) tt

  ends : state_left input ≡ left (making_in input) (calls input)
  unfolding state_left left calls
  ends = ap held_of given.then ∙ (drops-calls given.place (record_made (making_in input)) (making_in input).given (drop_part input) at-drops).ends

  all_lines : 1 + size_of input + entry_count input + length (calls input) ≡ length (lines input)
  unfolding calls
  all_lines = omega (
    arith,
    (drops-calls given.place (record_made (making_in input)) (making_in input).given (drop_part input) at-drops).all_lines,
    given.there,
    length-drop (entry_count input) (behind_numbers input),
    length-drop (size_of input) (behind_first input),
    length-drop 1 (lines input),
  )

  pub drops-are : DropsAreCalls input
  drops-are = record {
    size = given.size;
    made = is_made;
    all_lines = all_lines;
    ends = ends;
    prints = kept-text input h ∙ ap (λ (x : ReducerState). kept_text x.rec x.slice) ends;
  }

pub removed-are : (input : Bytes) → IsKept input → (account_of input).removed ≡ rows_in (bus_numbers input) (dropped (drop_part input))
unfolding calls calls_of left left_from fresh account_from making_in
removed-are input h = drops-removed (making_in input) (is_made input h) (given input h).place [] (drop_part input) (at-drops input h)

-- told by number, they are those of the drop lines
pub numbers-are : (input : Bytes) → IsKept input → numbers_at (account_of input) (account_of input).removed ≡ dropped (drop_part input)
numbers-are input h =
    by_number (making_in input) (calls input) (is_made input h) (dropped (drop_part input))
    (removed-are input h ∙ ap (λ (ns : List ℕ). rows_in ns (dropped (drop_part input))) (sym (account-numbers (fresh (making_in input)) (calls input) ∙ unfold fresh making_in in refl)))

-- the record is that of the kept buses
pub buses-are : (input : Bytes) → IsKept input → (run_of input).reading.rec ≡ record_of (size_of input) (bus_numbers input) (kept (account_of input))
unfolding state_left stored
buses-are input h =
    let d = drops-are input h in
    ap (λ (x : ReducerState). x.rec) (d.ends ∙ left_is (making_in input) (calls input) d.made)
    ∙ unfold making_in in ap (record_of (size_of input) (bus_numbers input)) (kept-state (account_of input))

pub kept-numbers-are : (input : Bytes) → IsKept input → active_numbers (run_of input).reading.rec ≡ numbers_at (account_of input) (kept (account_of input))
unfolding state_left
kept-numbers-are input h =
    let d = drops-are input h in
    ap (λ (x : ReducerState). active_numbers x.rec) d.ends ∙ kept-numbers (making_in input) (calls input) d.made

pub prints : (input : Bytes) → IsKept input → printed input ≡ kept_text (record_of (size_of input) (bus_numbers input) (kept (account_of input))) (run_of input).numbers
unfolding state_left
prints input h = kept-text input h ∙ ap (λ (r : KronReducer). kept_text r (run_of input).numbers) (buses-are input h)

given-f64s : (input : Bytes) → F64s (making_in input).given
unfolding making_in
given-f64s input = f64s (entry_part input)

pub unchanged : (input : Bytes) → IsKept input → Unchanged (account_of input) (state_left input)
unchanged input h =
    subst (λ (x : ReducerState). Unchanged (account_of input) x) (sym (drops-are input h).ends)
    (removals.unchanged (making_in input) (calls input) (given-f64s input) (is_made input h))

-- ---- two inputs

pub independent : (input input' : Bytes) → IsKept input → IsKept input'
    → Independent (account_of input) (state_left input) (account_of input') (state_left input')
independent input input' h h' =
    subst₂ (λ (x x' : ReducerState). Independent (account_of input) x (account_of input') x') (sym (drops-are input h).ends) (sym (drops-are input' h').ends)
    (removals.independent (making_in input) (making_in input') (calls input) (calls input') (given-f64s input) (given-f64s input') (is_made input h) (is_made input' h'))

-- ---- the numbers are finite

pub finite : (input : Bytes) → IsKept input → Finite (making_in input) (calls input)
finite input h = removals.finite (making_in input) (calls input) (is_made input h)

-- ---- all of them

pub program-claims : ProgramClaims
program-claims = record { drops = drops-are; removed = removed-are; numbers = numbers-are; kept-numbers = kept-numbers-are; buses = buses-are; prints = prints; unchanged = unchanged; independent = independent; finite = finite }
