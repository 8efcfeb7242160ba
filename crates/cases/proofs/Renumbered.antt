-- The book's matrix M with other numbers than the rows: calls beside the twelve, and all that is seen of them.
use Rattle.prelude.proofs.Prelude.{◌≡◌, refl, List, [], ◌∷◌, ℕ}
use Rattle.refusals.specs.Refusals.{not_active}
use Rattle.kron_reduction.specs.Reducer.{reducer_input_of, record_of}
use Rattle.cases.specs.Numbers.{+0, 1/2, +1}
use Rattle.cases.specs.Calls.{removal, removals, Seen, seen, reducer_counts, after}
use Rattle.cases.specs.Book.{reals, M, book_numbers}
use Rattle.cases.proofs.Book.{opened}

-- refused with 11, all as it was
abbrev untouched : List ℕ → Seen
untouched ns = seen not_active (reducer_counts (record_of 2 ns (0 ∷ 1 ∷ []))) [] (M ∷ [])

-- row 0 is left, with 0.5, and row 1 is left, with 1
abbrev first : List ℕ → Seen
first ns = seen 0 (reducer_counts (record_of 2 ns (0 ∷ []))) [] (reals (1/2 ∷ +0 ∷ +0 ∷ +0 ∷ []) ∷ [])

abbrev second : List ℕ → Seen
second ns = seen 0 (reducer_counts (record_of 2 ns (1 ∷ []))) [] (reals (+1 ∷ +0 ∷ +0 ∷ +0 ∷ []) ∷ [])

-- numbers 7 and 4294967295
largest : after (removal (reducer_input_of 2 M (7 ∷ 4294967295 ∷ [])) 4294967295) ≡ first (7 ∷ 4294967295 ∷ [])
unfolding opened
largest = refl

row-is-no-number : after (removal (reducer_input_of 2 M (7 ∷ 4294967295 ∷ [])) 1) ≡ untouched (7 ∷ 4294967295 ∷ [])
unfolding opened
row-is-no-number = refl

-- a removal numbered from one, of the second bus: refused where the numbers are the rows, and right where they begin with one
from_one : after (removal (reducer_input_of 2 M book_numbers) 2) ≡ untouched book_numbers
unfolding opened
from_one = refl

numbered-from-one : after (removal (reducer_input_of 2 M (1 ∷ 2 ∷ [])) 2) ≡ first (1 ∷ 2 ∷ [])
unfolding opened
numbered-from-one = refl

-- both buses numbered from one: where the numbers are the rows the last is refused, after one was removed
list-from-one : after (removals (reducer_input_of 2 M book_numbers) (1 ∷ 2 ∷ [])) ≡ seen not_active (1 ∷ reducer_counts (record_of 2 book_numbers (0 ∷ []))) [] (reals (1/2 ∷ +0 ∷ +0 ∷ +0 ∷ []) ∷ [])
unfolding opened
list-from-one = refl

-- numbers 1, 0 without bus 1: bus 0 is left with 1. By row it would be 0.5
turned : after (removal (reducer_input_of 2 M (1 ∷ 0 ∷ [])) 1) ≡ second (1 ∷ 0 ∷ [])
unfolding opened
turned = refl
