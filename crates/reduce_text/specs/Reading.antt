-- Reading: what the lines come to. They are handled strictly in order, and the first that is bad or refused ends the run.
use Rattle.std.specs.Prelude.{ℕ, zero, suc, ◌+◌, ◌*◌, cond, List, [], ◌∷◌, ◌++◌, leb, Option, Some, None, Result, Ok, Err, Float}
use Rattle.std.specs.Float.{binary64}
use Rattle.std.specs.Float.Ieee.{of_bits}
use Rattle.refusals.specs.declared.Refusal.{Refusal}
use Rattle.kron_reduction.specs.declared.KronReducer.{KronReducer}
use Rattle.lists.specs.Buses.{mem}
use Rattle.kron_reduction.specs.Reducer.{AfterBus, reducer_input_of, record_of, made, after_bus}
use Rattle.reduce_text.specs.declared.read.Trouble.{Trouble}
use Rattle.reduce_text.specs.declared.read.Trouble.TheVariants.{RefusedDrop, BadLine}
use Rattle.reduce_text.specs.declared.read.Reading.{Reading}
use Rattle.text_numbers.specs.Bytes.{Bytes}
use Rattle.reduce_text.specs.Lines.{lines, buses_of, number_of, drop_of, entry_of}

-- the most buses that `reduce` reads
unfoldable pub most : ℕ
most = 64

-- how a run ended, with the reducer's record, and the numbers of the matrix as they stand then
pub record Run : Type 0 where
  pub reading : Reading
  pub numbers : List Float

-- how a run ends: with what is left kept, or in trouble
abbrev pub End : Type 0
End = Result (Unit {0}) Trouble

abbrev pub ended : End → KronReducer → List Float → Run
ended e r ys = record { reading = record { end = e; rec = r }; numbers = ys }

-- no reducer was made
abbrev pub no_reducer : KronReducer
no_reducer = record_of 0 [] []

-- the run of the lines from a place on, with the record and the matrix as they stand there
abbrev pub Onward : Type 0
Onward = ℕ → KronReducer → List Float → List Bytes → Run

-- ---- the drops

-- after a removal: the next line, or the end where it is refused
abbrev pub on_outcome : Result (Unit {0}) Refusal → ℕ → KronReducer → List Float → (KronReducer → List Float → Run) → Run
on_outcome (Ok u) k r ys next = next r ys
on_outcome (Err f) k r ys next = ended (Err (RefusedDrop f k)) r ys

abbrev pub after_drop : ℕ → AfterBus → (KronReducer → List Float → Run) → Run
after_drop k a next = on_outcome a.out.answer k a.out.rec a.slice next

-- a line with its number, or else
abbrev pub on_number : Option ℕ → (ℕ → Run) → Run → Run
on_number (Some k) next else = next k
on_number None next else = else

-- the drop lines, the next at place p, and then what follows them: the lines from the first that is no drop on, if there are any
unfoldable pub drops : Onward → Onward
drops rest p r ys [] = rest p r ys []
drops rest p r ys (l ∷ ls) =
    on_number (drop_of l)
    (λ k. after_drop k (after_bus r ys k) (λ r' ys'. drops rest (p + 1) r' ys' ls))
    (rest p r ys (l ∷ ls))

-- at the end of the input what is left is kept; a line that is no drop is bad
unfoldable pub finish : Onward
finish p r ys [] = ended (Ok tt) r ys
finish p r ys (l ∷ ls) = ended (Err (BadLine p)) r ys

-- ---- the entries

-- the f64 with these bits; each NaN pattern is the one NaN
abbrev pub of_word : ℕ → Float
of_word w = of_bits binary64 w

abbrev pub on_entry : Option (ℕ × ℕ) → (ℕ → ℕ → Run) → Run → Run
on_entry (Some w) next else = next w.0 w.1
on_entry None next else = else

-- of n buses numbered ns, k entry lines are still to come, the next at place p; ys are the numbers of the matrix so far
unfoldable pub entries : Onward → ℕ → List ℕ → ℕ → ℕ → List Float → List Bytes → Run
entries go n ns zero p ys ls = go p (made (reducer_input_of n ys ns)) ys ls
entries go n ns (suc k) p ys [] = ended (Err (BadLine p)) no_reducer ys
entries go n ns (suc k) p ys (l ∷ ls) =
    on_entry (entry_of l)
    (λ a b. entries go n ns k (p + 1) (ys ++ (of_word a ∷ of_word b ∷ [])) ls)
    (ended (Err (BadLine p)) no_reducer ys)

-- ---- the numbers

-- a bad line before there is a matrix
abbrev pub bad_at : ℕ → Run
bad_at p = ended (Err (BadLine p)) no_reducer []

-- of n buses, k number lines are still to come, the next at place p; ns are the numbers so far, and none of them may stand twice
unfoldable pub named : Onward → ℕ → ℕ → ℕ → List ℕ → List Bytes → Run
named go n zero p ns ls = entries go n ns (n * n) p [] ls
named go n (suc k) p ns [] = bad_at p
named go n (suc k) p ns (l ∷ ls) =
    on_number (number_of l)
    (λ b. cond (mem b ns) (bad_at p) (named go n k (p + 1) (ns ++ (b ∷ [])) ls))
    (bad_at p)

-- ---- the first line, and the whole

-- the lines up to the entries, and then what follows them
unfoldable pub first : Onward → List Bytes → Run
first go [] = bad_at 1
first go (l ∷ ls) = on_number (buses_of l) (λ n. cond (leb n most) (named go n n 2 [] ls) (bad_at 1)) (bad_at 1)

unfoldable pub run_of : Bytes → Run
run_of input = first (drops finish) (lines input)
