-- What the functions that read answer and leave, whatever follows the lines that they read.
use Rattle.std.specs.Prelude.{ℕ, ◌+◌, ◌*◌, ◌≤◌, cond, List, [], ◌++◌, ◌≡◌, ltb, length, drop, Result, Ok, Err, Float}
use Rattle.kron_reduction.specs.declared.KronReducer.{KronReducer}
use Rattle.kron_reduction.specs.Reducer.{reducer_input_of, made}
use Rattle.reduce_text.specs.declared.read.Trouble.{Trouble}
use Rattle.reduce_text.specs.declared.read.Trouble.TheVariants.{BadLine}
use Rattle.reduce_text.specs.declared.read.Start.{Start}
use Rattle.reduce_text.specs.declared.read.Dropped.{Dropped}
use Rattle.reduce_text.specs.declared.read.Reading.{Reading}
use Rattle.text_numbers.specs.Bytes.{Bytes}
use Rattle.reduce_text.specs.Lines.{lines}
use Rattle.reduce_text.specs.Reading.{most, Run, End, ended, no_reducer, Onward, drops, entries, named}

-- the lines from an index of the input on
abbrev pub behind : Bytes → ℕ → List Bytes
behind input at = lines (drop at input)

-- what follows an answer, or the end in trouble, with the record and the matrix as they stand then
abbrev pub on_answer : {A : Type 0} → Result A Trouble → (A → Run) → KronReducer → List Float → Run
on_answer (Ok x) next r ys = next x
on_answer (Err t) next r ys = ended (Err t) r ys

-- the next line starts in the input, or where one would behind its last byte
abbrev pub WithinInput : Bytes → Result ℕ Trouble → Type 0
WithinInput input (Ok at) = at ≤ length input + 1
WithinInput input (Err t) = Unit {0}

-- the number lines of n buses from an index on
pub record Numbered (input : Bytes) (from n : ℕ) (answer : Result ℕ Trouble) (ns : List ℕ) : Type 0 where
  pub within : WithinInput input answer
  pub goes : (go : Onward) → named go n n 2 [] (behind input from)
      ≡ on_answer answer (λ at. entries go n ns (n * n) (n + 2) [] (behind input at)) no_reducer []

-- all entries were read
abbrev pub Full : ℕ → List Float → Result ℕ Trouble → Type 0
Full n ys (Ok at) = length ys ≡ 2 * (n * n)
Full n ys (Err t) = Unit {0}

-- the place of the first line behind the entries
abbrev pub place_behind : ℕ → ℕ
place_behind n = n * n + (n + 2)

-- the entry lines of n buses from an index on, their numbers at the front of a slice
pub record Filled (before : List Float) (input : Bytes) (from n : ℕ) (answer : Result ℕ Trouble) (left : List Float) : Type 0 where
  pub ys : List Float
  pub leaves : left ≡ ys ++ drop (length ys) before
  pub full : Full n ys answer
  pub goes : (go : Onward) (ns : List ℕ)
      → entries go n ns (n * n) (n + 2) [] (behind input from)
      ≡ on_answer answer (λ at. go (place_behind n) (made (reducer_input_of n ys ns)) ys (behind input at)) no_reducer ys

-- a reducer of few buses, whose numbers ys are
abbrev pub Made : List Float → Result Start Trouble → Type 0
Made ys (Ok s) = (s.n ≤ most) × (length ys ≡ 2 * (s.n * s.n))
Made ys (Err t) = Unit {0}

-- the reducer that R begins with
pub record Begun (R : Onward → Run) (before : List Float) (input : Bytes) (answer : Result Start Trouble) (left : List Float) : Type 0 where
  pub ys : List Float
  pub leaves : left ≡ ys ++ drop (length ys) before
  pub fits : Made ys answer
  pub goes : (go : Onward) → R go
      ≡ on_answer answer (λ s. go (place_behind s.n) s.rec ys (behind input s.at)) no_reducer ys

-- the drop lines from an index on
abbrev pub Drops : Bytes → ℕ → ℕ → KronReducer → List Float → Dropped → List Float → Type 0
Drops input from p r ys answer left =
    (rest : Onward)
    → drops rest p r ys (behind input from)
    ≡ on_answer answer.stop (λ q. rest q.1 answer.rec left (behind input q.0)) answer.rec left

-- the end of an input of so many bytes, where the drops stopped
abbrev pub end_of : ℕ → Result (ℕ × ℕ) Trouble → End
end_of m (Ok q) = cond (ltb q.0 m) (Err (BadLine q.1)) (Ok tt)
end_of m (Err t) = Err t

-- a run in the first m numbers of a slice
pub record Ended (before : List Float) (m : ℕ) (R : Run) (answer : Reading) (left : List Float) : Type 0 where
  pub says : answer ≡ R.reading
  pub whole : length R.numbers ≡ m
  pub leaves : left ≡ R.numbers ++ drop m before

-- the whole input, the numbers of the matrix at the front of a slice
pub record RanIn (before : List Float) (R : Run) (answer : Reading) (left : List Float) : Type 0 where
  pub says : answer ≡ R.reading
  pub leaves : left ≡ R.numbers ++ drop (length R.numbers) before
