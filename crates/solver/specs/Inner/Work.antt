-- The work slice of an elimination: n rows of w entries, what one column does to it, and blocks of columns put in or taken out.
use Rattle.std.specs.Prelude.{ℕ, suc, ◌+◌, ◌*◌, ◌-◌, ◌<◌, ◌≤◌, ◌≡◌}
use Rattle.std.specs.Prelude.{true, false, ◌&&◌, cond, List, [], ◌∷◌, ◌++◌, T, eqb, leb, ltb, length, Result, Ok, Err, Float}
use Rattle.std.specs.Float.Ieee.{neg}
use Rattle.binary64.specs.Values.{all_finite}
use Rattle.complex.specs.declared.Complex.{Complex}
use Rattle.complex.specs.Arithmetic.{unit}
use Rattle.complex.specs.Entries.{entry}
use Rattle.complex.specs.Matrices.{Matrix, entry_at, grid}
use Rattle.lists.specs.Buses.{up_to}
use Rattle.refusals.specs.declared.Refusal.{Refusal}
use Rattle.refusals.specs.declared.Refusal.TheVariants.{Singular}
use Rattle.refusals.specs.Refusals.{computed_not_finite, number_of}
use Rattle.refusals.specs.Work.{Step, pivot_too_small, computing, reductions, meets}
use Rattle.solver.specs.GaussJordan.{pivoted, scaled, cleared, gauss_jordan}
use Rattle.solver.specs.Solving.{operations}
use Rattle.solver.specs.Steps.{workings, of_search, of_scaling, steps_of_rows, steps_of_run}

-- row r replaced by f
unfoldable pub with_row : ℕ → (ℕ → Complex) → Matrix → Matrix
with_row r f A i j = cond (eqb i r) (f j) (A i j)

-- ---- elimination

-- p times the imaginary unit: its parts change places, and one its sign. Each part of f times p is then f's real part times that part of p
-- plus f's imaginary part times that part of p turned, to the bit: in IEEE 754 a difference is the sum with the negated number, and a
-- product's sign turns with its factor's, of zeros too.
unfoldable pub turned : Complex → Complex
turned p = record { re = neg p.im; im = p.re }

-- a row of w entries, and after it the same row turned
pub record BesideTurned (w : ℕ) (row : List Float) : Type 0 where
  pub long : length row ≡ 4 * w
  pub halves : (q : ℕ) → q < w → entry row (w + q) ≡ turned (entry row q)

-- each row less its factor in column c times the pivot row
unfoldable pub less_factor : ℕ → (ℕ → Complex) → Matrix → Matrix
less_factor c pivot A i j = operations.minus (A i j) (operations.times (A i c) (pivot j))

-- What work of these steps answers with so many row reductions allowed: the refusal that it meets first, or what is left.
pub record Ended (allowed : ℕ) (answered : Result ℕ Refusal) (steps : List Step) : Type 0 where
  pub number : number_of answered ≡ meets allowed steps
  pub count : (left : ℕ) → answered ≡ Ok left → reductions steps + left ≡ allowed

-- A part of the work, from one slice to another, with so many row reductions allowed. Numbers are not looked at on the way: a number that
-- is not finite stays in the slice, or ends the work.
pub record Told (allowed : ℕ) (steps : List Step) (before after : List Float) (answered : Result ℕ Refusal) : Type 0 where
  -- where all is finite in the end, all was before, and the end is the one that the steps meet
  pub finite : T (all_finite after) → T (all_finite before) × (meets allowed steps ≡ number_of answered)
  -- where all was finite and something is not in the end, the steps meet 20
  pub lost : T (all_finite before) → all_finite after ≡ false → meets allowed steps ≡ computed_not_finite
  -- what is left of the allowance
  pub count : (left : ℕ) → answered ≡ Ok left → reductions steps + left ≡ allowed

-- what a column's turn computes once its pivot is found large enough: the pivot's inverse, its row scaled, and the other rows
unfoldable pub steps_of_clearing : ℕ → ℕ → ℕ → Matrix → List Step
unfolding scaled of_scaling steps_of_rows up_to computing
steps_of_clearing n w c B =
    computing (workings.of_inverse (B c c) ++ of_scaling operations workings B c (up_to w))
    ++ steps_of_rows operations workings (scaled operations c B) c (up_to n) (up_to w)

-- column c's turn
unfoldable pub steps_of_column : ℕ → ℕ → ℕ → Matrix → List Step
unfolding pivoted of_search computing steps_of_clearing
steps_of_column n w c A =
    let B = pivoted operations n c A in
    computing (of_search operations workings A c c (suc c) (n - suc c) ++ workings.of_weight (B c c))
    ++ cond (operations.small (B c c)) (pivot_too_small ∷ []) (steps_of_clearing n w c B)

-- Column c's turn. What the slice holds is said where the column is done, and where its pivot is too small. It is free, but for its length,
-- in two cases, here and in the whole elimination. At 18 row c is scaled, and of the others those above the one that would exceed the
-- allowance have had their turn, the rest not. At 20 it is what the columns left, to whichever end they came, with or without numbers that
-- are not finite. No answer depends on it then: the calls that are offered leave +0. The room for a row is free at every end.
pub record ColumnDone (n w c allowed : ℕ) (answered : Result ℕ Refusal) (before after : List Float) : Type 0 where
  pub told : Told allowed (steps_of_column n w c (entry_at w before)) before after answered
  pub entries : (left : ℕ) → answered ≡ Ok left → let B = pivoted operations n c (entry_at w before) in
      (operations.small (B c c) ≡ false) × ((i j : ℕ) → i < n → j < w → entry_at w after i j ≡ cleared operations c B i j)
  -- the two rows have changed places, and no more
  pub small : answered ≡ Err Singular → let B = pivoted operations n c (entry_at w before) in
      (operations.small (B c c) ≡ true) × ((i j : ℕ) → i < n → j < w → entry_at w after i j ≡ B i j)

-- all columns' turn, before the slice is looked at
pub record Ran (n w allowed : ℕ) (answered : Result ℕ Refusal) (before after : List Float) : Type 0 where
  pub told : Told allowed (steps_of_run operations workings n w (entry_at w before)) before after answered
  pub entries : (left : ℕ) → answered ≡ Ok left → after ≡ grid n w (gauss_jordan operations n (entry_at w before)).left
  pub small : answered ≡ Err Singular → after ≡ grid n w (gauss_jordan operations n (entry_at w before)).left

-- an elimination that is done: how many row reductions are left, and what the slice holds
pub record Finished (n w allowed left : ℕ) (before after : List Float) : Type 0 where
  pub count : reductions (steps_of_run operations workings n w (entry_at w before)) + left ≡ allowed
  pub entries : after ≡ grid n w (gauss_jordan operations n (entry_at w before)).left
  pub finite : T (all_finite after)

pub record Met (n w allowed : ℕ) (answered : Result ℕ Refusal) (before after : List Float) : Type 0 where
  -- the refusal that the work meets first, 0 where it is done
  pub number : number_of answered ≡ meets allowed (steps_of_run operations workings n w (entry_at w before))
  pub done : (left : ℕ) → answered ≡ Ok left → Finished n w allowed left before after
  -- at 13 the slice holds the matrix where the work ended, and all of it is finite: where something is not, 20 is told in its stead
  pub small : answered ≡ Err Singular → (after ≡ grid n w (gauss_jordan operations n (entry_at w before)).left) × T (all_finite after)
  pub length-kept : length after ≡ length before

-- ---- blocks of m columns from column `at` on

-- row i's lies from start to end in a slice of n rows of w entries
pub record Lies (n w at m i start end : ℕ) : Type 0 where
  pub within : at + m ≤ w
  pub begins : start ≡ 2 * (i * w + at)
  pub ends : end ≡ 2 * (i * w + at + m)
  pub fits : end ≤ 2 * (n * w)

-- the lengths of a slice of n rows of w entries, and of one of n rows of m
pub record Block (n w m long part : ℕ) : Type 0 where
  pub full : long ≡ 2 * (n * w)
  pub whole : part ≡ 2 * (n * m)

-- B in those columns of A
unfoldable pub placed : ℕ → ℕ → Matrix → Matrix → Matrix
placed at m B A i j = cond (leb at j && ltb j (at + m)) (B i (j - at)) (A i j)

-- the columns from `at` on
unfoldable pub right_sides : ℕ → Matrix → Matrix
right_sides at A i j = A i (at + j)

-- the ones of an identity that begins in column `at`
unfoldable pub with_identity : ℕ → Matrix → Matrix
with_identity at A i j = cond (eqb j (at + i)) unit (A i j)
