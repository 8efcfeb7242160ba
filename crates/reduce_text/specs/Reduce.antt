-- The program as a whole: from the bytes that it reads to the bytes that it writes, and what its slices hold.
use Rattle.std.specs.Prelude.{ℕ, ◌+◌, ◌-◌, ◌*◌, not, ◌&&◌, cond, List, ◌++◌, eqb, length, replicate, Result, Float}
use Rattle.complex.specs.Matrices.{zeros}
use Rattle.refusals.specs.declared.Refusal.{Refusal}
use Rattle.refusals.specs.Refusals.{wrong_length, refuse, answered}
use Rattle.text_numbers.specs.Bytes.{Bytes}
use Rattle.reduce_text.specs.Reading.{most, run_of}
use Rattle.reduce_text.specs.Printing.{text}

-- what `reduce` prints for this input
unfoldable pub printed : Bytes → Bytes
printed input = text (run_of input)

-- the most numbers of a matrix
unfoldable pub matrix_length : ℕ
unfolding most
matrix_length = 2 * (most * most)

-- the most bytes of an output: `kept 64`, each bus with ten digits, each entry
unfoldable pub output_length : ℕ
unfolding most
output_length = 8 + 15 * most + 34 * (most * most)

-- The most bytes of an input that can matter: the first line, the numbers, the entries, as many drops as there are buses, and one line more
-- with a byte that makes it too long.
unfoldable pub input_length : ℕ
unfolding most
input_length = 9 + 11 * most + 34 * (most * most) + 16 * most + 34

-- 2 or 0, by the lengths of the output and of the matrix slice. What is wrong in the input is printed.
unfoldable pub reduce_refusal : ℕ → ℕ → ℕ
reduce_refusal out ys = refuse (not (eqb out output_length && eqb ys matrix_length)) wrong_length 0

pub record AfterReduce : Type 0 where
  pub answer : Result ℕ Refusal
  pub output : Bytes
  pub matrix : List Float

-- The answer is how many bytes are written. They stand at the output's front, 0 behind them. The matrix is a work slice, +0 afterwards.
-- Where the call is refused, both are as they were.
unfoldable pub after_reduce : Bytes → Bytes → List Float → AfterReduce
unfolding answered
after_reduce input out ys =
    let f = reduce_refusal (length out) (length ys) in
    record {
      answer = answered (length (printed input)) f;
      output = cond (eqb f 0) (printed input ++ replicate (output_length - length (printed input)) 0) out;
      matrix = cond (eqb f 0) (zeros matrix_length) ys;
    }
