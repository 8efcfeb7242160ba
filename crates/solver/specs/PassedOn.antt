-- An elimination passes on what the operations on single numbers answer: its rows compute first and are looked at afterwards, and what the
-- work meets is the same as if each product, difference and inverse answered a finite number or none, one after the other.
use Rattle.std.specs.Prelude.{ℕ, ◌≡◌, List, [], ◌∷◌, ◌++◌, Option, Some, None, Float}
use Rattle.std.specs.Float.{nan}
use Rattle.complex.specs.declared.Complex.{Complex}
use Rattle.complex.specs.Constants.{plus0}
use Rattle.complex.specs.Computed.{of_sqmag}
use Rattle.complex.specs.Leaves.{product, difference, inverse}
use Rattle.complex.specs.Matrices.{Matrix}
use Rattle.refusals.specs.Work.{Step, meets}
use Rattle.solver.specs.Solving.{operations}
use Rattle.solver.specs.Steps.{Workings, workings, steps_of_run}

-- one number for an answer: not finite where there is none
unfoldable pub told : Option Complex → Float
told (Some z) = plus0
told None = nan

-- each operation by its answer alone; a weight, which no operation on single numbers is, by its own numbers
abbrev pub answers : Workings Complex
answers = record {
  of_times = λ (a b : Complex). told (product a b) ∷ [];
  of_minus = λ (a b : Complex). told (difference a b) ∷ [];
  of_inverse = λ (b : Complex). told (inverse b) ∷ [];
  of_weight = of_sqmag;
}

-- of n rows of w entries, whatever is allowed and whatever comes behind: a solve has n + 1, an inverse 2 n
abbrev pub RunPassedOn : Type 0
RunPassedOn = (allowed n w : ℕ) (A : Matrix) (rest : List Step)
    → meets allowed (steps_of_run operations answers n w A ++ rest) ≡ meets allowed (steps_of_run operations workings n w A ++ rest)
