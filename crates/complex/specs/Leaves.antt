-- What an operation on single numbers answers: its value, where that and every number computed on the way is finite, else "not finite".
-- A turned or cleared sign computes nothing: there the number given decides.
use Rattle.std.specs.Prelude.{Option, Some, None}
use Rattle.std.specs.Prelude.{ℕ, ◌≡◌, Bool, cond, List, [], ◌∷◌, ◌++◌, T, Float}
use Rattle.std.specs.Float.Ieee.Scale.{finite}
use Rattle.binary64.specs.Values.{all_finite}
use Rattle.binary64.specs.Root.{root}
use Rattle.refusals.specs.Refusals.{given_not_finite, computed_not_finite, then_given, then_computed}
use Rattle.refusals.specs.Work.{Step, computing, meets}
use Rattle.complex.specs.declared.Complex.{Complex}
use Rattle.complex.specs.Arithmetic.{cadd, csub, cneg, cmul, cdiv, unit}
use Rattle.complex.specs.Computed.{of_parts, of_sum, of_difference, of_product, of_sqmag, of_quotient}
use Rattle.complex.specs.Magnitude.{abs, magnitude}

-- the answer c, or x, of an operation that computes these numbers
unfoldable pub pair : List Float → Complex → Option Complex
unfolding all_finite
pair computed c = cond (all_finite computed) (Some c) None

unfoldable pub real : List Float → Float → Option Float
unfolding all_finite
real computed x = cond (all_finite computed) (Some x) None

-- a + b, a - b, a b, a / b: the divisor's squared magnitude is a number on the way, and too small a divisor gives none
unfoldable pub sum : Complex → Complex → Option Complex
sum a b = pair (of_sum a b) (cadd a b)

unfoldable pub difference : Complex → Complex → Option Complex
difference a b = pair (of_difference a b) (csub a b)

unfoldable pub product : Complex → Complex → Option Complex
product a b = pair (of_product a b) (cmul a b)

unfoldable pub quotient : Complex → Complex → Option Complex
quotient a b = pair (of_quotient a b) (cdiv a b)

-- 1 / b
unfoldable pub inverse : Complex → Option Complex
inverse b = quotient unit b

-- -a
unfoldable pub negative : Complex → Option Complex
negative a = pair (of_parts a) (cneg a)

-- |x|, the root of x, and the magnitude of c
unfoldable pub absolute : Float → Option Float
absolute x = real (x ∷ []) (abs x)

unfoldable pub square_root : Float → Option Float
square_root x = real (root x ∷ []) (root x)

abbrev pub of_magnitude : Complex → List Float
of_magnitude c = of_sqmag c ++ (magnitude c ∷ [])

unfoldable pub magnitude_of : Complex → Option Float
magnitude_of c = real (of_magnitude c) (magnitude c)

-- ---- by number

-- the refusal of a call that is one operation: 19 where a number given is not finite, else 20 where one computed is not, else 0
unfoldable pub single_refusal : List Float → List Float → ℕ
unfolding then_given then_computed
single_refusal given computed = then_computed (then_given 0 given) computed

-- the number of an answer, by whether all given are finite
unfoldable pub pair_number : Bool → Option Complex → ℕ
pair_number given (Some z) = 0
pair_number given None = cond given computed_not_finite given_not_finite

unfoldable pub real_number : Bool → Option Float → ℕ
real_number given (Some x) = 0
real_number given None = cond given computed_not_finite given_not_finite

-- ---- a number that is answered is finite

abbrev pub FinitePair : Option Complex → Type 0
FinitePair answer = (z : Complex) → answer ≡ Some z → T (all_finite (of_parts z))

abbrev pub FiniteReal : Option Float → Type 0
FiniteReal answer = (x : Float) → answer ≡ Some x → T (finite x)

pub record FiniteAnswers : Type 0 where
  pub sums : (a b : Complex) → FinitePair (sum a b)
  pub differences : (a b : Complex) → FinitePair (difference a b)
  pub products : (a b : Complex) → FinitePair (product a b)
  pub quotients : (a b : Complex) → FinitePair (quotient a b)
  pub inverses : (b : Complex) → FinitePair (inverse b)
  pub negatives : (a : Complex) → FinitePair (negative a)
  pub absolutes : (x : Float) → FiniteReal (absolute x)
  pub roots : (x : Float) → FiniteReal (square_root x)
  pub magnitudes : (c : Complex) → FiniteReal (magnitude_of c)

-- ---- passed on

-- what comes behind an operation that answered this: none where it answered none
unfoldable pub passing : Option Complex → (Complex → Option Complex) → Option Complex
passing (Some z) next = next z
passing None next = None

-- what is met behind it: 20 where it answered none
unfoldable pub through : Option Complex → ℕ → ℕ
through (Some z) next = next
through None next = computed_not_finite

-- Loops over rows do not take these operations: their numbers are steps of a call's work. Both say the same. An operation that
-- computes answers none exactly where its numbers, as steps, meet 20, whatever is allowed; what the work meets goes by that answer and what
-- comes behind it; and two operations, the second on the first one's answer, are one that computes the numbers of both, in a row.
pub record LeafSteps : Type 0 where
  pub pair-none : (allowed : ℕ) (computed : List Float) (c : Complex)
      → (pair computed c ≡ None → meets allowed (computing computed) ≡ computed_not_finite)
      × (meets allowed (computing computed) ≡ computed_not_finite → pair computed c ≡ None)
  pub real-none : (allowed : ℕ) (computed : List Float) (x : Float)
      → (real computed x ≡ None → meets allowed (computing computed) ≡ computed_not_finite)
      × (meets allowed (computing computed) ≡ computed_not_finite → real computed x ≡ None)
  pub met-through : (allowed : ℕ) (computed : List Float) (c : Complex) (rest : List Step)
      → meets allowed (computing computed ++ rest) ≡ through (pair computed c) (meets allowed rest)
  pub passes_on : (computed : List Float) (c : Complex) (next : Complex → Option Complex) (more : List Float) (d : Complex)
      → next c ≡ pair more d → passing (pair computed c) next ≡ pair (computed ++ more) d
