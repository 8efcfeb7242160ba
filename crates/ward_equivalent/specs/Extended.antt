-- The extended Ward study: its formulas beside Ward's own. Buses are rows here.
use Rattle.std.specs.Prelude.{ℕ, zero, suc, cond, List, get_or, Float}
use Rattle.std.specs.Float.{nan}
use Rattle.std.specs.Float.Ieee.{neg, lt}
use Rattle.complex.specs.declared.Complex.{Complex}
use Rattle.complex.specs.Constants.{plus0, one, small_magnitude}
use Rattle.complex.specs.Arithmetic.{◌⊕◌, ◌⊖◌, ◌⊗◌, ◌⊘◌}
use Rattle.complex.specs.Magnitude.{magnitude}
use Rattle.ward_equivalent.specs.Ward.{Study, Outputs, externals, external_at, admittance}

-- the voltages at the external buses, per unit
pub record ExtendedStudy : Type 0 where
  pub study : Study
  pub v-ext : List Float

pub record ExtendedOutputs : Type 0 where
  pub outputs : Outputs
  pub correction : List Float
  pub compensation : List Float

-- ---- the formulas

-- f 0 + f 1 + .. + f (n - 1), from +0 upward
unfoldable pub add_up : ℕ → (ℕ → Float) → Float
unfolding plus0
add_up zero f = plus0
add_up (suc n) f = add_up n f ⊕ f n

-- how far the voltage of external bus k is from 1.0
unfoldable pub deviation : ExtendedStudy → ℕ → Float
unfolding one
deviation S k = get_or S.v-ext k nan ⊖ one

-- Y_be between boundary bus i and external bus k, and its magnitude
abbrev pub boundary_tie : ExtendedStudy → ℕ → ℕ → Complex
boundary_tie S i k = admittance S.study i (external_at S.study k)

unfoldable pub weight : ExtendedStudy → ℕ → ℕ → Float
weight S i k = magnitude (boundary_tie S i k)

unfoldable pub weight_sum : ExtendedStudy → ℕ → Float
unfolding weight add_up
weight_sum S i = add_up (externals S.study) (weight S i)

unfoldable pub weighted_sum : ExtendedStudy → ℕ → Float
unfolding weight add_up deviation
weighted_sum S i = add_up (externals S.study) (λ (k : ℕ). weight S i k ⊗ deviation S k)

-- the quotient of a weighted sum and its weight sum; a weight sum not above 1e-12 leaves +0
unfoldable pub mean_of : Float → Float → Float
unfolding small_magnitude plus0
mean_of weights weighted = cond (lt small_magnitude weights) (weighted ⊘ weights) plus0

-- the mean of the deviations by weight
unfoldable pub voltage_correction : ExtendedStudy → ℕ → Float
unfolding mean_of weight_sum weighted_sum
voltage_correction S i = mean_of (weight_sum S i) (weighted_sum S i)

-- the reactive power of one tie at this deviation, in MVAr
unfoldable pub reactive : Float → Complex → Float → Float
reactive base y d = neg y.im ⊗ d ⊗ base

unfoldable pub q_compensation : ExtendedStudy → ℕ → Float
unfolding add_up reactive deviation
q_compensation S i = add_up (externals S.study) (λ (k : ℕ). reactive S.study.base (boundary_tie S i k) (deviation S k))
