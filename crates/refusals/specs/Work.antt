-- The work of a call as a list of steps, in the order of the work, and the refusal that it meets first.
use Rattle.std.specs.Prelude.{ℕ, zero, suc, ◌≤◌, cond, List, [], ◌∷◌, eqb, Float}
use Rattle.std.specs.Float.Ieee.Scale.{finite}
use Rattle.refusals.specs.declared.Allowance.{Allowance}
use Rattle.refusals.specs.declared.Allowance.TheVariants.{Unlimited, Rows}
use Rattle.refusals.specs.Refusals.{small_entry, singular, beyond_allowance, computed_not_finite}

pub data Step : Type 0 where
  -- a number is computed
  computes : Float → Step
  -- the reduction of a row begins
  reduces : Step
  -- a bus's own entry is found too small to divide by
  entry_too_small : Step
  -- a chosen pivot is found too small to divide by
  pivot_too_small : Step

-- numbers computed one after the other
unfoldable pub computing : List Float → List Step
computing [] = []
computing (x ∷ xs) = computes x ∷ computing xs

-- the numbers that the steps compute
unfoldable pub numbers_in : List Step → List Float
numbers_in [] = []
numbers_in (computes x ∷ steps) = x ∷ numbers_in steps
numbers_in (reduces ∷ steps) = numbers_in steps
numbers_in (entry_too_small ∷ steps) = numbers_in steps
numbers_in (pivot_too_small ∷ steps) = numbers_in steps

-- how many row reductions the steps begin
unfoldable pub reductions : List Step → ℕ
reductions [] = 0
reductions (computes x ∷ steps) = reductions steps
reductions (reduces ∷ steps) = suc (reductions steps)
reductions (entry_too_small ∷ steps) = reductions steps
reductions (pivot_too_small ∷ steps) = reductions steps

-- The first refusal that the steps meet with this many row reductions allowed, 0 where they meet none.
unfoldable pub meets : ℕ → List Step → ℕ
meets allowed [] = 0
meets allowed (computes x ∷ steps) = cond (finite x) (meets allowed steps) computed_not_finite
meets zero (reduces ∷ steps) = beyond_allowance
meets (suc allowed) (reduces ∷ steps) = meets allowed steps
meets allowed (entry_too_small ∷ steps) = small_entry
meets allowed (pivot_too_small ∷ steps) = singular

-- how many row reductions an allowance grants to these steps: without a limit, all that they begin
unfoldable pub granted : Allowance → List Step → ℕ
granted Unlimited steps = reductions steps
granted (Rows allowed) steps = allowed

-- the refusal of a call's work under an allowance, 0 where it is carried out
unfoldable pub work_refusal : Allowance → List Step → ℕ
unfolding granted meets
work_refusal allowance steps = meets (granted allowance steps) steps

-- the refusal of a call: the one told from its input, else the one that its work meets
unfoldable pub then_work : ℕ → Allowance → List Step → ℕ
unfolding work_refusal
then_work told allowance steps = cond (eqb told 0) (work_refusal allowance steps) told

-- ---- allowances

infix 20 ◌no_more_than◌
-- one allowance grants no more than another; without a limit is the most
unfoldable pub ◌no_more_than◌ : Allowance → Allowance → Type 0
a no_more_than Unlimited = Unit {0}
Unlimited no_more_than Rows m = ⊥
Rows k no_more_than Rows m = k ≤ m

-- the number that stands for an allowance; without a limit, the largest usize
unfoldable pub allowed_rows : Allowance → ℕ
allowed_rows Unlimited = 0xffff_ffff_ffff_ffff
allowed_rows (Rows allowed) = allowed
