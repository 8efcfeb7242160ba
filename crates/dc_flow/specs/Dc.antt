-- The DC parts: the buses retained, the susceptance matrix, and the line outage factors.
-- Buses and branches count from 0; a matrix is one of f64, row after row; branches count by the from list.
use Rattle.std.specs.Prelude.{ℕ, zero, suc, ◌+◌, ◌*◌, ◌-◌}
use Rattle.std.specs.Prelude.{Bool, not, ◌&&◌, cond, List, [], ◌∷◌, ◌++◌, ◌≡◌, T, eqb, length, get_or, set, replicate, Float, Result}
use Rattle.std.specs.Float.{nan}
use Rattle.std.specs.Float.Ieee.{neg, lt}
use Rattle.complex.specs.Constants.{plus0, one, small_magnitude}
use Rattle.complex.specs.Arithmetic.{◌⊕◌, ◌⊖◌, ◌⊘◌}
use Rattle.complex.specs.Magnitude.{abs}
use Rattle.complex.specs.Matrices.{zeros}
use Rattle.lists.specs.Buses.{up_to, others, all_below}
use Rattle.binary64.specs.Values.{all_finite}
use Rattle.refusals.specs.declared.Refusal.{Refusal}
use Rattle.refusals.specs.Refusals.{too_many, wrong_length, lists_differ, no_such_end, refuse, then_given, then_computed, answered}
use Rattle.lists.specs.Limits.{over}

-- ---- retained_buses

-- the buses below n that interior does not name, rising
unfoldable pub retained_of : ℕ → List ℕ → List ℕ
retained_of n interior = others interior (up_to n)

-- the retained buses at the front, 0 behind
unfoldable pub retained_slice : ℕ → List ℕ → List ℕ
retained_slice n interior = retained_of n interior ++ replicate (n - length (retained_of n interior)) 0

-- 1, 2 or 0; the output slice is of this length
unfoldable pub retained_refusal : ℕ → List ℕ → ℕ → ℕ
retained_refusal n interior len =
    refuse (over n (length interior) 0 0) too_many
    (refuse (not (eqb len n)) wrong_length 0)

-- what `retained_buses` answers (buses count from 0), how many or the refusal, and what its output slice holds, `held` at entry
unfoldable pub retained_answer : ℕ → List ℕ → List ℕ → Result ℕ Refusal
retained_answer n interior held = answered (length (retained_of n interior)) (retained_refusal n interior (length held))

unfoldable pub retained_output : ℕ → List ℕ → List ℕ → List ℕ
retained_output n interior held = cond (eqb (retained_refusal n interior (length held)) 0) (retained_slice n interior) held

-- ---- branches

-- a branch end that is no bus, also of a branch that is skipped
unfoldable pub ends_refusal : ℕ → List ℕ → List ℕ → ℕ
ends_refusal n froms tos = refuse (not (all_below n froms && all_below n tos)) no_such_end 0

-- the lists F 0, F 1, .. of which there are m, one behind the other
unfoldable pub each : (ℕ → List Float) → ℕ → List Float
each F zero = []
each F (suc m) = each F m ++ F m

-- ---- build_b_bus

-- v added to the number at place p, or taken from it
abbrev pub plus : List Float → ℕ → Float → List Float
plus b p v = set b p (get_or b p nan ⊕ v)

abbrev pub minus : List Float → ℕ → Float → List Float
minus b p v = set b p (get_or b p nan ⊖ v)

-- a branch between buses i and j of susceptance s in per unit, whose rows begin at f and t: the from and the to diagonal,
-- then from-to and to-from
unfoldable pub joined : List Float → ℕ → ℕ → ℕ → ℕ → Float → List Float
joined b f t i j s = minus (minus (plus (plus b (f + i) s) (t + j) s) (f + j) s) (t + i) s

-- a branch from bus i to bus j of reactance x in per unit: none where x is close to 0
unfoldable pub add_branch : ℕ → List Float → ℕ → ℕ → Float → List Float
add_branch n b i j x = cond (lt (abs x) small_magnitude) b (joined b (i * n) (j * n) i j (one ⊘ x))

-- the matrix of the first k branches, susceptances in per unit
unfoldable pub susceptances : ℕ → List ℕ → List ℕ → List Float → ℕ → List Float
susceptances n froms tos xs zero = zeros (n * n)
susceptances n froms tos xs (suc k) =
    add_branch n (susceptances n froms tos xs k) (get_or froms k 0) (get_or tos k 0) (get_or xs k nan)

-- the numbers that `joined` computes: each entry as it changes
unfoldable pub of_joined : List Float → ℕ → ℕ → ℕ → ℕ → Float → List Float
of_joined b f t i j s =
    let from = plus b (f + i) s in
    let both = plus from (t + j) s in
    let joint = minus both (f + j) s in
    (get_or b (f + i) nan ⊕ s) ∷ (get_or from (t + j) nan ⊕ s) ∷ (get_or both (f + j) nan ⊖ s) ∷ (get_or joint (t + i) nan ⊖ s) ∷ []

-- the numbers that a branch computes: its susceptance in per unit and the entries, none where it is skipped
unfoldable pub of_branch : ℕ → List Float → ℕ → ℕ → Float → List Float
of_branch n b i j x = cond (lt (abs x) small_magnitude) [] (one ⊘ x ∷ of_joined b (i * n) (j * n) i j (one ⊘ x))

-- the numbers that `build_b_bus` computes
unfoldable pub of_build : ℕ → List ℕ → List ℕ → List Float → List Float
of_build n froms tos xs =
    each (λ (k : ℕ). of_branch n (susceptances n froms tos xs k) (get_or froms k 0) (get_or tos k 0) (get_or xs k nan)) (length froms)

-- 1, 2, 3, 6 or 0, by the lengths and the branch ends; the output slice is of this length
unfoldable pub build_shape_refusal : ℕ → List ℕ → List ℕ → List Float → ℕ → ℕ
build_shape_refusal n froms tos xs len =
    refuse (over n (length froms) (length tos) (length xs)) too_many
    (refuse (not (eqb len (n * n))) wrong_length
    (refuse (not (eqb (length tos) (length froms) && eqb (length xs) (length froms))) lists_differ
    (ends_refusal n froms tos)))

-- then 19, of a reactance that is not finite. There is no 20: `DcFinite.build-finite`
unfoldable pub build_refusal : ℕ → List ℕ → List ℕ → List Float → ℕ → ℕ
build_refusal n froms tos xs len = then_given (build_shape_refusal n froms tos xs len) xs

-- what the output slice of `build_b_bus` holds, `held` at entry
unfoldable pub built_output : ℕ → List ℕ → List ℕ → List Float → List Float → List Float
built_output n froms tos xs held =
    cond (eqb (build_refusal n froms tos xs (length held)) 0) (susceptances n froms tos xs (length froms)) held

-- ---- lodf_matrix

-- the transfer factor of branch l at bus i: row l of n columns
unfoldable pub transfer : ℕ → List Float → ℕ → ℕ → Float
transfer n ptdf l i = get_or ptdf (l * n + i) nan

-- what branch l takes of a transfer between branch k's ends
unfoldable pub branch_transfer : ℕ → List Float → List ℕ → List ℕ → ℕ → ℕ → Float
branch_transfer n ptdf froms tos k l = transfer n ptdf l (get_or froms k 0) ⊖ transfer n ptdf l (get_or tos k 0)

-- what branch k leaves of a transfer between its own ends
unfoldable pub denominator : ℕ → List Float → List ℕ → List ℕ → ℕ → Float
denominator n ptdf froms tos k = one ⊖ branch_transfer n ptdf froms tos k k

-- the factor of a branch for an outage: whether it is the branch that is out, what it takes of a transfer between that one's ends,
-- and that one's denominator
unfoldable pub outage_factor : Bool → Float → Float → Float
outage_factor same taken d = cond same (neg one) (cond (lt (abs d) small_magnitude) plus0 (taken ⊘ d))

-- the factor of branch l for the outage of branch k
unfoldable pub outage : ℕ → List Float → List ℕ → List ℕ → ℕ → ℕ → Float
outage n ptdf froms tos l k = outage_factor (eqb l k) (branch_transfer n ptdf froms tos k l) (denominator n ptdf froms tos k)

-- the numbers F 0, F 1, .. of which there are m, and the rows 0, 1, .. of such numbers
unfoldable pub real_row : (ℕ → Float) → ℕ → List Float
real_row F zero = []
real_row F (suc m) = real_row F m ++ (F m ∷ [])

unfoldable pub real_grid : (ℕ → ℕ → Float) → ℕ → ℕ → List Float
real_grid F m zero = []
real_grid F m (suc l) = real_grid F m l ++ real_row (F l) m

-- the numbers that a factor computes, in the order of the work: what the branch that is out takes of its own transfer, its denominator d,
-- and where d is not close to 0 what the other branch takes, and the quotient. Of the branch that is out itself, none.
unfoldable pub of_factor : Bool → Float → Float → Float → List Float
of_factor same own taken d = cond same [] (own ∷ d ∷ cond (lt (abs d) small_magnitude) [] (taken ∷ taken ⊘ d ∷ []))

unfoldable pub of_outage : ℕ → List Float → List ℕ → List ℕ → ℕ → ℕ → List Float
of_outage n ptdf froms tos l k =
    of_factor (eqb l k) (branch_transfer n ptdf froms tos k k) (branch_transfer n ptdf froms tos k l) (denominator n ptdf froms tos k)

-- the numbers that `lodf_matrix` computes, row after row; of one branch alone, none
unfoldable pub of_lodf : ℕ → List Float → List ℕ → List ℕ → List Float
of_lodf n ptdf froms tos = each (λ (l : ℕ). each (of_outage n ptdf froms tos l) (length froms)) (length froms)

-- 1, 2, 3, 6 or 0, by the lengths and the branch ends; the PTDF and the output slice are of these lengths
unfoldable pub lodf_shape_refusal : ℕ → ℕ → List ℕ → List ℕ → ℕ → ℕ
lodf_shape_refusal n given froms tos len =
    refuse (over n (length froms) (length tos) 0) too_many
    (refuse (not (eqb given (length froms * n) && eqb len (length froms * length froms))) wrong_length
    (refuse (not (eqb (length tos) (length froms))) lists_differ
    (ends_refusal n froms tos)))

-- then 19, of a number of the PTDF, and 20, of one computed, that is not finite
unfoldable pub lodf_refusal : ℕ → List Float → List ℕ → List ℕ → ℕ → ℕ
lodf_refusal n ptdf froms tos len =
    then_computed (then_given (lodf_shape_refusal n (length ptdf) froms tos len) ptdf) (of_lodf n ptdf froms tos)

-- what the output slice of `lodf_matrix` holds, `held` at entry
unfoldable pub lodf_output : ℕ → List Float → List ℕ → List ℕ → List Float → List Float
lodf_output n ptdf froms tos held =
    cond (eqb (lodf_refusal n ptdf froms tos (length held)) 0)
    (real_grid (outage n ptdf froms tos) (length froms) (length froms))
    held

-- ---- what an accepted call computes and writes is finite, and nothing finite is refused

pub record DcFinite : Type 0 where
  -- where the reactances are finite, so is every number that `build_b_bus` computes
  pub build-finite : (n : ℕ) (froms tos : List ℕ) (xs : List Float) (len : ℕ) → build_refusal n froms tos xs len ≡ 0
      → T (all_finite (of_build n froms tos xs))
  pub build-outputs-finite : (n : ℕ) (froms tos : List ℕ) (xs held : List Float) → build_refusal n froms tos xs (length held) ≡ 0
      → T (all_finite (built_output n froms tos xs held))
  pub lodf-outputs-finite : (n : ℕ) (ptdf : List Float) (froms tos : List ℕ) (held : List Float)
      → lodf_refusal n ptdf froms tos (length held) ≡ 0
      → T (all_finite (lodf_output n ptdf froms tos held))
  -- a call with right lengths and branch ends and with finite reactances is accepted
  pub build-accepted : (n : ℕ) (froms tos : List ℕ) (xs held : List Float) → build_shape_refusal n froms tos xs (length held) ≡ 0
      → T (all_finite xs)
      → (build_refusal n froms tos xs (length held) ≡ 0)
      × (built_output n froms tos xs held ≡ susceptances n froms tos xs (length froms))
  -- and one with right lengths and branch ends whose numbers, given and computed, are finite
  pub lodf-accepted : (n : ℕ) (ptdf : List Float) (froms tos : List ℕ) (held : List Float)
      → lodf_shape_refusal n (length ptdf) froms tos (length held) ≡ 0
      → T (all_finite ptdf)
      → T (all_finite (of_lodf n ptdf froms tos))
      → (lodf_refusal n ptdf froms tos (length held) ≡ 0)
      × (lodf_output n ptdf froms tos held ≡ real_grid (outage n ptdf froms tos) (length froms) (length froms))
