-- Small systems computed from the definitions that the contracts cite: equal and incomparable pivots, a singular one, allowances around the count,
-- numbers that are not finite, inverses, wrong lengths, and calls that meet the premises of the theorems.
use Rattle.prelude.proofs.Prelude.{◌≡◌, refl, sym, ap, ◌∙◌, true, false, not, true≢false, List, [], ◌∷◌, ◌++◌, ℕ, ◌-◌, ◌*◌, ◌≤◌, arith, lit≤, T, eqb, length, replicate, Float, nan, inf, binary64, lt, add, sub, mul, div, of_bits}
use Rattle.std.proofs.Common.{Result, Ok, Err}
use Rattle.binary64.specs.Values.{all_finite}
use Rattle.complex.specs.{Matrix, plus0, one, division_limit, csub, cmul, sqmag, cdiv, complex_inv, abs, entry, entry_at, row, rows, grid, zeros}
use Rattle.lists.specs.Buses.{up_to}
use Rattle.refusals.specs.declared.Allowance.{Allowance}
use Rattle.refusals.specs.declared.Allowance.TheVariants.{Unlimited, Rows}
use Rattle.refusals.specs.declared.Refusal.{Refusal}
use Rattle.refusals.specs.declared.Refusal.TheVariants.{WrongLength, EmptySystem, Singular, BeyondAllowance, GivenNotFinite, ComputedNotFinite}
use Rattle.refusals.specs.Refusals.{then_given, answered, number_of, computed_not_finite}
use Rattle.refusals.specs.Work.{computing, numbers_in, reductions, meets, granted, work_refusal, then_work, ◌no_more_than◌}
use Rattle.solver.specs.GaussJordan.{stays, held_after, pivot_row, swapped, scaled, reduced, pivoted, cleared, gauss_jordan_from, gauss_jordan, pairs_in, pairs_from, pairs, augmented, solution, singular_system}
use Rattle.solver.specs.Solving.{operations, is_singular, skipped, unit_column}
use Rattle.solver.specs.Steps.{workings, of_search, of_scaling, of_reducing, steps_of_row, steps_of_rows, steps_from, steps_of_run, steps_of_solve, steps_of_inverse}
use Rattle.solver.proofs.Allowances.{solve-allowances}
use Rattle.solver.proofs.FiniteAnswers.{accepted-answers}
use Rattle.solver.specs.Calls.{AfterElimination, solve_shape_refusal, solve_refusal, inverse_shape_refusal, inverse_refusal, after_solve, after_inverse, after_elimination}

-- +0, 1, -1, 2, 3, 4, 5 and 0.5
abbrev o : Float
o = of_bits binary64 0

abbrev p1 : Float
p1 = of_bits binary64 0x3ff0000000000000

abbrev m1 : Float
m1 = of_bits binary64 0xbff0000000000000

abbrev p2 : Float
p2 = of_bits binary64 0x4000000000000000

abbrev p3 : Float
p3 = of_bits binary64 0x4008000000000000

abbrev p4 : Float
p4 = of_bits binary64 0x4010000000000000

abbrev p5 : Float
p5 = of_bits binary64 0x4014000000000000

abbrev half : Float
half = of_bits binary64 0x3fe0000000000000

-- to open this is to open all that the cases compute with
opened : Unit {0}
unfolding all_finite then_given computing reductions meets granted work_refusal then_work answered of_search of_scaling of_reducing steps_of_row steps_of_rows steps_from steps_of_run steps_of_solve steps_of_inverse plus0 one division_limit csub cmul sqmag cdiv complex_inv abs entry up_to entry_at row rows grid zeros stays held_after pivot_row swapped scaled reduced pivoted cleared gauss_jordan_from gauss_jordan pairs_in pairs_from pairs augmented solution singular_system skipped unit_column solve_shape_refusal solve_refusal inverse_shape_refusal inverse_refusal after_solve after_inverse after_elimination lt add sub mul div of_bits
opened = tt

-- 1, 1 / 1, 4 with right side 0, 1: the first column's pivots are equal, and the upper row is taken. The lower one would give the first answer as bfd5555555555554.
abbrev tie : List Float
tie = p1 ∷ o ∷ p1 ∷ o ∷ p1 ∷ o ∷ p4 ∷ o ∷ []

abbrev tied : Allowance → AfterElimination (Result ℕ Refusal)
tied allowance = after_solve 2 tie (o ∷ o ∷ p1 ∷ o ∷ []) allowance (replicate 4 m1) (replicate 12 m1)

upper-row : tied Unlimited ≡ record { answer = Ok 2; output = of_bits binary64 0xbfd5555555555555 ∷ o ∷ of_bits binary64 0x3fd5555555555555 ∷ o ∷ []; work = zeros 12 }
unfolding opened
upper-row = refl

-- both rows are reduced once: two row reductions are enough, and with one the output is as it was, the work slice cleared
exact : tied (Rows 2) ≡ tied Unlimited
unfolding opened
exact = refl

one-too-few : tied (Rows 1) ≡ record { answer = Err BeyondAllowance; output = replicate 4 m1; work = zeros 12 }
unfolding opened
one-too-few = refl

-- NaN, 0 / 0, 1: the NaN is held and stays. No call comes to it: a NaN given is 19, told after 2 and 5, and everything is as it was.
abbrev lost : List Float
lost = nan ∷ o ∷ o ∷ o ∷ o ∷ o ∷ p1 ∷ o ∷ []

nan-held : pivot_row operations 2 (entry_at 2 lost) 0 ≡ 0
unfolding opened
nan-held = refl

nan-given : after_solve 2 lost (p1 ∷ o ∷ p1 ∷ o ∷ []) (Rows 1) (replicate 4 m1) (replicate 12 m1) ≡ record { answer = Err GivenNotFinite; output = replicate 4 m1; work = replicate 12 m1 }
unfolding opened
nan-given = refl

infinite-right : (after_solve 2 tie (o ∷ o ∷ p1 ∷ inf true ∷ []) (Rows 1) (replicate 4 m1) (replicate 12 m1)).answer ≡ Err GivenNotFinite
unfolding opened
infinite-right = refl

nan-without-room : (after_solve 2 lost (p1 ∷ o ∷ p1 ∷ o ∷ []) (Rows 1) (replicate 4 m1) (replicate 11 m1)).answer ≡ Err WrongLength
unfolding opened
nan-without-room = refl

nan-without-side : (after_solve 2 lost (p1 ∷ o ∷ p1 ∷ []) (Rows 1) (replicate 4 m1) (replicate 12 m1)).answer ≡ Err EmptySystem
unfolding opened
nan-without-side = refl

-- 2, 0 / 0, 4: every factor is skipped, and an allowance of 0 is enough
none-reduced : after_solve 2 (p2 ∷ o ∷ o ∷ o ∷ o ∷ o ∷ p4 ∷ o ∷ []) (p1 ∷ o ∷ p2 ∷ o ∷ []) (Rows 0) (replicate 4 m1) (replicate 12 m1)
    ≡ record { answer = Ok 0; output = half ∷ o ∷ half ∷ o ∷ []; work = zeros 12 }
unfolding opened
none-reduced = refl

-- 1, 1 / 1, 1 is singular: the output is as it was, the work slice is cleared
abbrev flat : Allowance → AfterElimination (Result ℕ Refusal)
flat allowance = after_solve 2 (p1 ∷ o ∷ p1 ∷ o ∷ p1 ∷ o ∷ p1 ∷ o ∷ []) (p2 ∷ o ∷ o ∷ o ∷ []) allowance (replicate 4 m1) (m1 ∷ o ∷ o ∷ o ∷ o ∷ o ∷ o ∷ o ∷ o ∷ o ∷ o ∷ p1 ∷ [])

singular-pair : flat Unlimited ≡ record { answer = Err Singular; output = replicate 4 m1; work = zeros 12 }
unfolding opened
singular-pair = refl

-- the second row's reduction comes before the second pivot: 13 with it allowed, 18 without
pivot-first : flat (Rows 1) ≡ flat Unlimited
unfolding opened
pivot-first = refl

reduction-first : flat (Rows 0) ≡ record { answer = Err BeyondAllowance; output = replicate 4 m1; work = zeros 12 }
unfolding opened
reduction-first = refl

-- -1, 4 / 1, 0 with right side 2, -1: of the equal pivots the upper row is taken, and both rows are reduced. The lower one's zero would be skipped.
abbrev skew : Allowance → AfterElimination (Result ℕ Refusal)
skew allowance = after_solve 2 (m1 ∷ o ∷ p4 ∷ o ∷ p1 ∷ o ∷ o ∷ o ∷ []) (p2 ∷ o ∷ m1 ∷ o ∷ []) allowance (replicate 4 m1) (replicate 12 m1)

two-reduced : (skew (Rows 2)).answer ≡ Ok 2
unfolding opened
two-reduced = refl

second-exceeds : (skew (Rows 1)).answer ≡ Err BeyondAllowance
unfolding opened
second-exceeds = refl

-- 7, t / 7, 0 with right side 4, t, t = 1e-150: of the equal pivots the upper row is taken, and leaves the other a pivot of about -t whose square is
-- below 1e-300. The lower row would leave t, whose square is not.
abbrev faint : Float
faint = of_bits binary64 0x20ca2fe76a3f9475

abbrev p7 : Float
p7 = of_bits binary64 0x401c000000000000

abbrev slight : Allowance → AfterElimination (Result ℕ Refusal)
slight allowance = after_solve 2 (p7 ∷ o ∷ faint ∷ o ∷ p7 ∷ o ∷ o ∷ o ∷ []) (p4 ∷ o ∷ faint ∷ o ∷ []) allowance (replicate 4 m1) (replicate 12 m1)

slight-pivot : (slight (Rows 1)).answer ≡ Err Singular
unfolding opened
slight-pivot = refl

slight-exceeds : (slight (Rows 0)).answer ≡ Err BeyondAllowance
unfolding opened
slight-exceeds = refl

-- ---- numbers that are not finite on the way

-- 2^-400, 2^500, 2^600, 2^700 and the largest number
abbrev tiny : Float
tiny = of_bits binary64 0x26f0000000000000

abbrev p500 : Float
p500 = of_bits binary64 0x5f30000000000000

abbrev p600 : Float
p600 = of_bits binary64 0x6570000000000000

abbrev p700 : Float
p700 = of_bits binary64 0x6bb0000000000000

abbrev most : Float
most = of_bits binary64 0x7fefffffffffffff

-- 2^-400, 0 / 0, 0 is singular in its second column. With right side 2^700, 0 the first row, scaled by 2^400, overflows before: 20, and the work slice
-- is cleared; with 1, 0 it does not.
abbrev steep : Float → AfterElimination (Result ℕ Refusal)
steep x = after_solve 2 (tiny ∷ o ∷ o ∷ o ∷ o ∷ o ∷ o ∷ o ∷ []) (x ∷ o ∷ o ∷ o ∷ []) Unlimited (replicate 4 m1) (replicate 12 m1)

overflow-first : steep p700 ≡ record { answer = Err ComputedNotFinite; output = replicate 4 m1; work = zeros 12 }
unfolding opened
overflow-first = refl

pivot-too-small-first : (steep p1).answer ≡ Err Singular
unfolding opened
pivot-too-small-first = refl

-- So by counts and pivots alone 20 is not seen: without its premise the theorem on what is met first would tell 13 here.
not-by-counts : (work_refusal (Rows 2) (steps_of_solve 2 (entry_at 2 (tiny ∷ o ∷ o ∷ o ∷ o ∷ o ∷ o ∷ o ∷ [])) (entry (p700 ∷ o ∷ o ∷ o ∷ []))) ≡ computed_not_finite)
    × (is_singular 2 (entry_at 2 (tiny ∷ o ∷ o ∷ o ∷ o ∷ o ∷ o ∷ o ∷ [])) ≡ true) × (pairs operations 2 (entry_at 2 (tiny ∷ o ∷ o ∷ o ∷ o ∷ o ∷ o ∷ o ∷ [])) ≡ 0)
unfolding opened
not-by-counts = (refl, refl, refl)

-- 1, 2^600 / 2^500, 1: the second column's weights overflow. The row reduction before is 18 where it is not allowed.
abbrev broad : Allowance → AfterElimination (Result ℕ Refusal)
broad allowance = after_solve 2 (p1 ∷ o ∷ p600 ∷ o ∷ p500 ∷ o ∷ p1 ∷ o ∷ []) (p1 ∷ o ∷ p1 ∷ o ∷ []) allowance (replicate 4 m1) (replicate 12 m1)

reduction-before : (broad (Rows 0)).answer ≡ Err BeyondAllowance
unfolding opened
reduction-before = refl

weight-after : broad (Rows 1) ≡ record { answer = Err ComputedNotFinite; output = replicate 4 m1; work = zeros 12 }
unfolding opened
weight-after = refl

-- t, 3 / t, 0 with right side the largest number, 2^-400, t = 1e-150: with the upper row taken the right side, scaled by 1e150, overflows
taken-overflows : (after_solve 2 (faint ∷ o ∷ p3 ∷ o ∷ faint ∷ o ∷ o ∷ o ∷ []) (most ∷ o ∷ tiny ∷ o ∷ []) Unlimited (replicate 4 m1) (replicate 12 m1)).answer ≡ Err ComputedNotFinite
unfolding opened
taken-overflows = refl

-- (t, 4), (largest, 1) / (t, 4), (largest, 3) with right side 0, 5: with the upper row taken nothing does
taken-finite : (after_solve 2 (faint ∷ p4 ∷ most ∷ p1 ∷ faint ∷ p4 ∷ most ∷ p3 ∷ []) (o ∷ o ∷ p5 ∷ o ∷ []) Unlimited (replicate 4 m1) (replicate 12 m1)).answer ≡ Ok 2
unfolding opened
taken-finite = refl

-- 49, 2^600 / 1, (2^600 times the rounded 1/49, 1e-150) with right side 0, 0: 49 times its rounded inverse is not 1, so the second row keeps 2^-53 in
-- the first column. Scaled by 1e150 and times the first row's 2^600 / 49 it is beyond all numbers, left of the second pivot. Nothing else is, so that
-- rows scaled or reduced from their pivot's column on would be accepted.
abbrev p49 : Float
p49 = of_bits binary64 0x4048800000000000

abbrev share : Float
share = of_bits binary64 0x6514e5e0a72f0539

abbrev left_over : List Float
left_over = p49 ∷ o ∷ p600 ∷ o ∷ p1 ∷ o ∷ share ∷ faint ∷ []

abbrev kept : Allowance → AfterElimination (Result ℕ Refusal)
kept allowance = after_solve 2 left_over (replicate 4 o) allowance (replicate 4 m1) (replicate 12 m1)

its-share : share ≡ mul binary64 p600 (div binary64 p1 p49)
unfolding opened
its-share = refl

-- both row reductions come before: the second begins, and then meets 20
first-exceeds : ((kept (Rows 0)).answer ≡ Err BeyondAllowance) × ((kept (Rows 1)).answer ≡ Err BeyondAllowance)
unfolding opened
first-exceeds = (refl, refl)

left-overflows : kept Unlimited ≡ record { answer = Err ComputedNotFinite; output = replicate 4 m1; work = zeros 12 }
unfolding opened
left-overflows = refl

from-two-on : (m : ℕ) → 2 ≤ m → kept (Rows m) ≡ kept Unlimited
from-two-on m h = solve-allowances.from-bound 2 left_over _ m _ _ h

-- in the second row reduction, that of the first row, which has three columns, the first is lost and the others are not
abbrev at_second : Matrix
at_second = scaled operations 1 (pivoted operations 2 1 (cleared operations 0 (pivoted operations 2 0 (augmented operations 2 (entry_at 2 left_over) (λ (r k : ℕ). entry (replicate 4 o) r)))))

left_alone : (all_finite (of_reducing operations workings at_second 1 0 (0 ∷ [])) ≡ false) × (all_finite (of_reducing operations workings at_second 1 0 (1 ∷ 2 ∷ [])) ≡ true)
unfolding opened
left_alone = (refl, refl)

-- ---- inverses

-- the inverse of one number, by its bits
abbrev inverted : Float → AfterElimination (Result (Unit {0}) Refusal)
inverted x = after_inverse 1 (x ∷ o ∷ []) (m1 ∷ m1 ∷ []) (replicate 4 m1)

inverse-2 : inverted p2 ≡ record { answer = Ok tt; output = half ∷ o ∷ []; work = zeros 4 }
unfolding opened
inverse-2 = refl

-- the square of 2^512 overflows, that of 2^511 does not
square-overflows : inverted (of_bits binary64 0x5ff0000000000000) ≡ record { answer = Err ComputedNotFinite; output = m1 ∷ m1 ∷ []; work = zeros 4 }
unfolding opened
square-overflows = refl

square-finite : (inverted (of_bits binary64 0x5fe0000000000000)).answer ≡ Ok tt
unfolding opened
square-finite = refl

-- that of 2^-499 is too small, that of 2^-498 is not
square-too-small : (inverted (of_bits binary64 0x20c0000000000000)).answer ≡ Err Singular
unfolding opened
square-too-small = refl

square-large-enough : (inverted (of_bits binary64 0x20d0000000000000)).answer ≡ Ok tt
unfolding opened
square-large-enough = refl

inverse-of-infinity : inverted (inf false) ≡ record { answer = Err GivenNotFinite; output = m1 ∷ m1 ∷ []; work = replicate 4 m1 }
unfolding opened
inverse-of-infinity = refl

-- a wrong length is told before an empty system, and both leave everything; the allowance is not looked at
wrong-length : after_inverse 0 (p1 ∷ []) (p2 ∷ []) (m1 ∷ []) ≡ record { answer = Err WrongLength; output = p2 ∷ []; work = m1 ∷ [] }
unfolding opened
wrong-length = refl

no-system : after_solve 0 [] (p1 ∷ []) (Rows 0) [] [] ≡ record { answer = Err EmptySystem; output = []; work = [] }
unfolding opened
no-system = refl

-- ---- the theorems on allowances at the edges of their premises

not_beyond : (a : Result ℕ Refusal) → eqb (number_of a) 18 ≡ false → a ≡ Err BeyondAllowance → ⊥
not_beyond a t e = true≢false (sym (ap (λ (x : Result ℕ Refusal). eqb (number_of x) 18) e) ∙ t)

-- what is carried out, what 13 ends and what the input refuses is the same with more allowed
others : (eqb (number_of (tied (Rows 2)).answer) 18 ≡ false) × (eqb (number_of (flat (Rows 1)).answer) 18 ≡ false)
    × (eqb (number_of (after_solve 0 [] (p1 ∷ []) (Rows 0) [] []).answer) 18 ≡ false)
unfolding opened
others = (refl, refl, refl)

still-done : tied Unlimited ≡ tied (Rows 2)
unfolding ◌no_more_than◌
still-done = solve-allowances.larger 2 tie _ (Rows 2) Unlimited _ _ tt (not_beyond _ others.0)

still-singular : flat (Rows 2) ≡ flat (Rows 1)
unfolding ◌no_more_than◌
still-singular = solve-allowances.larger 2 _ _ (Rows 1) (Rows 2) _ _ (omega arith) (not_beyond _ others.1)

still-refused : after_solve 0 [] (p1 ∷ []) (Rows 1) [] [] ≡ after_solve 0 [] (p1 ∷ []) (Rows 0) [] []
unfolding ◌no_more_than◌
still-refused = solve-allowances.larger 0 [] _ (Rows 0) (Rows 1) [] [] (omega arith) (not_beyond _ others.2)

-- the bound is reached, and enough
bound-reached : (tied Unlimited).answer ≡ Ok (2 * (2 - 1))
unfolding opened
bound-reached = refl

from-two : tied (Rows (2 * (2 - 1))) ≡ tied Unlimited
from-two = solve-allowances.from-bound 2 tie _ _ _ _ (omega arith)

-- ---- nothing finite is refused: calls that meet the premises, each shown by itself; the solve with an allowance of just as many rows as it reduces

abbrev side : List Float
side = o ∷ o ∷ p1 ∷ o ∷ []

tied-shaped : solve_shape_refusal 2 (length tie) (length side) (length (replicate 4 m1)) (length (replicate 12 m1)) ≡ 0
unfolding opened
tied-shaped = refl

tied-given : T (all_finite (tie ++ side))
unfolding opened
tied-given = tt

tied-computed : T (all_finite (numbers_in (steps_of_solve 2 (entry_at 2 tie) (entry side))))
unfolding opened numbers_in
tied-computed = tt

tied-regular : T (not (is_singular 2 (entry_at 2 tie)))
unfolding opened
tied-regular = tt

tied-enough : Rows (reductions (steps_of_solve 2 (entry_at 2 tie) (entry side))) no_more_than Rows 2
unfolding opened ◌no_more_than◌
tied-enough = lit≤ tt

accepts-tied : (tied (Rows 2)).answer ≡ Ok (reductions (steps_of_solve 2 (entry_at 2 tie) (entry side)))
unfolding ◌no_more_than◌
accepts-tied =
    ap (λ (l : AfterElimination (Result ℕ Refusal)). l.answer)
    (accepted-answers.accepted-solve 2 tie side (Rows 2) (replicate 4 m1) (replicate 12 m1)
    (search (tied-shaped, tt)) (search (tied-given, tt)) (search (tied-computed, tt)) (search (tied-regular, tt)) (search (tied-enough, lit≤, tt)))

abbrev pair : List Float
pair = p2 ∷ o ∷ []

two_shaped : inverse_shape_refusal 1 (length pair) (length (m1 ∷ m1 ∷ [])) (length (replicate 4 m1)) ≡ 0
unfolding opened
two_shaped = refl

two-given : T (all_finite pair)
unfolding opened
two-given = tt

two-computed : T (all_finite (numbers_in (steps_of_inverse 1 (entry_at 1 pair))))
unfolding opened numbers_in
two-computed = tt

two-regular : T (not (is_singular 1 (entry_at 1 pair)))
unfolding opened
two-regular = tt

accepts-2 : (inverted p2).answer ≡ Ok tt
accepts-2 =
    ap (λ (l : AfterElimination (Result (Unit {0}) Refusal)). l.answer)
    (accepted-answers.accepted-inverse 1 pair (m1 ∷ m1 ∷ []) (replicate 4 m1) (search (two_shaped, tt)) (search (two-given, tt)) (search (two-computed, tt)) (search (two-regular, tt)))
