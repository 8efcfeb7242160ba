-- Studies for the order of rows, the sign of the currents and the buses' numbers, one that retains nothing, and one for each refusal, computed from
-- the definitions.
use Rattle.prelude.proofs.Prelude.{◌≡◌, refl, sym, ap, ◌∙◌, false, true≢false, arith, eqb, List, [], ◌∷◌, ℕ, ◌+◌, ◌*◌, length, replicate, Float, binary64, of_bits, span, climb, size, odd, units, round, neg, sum, add, sub, mul, div, lt, eq, of_int, of_fields}
use Rattle.complex.specs.{entry_at, row, rows, zeros, cadd, csub, cmul, sqmag, cdiv, complex_inv, plus0, one, division_limit, small_magnitude, entry, abs, magnitude}
use Rattle.lists.specs.Buses.{up_to, place, repeats, within, rows_in}
use Rattle.std.proofs.Common.{Result, Ok, Err}
use Rattle.refusals.specs.declared.Refusal.{Refusal}
use Rattle.refusals.specs.declared.Refusal.TheVariants.{ListsDiffer, NoSuchBus, Singular, BeyondAllowance, GivenNotFinite, ComputedNotFinite}
use Rattle.ward_equivalent.specs.declared.answers.WardSummary.{WardSummary}
use Rattle.ward_equivalent.specs.Arithmetic.{sum_up, current, injected_p, injected_q}
use Rattle.ward_equivalent.specs.Ward.{Study, Outputs, given_of, retained, listed, externals, admittance, y_ee, solved_column, row_times, equivalent, solved_currents, boundary_current, injection_p, injection_q, ratio}
use Rattle.ward_equivalent.specs.Studied.{summary, accepted_outputs, work_after, outputs_after, AfterWard, studied}
use Rattle.ward_equivalent.specs.Steps.{of_each, steps_of_column, steps_of_currents, of_products, of_row_times, of_equivalent_entry, of_equivalent, of_currents, of_injection, of_injections, of_ratio, steps_of, of_sums, of_ties, of_correction, steps_of_extended}
use Rattle.ward_equivalent.specs.Calls.{study_of, outputs_of, after_extended}
use Rattle.refusals.specs.declared.Allowance.TheVariants.{Unlimited, Rows}
use Rattle.refusals.specs.Refusals.{limit, computed_not_finite, refusal, answered, number_of, then_given}
use Rattle.binary64.specs.Values.{all_finite}
use Rattle.refusals.specs.Work.{computing, reductions, meets, granted, work_refusal, then_work, ◌no_more_than◌}
use Rattle.solver.specs.Steps.{of_search, of_scaling, of_reducing, steps_of_row, steps_of_rows, steps_from, steps_of_run, steps_of_solve}
use Rattle.solver.specs.GaussJordan.{stays, held_after, pivot_row, swapped, scaled, reduced, pivoted, cleared, gauss_jordan_from, gauss_jordan, augmented, solution, singular_system, pairs, pairs_from, pairs_in}
use Rattle.solver.specs.Solving.{skipped}
use Rattle.binary64.specs.Root.{root, root_of, whole_root, half, radicand}
use Rattle.ward_equivalent.specs.Extended.{ExtendedOutputs, add_up, deviation, weight, weight_sum, weighted_sum, mean_of, voltage_correction, reactive, q_compensation}
use Rattle.ward_equivalent.specs.Studied.{extended_outputs_after, studied_extended}
use Rattle.ward_equivalent.specs.Allowances.{most_rows}
use Rattle.ward_equivalent.proofs.Allowances.{study-allowances}
use Rattle.ward_equivalent.specs.Lengths.{over_limit, wrong_lengths, unmatched, length_refusal}
use Rattle.ward_equivalent.specs.Numbers.{NumberedStudy, NumberedExtended, numbered_of, numbered_extended_of, in_rows, extended_in_rows, bus_refusal, ward_shape_refusal, ward_refusal, extended_shape_refusal, extended_refusal, after_compute, after_compute_extended}

abbrev float : ℕ → Float
float b = of_bits binary64 b

-- 0, 1, -1, 2, 0.5, -0.5, 100
abbrev z : Float
z = float 0

abbrev I : Float
I = float 0x3ff0000000000000

abbrev -I : Float
-I = float 0xbff0000000000000

abbrev II : Float
II = float 0x4000000000000000

abbrev +½ : Float
+½ = float 0x3fe0000000000000

abbrev -½ : Float
-½ = float 0xbfe0000000000000

abbrev C : Float
C = float 0x4059000000000000

abbrev M : List Float
M = I ∷ z ∷ -I ∷ z ∷ -I ∷ z ∷ II ∷ z ∷ []

-- slices of the right lengths, full of ones
abbrev room : Study → Outputs
unfolding retained
room S =
    record {
      y-ward = replicate (2 * (length (retained S) * length (retained S))) I;
      p-ward = replicate (length S.boundary) I;
      q-ward = replicate (length S.boundary) I;
      work = replicate (2 * (externals S * (externals S + length (retained S) + 1))) I;
    }

-- two buses with these numbers, base 100
abbrev study : List ℕ → List Float → List ℕ → List ℕ → List ℕ → List Float → List Float → NumberedStudy
study ns ys is es bs ps qs = numbered_of ns (study_of 2 ys is es bs C ps qs)

-- number and slices at exit
abbrev after : NumberedStudy → AfterWard
after N = after_compute N Unlimited (room N.study)

-- with this allowance
abbrev under : ℕ → NumberedStudy → AfterWard
under m N = after_compute N (Rows m) (room N.study)

-- a study that reduces so many rows
abbrev counting : ℕ → ℕ → Float → ℕ → Result WardSummary Refusal
counting n r x rows = Ok (record { n_buses_reduced = n; n_buses_equivalent = r; reduction_ratio = x; rows_reduced = rows })

-- with one external bus or none there is no other row
abbrev done : ℕ → ℕ → Float → Result WardSummary Refusal
done n r x = counting n r x 0

-- to open this is to open all that the cases compute with
opened : Unit {0}
unfolding computing reductions meets granted work_refusal then_work of_search of_scaling of_reducing steps_of_row steps_of_rows steps_from steps_of_run steps_of_solve of_each steps_of_column steps_of_currents of_products of_row_times of_equivalent_entry of_equivalent of_currents of_injection of_injections of_ratio steps_of retained listed admittance sum_up y_ee solved_column row_times equivalent current injected_p injected_q solved_currents boundary_current injection_p injection_q ratio summary answered accepted_outputs work_after outputs_after studied place repeats within rows_in in_rows over_limit wrong_lengths unmatched length_refusal bus_refusal ward_shape_refusal then_given given_of all_finite ward_refusal after_compute stays held_after pivot_row swapped scaled reduced pivoted cleared gauss_jordan_from gauss_jordan augmented solution singular_system skipped cadd csub cmul sqmag cdiv complex_inv plus0 one division_limit entry abs up_to entry_at row rows zeros of_bits span climb size odd units round neg sum add sub mul div lt eq of_int of_fields
opened = tt

-- numbers as rows, for what is not about numbers
abbrev rows-own : List ℕ
rows-own = 0 ∷ 1 ∷ []

-- internal before boundary, whatever their numbers
order : after (study rows-own M (1 ∷ []) [] (0 ∷ []) [] []) ≡ record { answer = done 2 2 z; outputs = record { y-ward = II ∷ z ∷ -I ∷ z ∷ -I ∷ z ∷ I ∷ z ∷ []; p-ward = z ∷ []; q-ward = z ∷ []; work = [] } }
unfolding opened
order = refl

-- nothing retained: the currents' solve alone, of two rows
none : after (study rows-own M [] (0 ∷ 1 ∷ []) [] (z ∷ z ∷ []) (z ∷ z ∷ [])) ≡ record { answer = counting 2 0 I 2; outputs = record { y-ward = []; p-ward = []; q-ward = []; work = zeros 12 } }
unfolding opened
none = refl

-- ---- the sign of the currents

-- 1, -1 / -1, (1, 1), base 1, P 0, Q 1: the current is -j, so bus 0 gets P -0.5 and Q 0.5. The current +j would give P 0.5, since Y is not real.
abbrev turning : List Float
turning = I ∷ z ∷ -I ∷ z ∷ -I ∷ z ∷ I ∷ I ∷ []

currents : after (numbered_of rows-own (study_of 2 turning [] (1 ∷ []) (0 ∷ []) I (z ∷ []) (I ∷ [])))
    ≡ record { answer = done 2 1 +½; outputs = record { y-ward = +½ ∷ +½ ∷ []; p-ward = -½ ∷ []; q-ward = +½ ∷ []; work = zeros 6 } }
unfolding opened
currents = refl

-- the same with no external bus: nothing is turned, both injections are +0
no-currents : after (numbered_of rows-own (study_of 2 turning [] [] (0 ∷ []) I [] []))
    ≡ record { answer = done 2 1 z; outputs = record { y-ward = I ∷ z ∷ []; p-ward = z ∷ []; q-ward = z ∷ []; work = [] } }
unfolding opened
no-currents = refl

-- ---- refused, with every slice as it was but the work slice at 13

abbrev refused : NumberedStudy → ℕ → Type 0
refused N k = after N ≡ record { answer = Err (refusal k); outputs = room N.study }

lacks : refused (study rows-own M [] (2 ∷ []) (0 ∷ []) (z ∷ []) (z ∷ [])) 7
unfolding opened
lacks = refl

twice : refused (study rows-own M (0 ∷ []) (1 ∷ []) (0 ∷ []) (z ∷ []) (z ∷ [])) 8
unfolding opened
twice = refl

unlike : refused (study rows-own M [] (1 ∷ []) (0 ∷ []) (z ∷ z ∷ []) (z ∷ [])) 3
unfolding opened
unlike = refl

short : refused (study rows-own (I ∷ M) [] (1 ∷ []) (0 ∷ []) (z ∷ []) (z ∷ [])) 2
unfolding opened
short = refl

many : refused (numbered_of rows-own (study_of (limit + 1) M [] (1 ∷ []) (0 ∷ []) C (z ∷ []) (z ∷ []))) 1
unfolding opened
many = refl

abbrev flat : NumberedStudy
flat = study rows-own (z ∷ z ∷ z ∷ z ∷ z ∷ z ∷ z ∷ z ∷ []) [] (1 ∷ []) (0 ∷ []) (z ∷ []) (z ∷ [])

pivot : after flat ≡ record { answer = Err Singular; outputs = outputs_of (I ∷ I ∷ []) (I ∷ []) (I ∷ []) (zeros 6) }
unfolding opened
pivot = refl

-- ---- allowances

-- three buses, 5, 1, 1 / 1, 2, 1 / 1, 1, 2, the second and the third external: a solve for bus 0 and one for the currents, of two row reductions each
abbrev pair : List Float → NumberedStudy
pair ys = numbered_of (0 ∷ 1 ∷ 2 ∷ []) (study_of 3 ys [] (1 ∷ 2 ∷ []) (0 ∷ []) C (C ∷ z ∷ []) (z ∷ z ∷ []))

abbrev meshed : NumberedStudy
meshed = pair (float 0x4014000000000000 ∷ z ∷ I ∷ z ∷ I ∷ z ∷ I ∷ z ∷ II ∷ z ∷ I ∷ z ∷ I ∷ z ∷ I ∷ z ∷ II ∷ z ∷ [])

four-reduced : (under 4 meshed).answer ≡ counting 3 1 (float 0x3fe5555555555556) 4
unfolding opened
four-reduced = refl

all-four : under 4 meshed ≡ after meshed
unfolding opened
all-four = refl

-- three are enough for either solve, and not for both: every output is as it was, the work slice cleared
one-too-few : under 3 meshed ≡ record { answer = Err BeyondAllowance; outputs = outputs_of (I ∷ I ∷ []) (I ∷ []) (I ∷ []) (zeros 16) }
unfolding opened
one-too-few = refl

-- Y_ee is 1, 1 / 1, 1: the first solve reduces one row and finds the second pivot too small
abbrev flat-pair : NumberedStudy
flat-pair = pair (float 0x4014000000000000 ∷ z ∷ I ∷ z ∷ I ∷ z ∷ I ∷ z ∷ I ∷ z ∷ I ∷ z ∷ I ∷ z ∷ I ∷ z ∷ I ∷ z ∷ [])

pivot-first : (under 1 flat-pair).answer ≡ Err Singular
unfolding opened
pivot-first = refl

reduction-first : under 0 flat-pair ≡ record { answer = Err BeyondAllowance; outputs = outputs_of (I ∷ I ∷ []) (I ∷ []) (I ∷ []) (zeros 16) }
unfolding opened
reduction-first = refl

-- ---- finite numbers only

-- 2^600, an infinity and the largest number; base 0
abbrev huge : Float
huge = float 0x6570000000000000

abbrev infinite : Float
infinite = float 0x7ff0000000000000

abbrev most : Float
most = float 0x7fefffffffffffff

abbrev baseless : NumberedStudy → NumberedStudy
baseless N = numbered_of N.numbers (study_of N.study.size N.study.given N.study.internal N.study.external N.study.boundary z N.study.p-ext N.study.q-ext)

-- base 0: the currents are not finite, behind the two row reductions of bus 0's solve
base-behind : (under 1 (baseless meshed)).answer ≡ Err BeyondAllowance
unfolding opened
base-behind = refl

base-first : under 2 (baseless meshed) ≡ record { answer = Err ComputedNotFinite; outputs = outputs_of (I ∷ I ∷ []) (I ∷ []) (I ∷ []) (zeros 16) }
unfolding opened
base-first = refl

-- with no external bus there are no currents
base-alone : after (baseless (study rows-own M (1 ∷ []) [] (0 ∷ []) [] [])) ≡ after (study rows-own M (1 ∷ []) [] (0 ∷ []) [] [])
unfolding opened
base-alone = refl

-- 1, 2^600 / 2^600, 1: a product is not finite
product-first : after (study rows-own (I ∷ z ∷ huge ∷ z ∷ huge ∷ z ∷ I ∷ z ∷ []) [] (1 ∷ []) (0 ∷ []) (C ∷ []) (z ∷ [])) ≡ record { answer = Err ComputedNotFinite; outputs = outputs_of (I ∷ I ∷ []) (I ∷ []) (I ∷ []) (zeros 6) }
unfolding opened
product-first = refl

-- ---- the order of the work

-- internal 0, boundary 1, external 2 and 3 with 2, 1 / 1, 2: solves for buses 0 and 1 and one for the currents, of two row reductions each. Bus 0
-- has s towards bus 2, and t and u come to it from buses 2 and 3.
abbrev quartet : Float → Float → Float → NumberedStudy
quartet s t u =
    numbered_of (0 ∷ 1 ∷ 2 ∷ 3 ∷ [])
    (study_of 4
    (I ∷ z ∷ z ∷ z ∷ s ∷ z ∷ z ∷ z
    ∷ z ∷ z ∷ I ∷ z ∷ I ∷ z ∷ z ∷ z
    ∷ t ∷ z ∷ I ∷ z ∷ II ∷ z ∷ I ∷ z
    ∷ u ∷ z ∷ z ∷ z ∷ I ∷ z ∷ II ∷ z ∷ [])
    (0 ∷ []) (2 ∷ 3 ∷ []) (1 ∷ []) C (C ∷ z ∷ []) (z ∷ z ∷ []))

-- The column of bus 0 overflows in its solve's first reduction, that of bus 1 never: with one reduction allowed it is met, since internal buses
-- come before boundary ones.
internal-first : (under 1 (quartet z most (float 0xffefffffffffffff))).answer ≡ Err ComputedNotFinite
unfolding opened
internal-first = refl

-- The entry of bus 0 overflows, and no solve: with two reductions allowed the second column's solve is met before it, with four it is met before
-- the currents' solve.
entries-behind : (under 2 (quartet huge huge z)).answer ≡ Err BeyondAllowance
unfolding opened
entries-behind = refl

entries-first : (under 4 (quartet huge huge z)).answer ≡ Err ComputedNotFinite
unfolding opened
entries-first = refl

-- ---- given

-- a given number that is not finite, of a bus in no list too, and a base; told last, and the work slice as it was
not-given : refused (study rows-own (infinite ∷ z ∷ -I ∷ z ∷ -I ∷ z ∷ II ∷ z ∷ []) [] [] (1 ∷ []) [] []) 19
unfolding opened
not-given = refl

base-not-given : refused (numbered_of rows-own (study_of 2 M [] [] (0 ∷ []) infinite [] [])) 19
unfolding opened
base-not-given = refl

twice-before-given : refused (study rows-own (infinite ∷ z ∷ -I ∷ z ∷ -I ∷ z ∷ II ∷ z ∷ []) (1 ∷ []) [] (1 ∷ []) [] []) 8
unfolding opened
twice-before-given = refl

-- an input refusal comes first, and leaves the work slice
input-first : under 0 (study rows-own M [] (2 ∷ []) (0 ∷ []) (z ∷ []) (z ∷ [])) ≡ after (study rows-own M [] (2 ∷ []) (0 ∷ []) (z ∷ []) (z ∷ []))
unfolding opened
input-first = refl

-- the theorems on allowances at the edges of their premises: what is carried out, what 13 ends and what the input refuses is the same with more
-- allowed, and the bound is enough
not_beyond : (a : Result WardSummary Refusal) → eqb (number_of a) 18 ≡ false → a ≡ Err BeyondAllowance → ⊥
not_beyond a t e = true≢false (sym (ap (λ (x : Result WardSummary Refusal). eqb (number_of x) 18) e) ∙ t)

others : (eqb (number_of (under 4 meshed).answer) 18 ≡ false) × (eqb (number_of (under 1 flat-pair).answer) 18 ≡ false)
unfolding opened
others = (refl, refl)

still-done : after meshed ≡ under 4 meshed
unfolding ◌no_more_than◌
still-done = study-allowances.larger meshed (Rows 4) Unlimited (room meshed.study) tt (not_beyond _ others.0)

still-singular : under 2 flat-pair ≡ under 1 flat-pair
unfolding ◌no_more_than◌
still-singular = study-allowances.larger flat-pair (Rows 1) (Rows 2) (room flat-pair.study) (omega arith) (not_beyond _ others.1)

from-four : under 4 meshed ≡ after meshed
unfolding most_rows retained
from-four = study-allowances.from-bound meshed 4 (room meshed.study) (omega arith)

-- ---- numbers

-- M in row order, its second bus external with P 100: 0.5 is left, and the first bus gets 50
abbrev halved : AfterWard
halved = record { answer = done 2 1 +½; outputs = outputs_of (+½ ∷ z ∷ []) (float 0x4049000000000000 ∷ []) (z ∷ []) (zeros 6) }

own : after (study rows-own M [] (1 ∷ []) (0 ∷ []) (C ∷ []) (z ∷ [])) ≡ halved
unfolding opened
own = refl

-- a list numbered from one, boundary 1 and external 2: no row has the number 2, or it is right
from_one : refused (study rows-own M [] (2 ∷ []) (1 ∷ []) (C ∷ []) (z ∷ [])) 7
unfolding opened
from_one = refl

numbered-from-one : after (study (1 ∷ 2 ∷ []) M [] (2 ∷ []) (1 ∷ []) (C ∷ []) (z ∷ [])) ≡ halved
unfolding opened
numbered-from-one = refl

-- the smallest number and the largest
furthest : after (study (4294967295 ∷ 0 ∷ []) M [] (0 ∷ []) (4294967295 ∷ []) (C ∷ []) (z ∷ [])) ≡ halved
unfolding opened
furthest = refl

-- boundary 1, external 0: where row 0 has number 1, and where the numbers are the rows. Entry and injection are twice as large there
turned : after (study (1 ∷ 0 ∷ []) M [] (0 ∷ []) (1 ∷ []) (C ∷ []) (z ∷ [])) ≡ halved
unfolding opened
turned = refl

not-turned : after (study rows-own M [] (0 ∷ []) (1 ∷ []) (C ∷ []) (z ∷ [])) ≡ record { answer = done 2 1 +½; outputs = outputs_of (I ∷ z ∷ []) (C ∷ []) (z ∷ []) (zeros 6) }
unfolding opened
not-turned = refl

-- rows of the equivalent are in the lists' order, not in that of the numbers
unsorted : after (study (7 ∷ 3 ∷ []) M (7 ∷ []) [] (3 ∷ []) [] []) ≡ record { answer = done 2 2 z; outputs = outputs_of M (z ∷ []) (z ∷ []) [] }
unfolding opened
unsorted = refl

-- a number that stands twice, also where no list names it
number-twice : refused (study (1 ∷ 1 ∷ []) M [] [] (1 ∷ []) [] []) 8
unfolding opened
number-twice = refl

number-twice-unlisted : refused (study (1 ∷ 1 ∷ []) M [] [] [] [] []) 8
unfolding opened
number-twice-unlisted = refl

-- 7 comes before 8, of the numbers and of the lists
lacks-first : refused (study (1 ∷ 1 ∷ []) M [] [] (2 ∷ []) [] []) 7
unfolding opened
lacks-first = refl

lacks-before-twice : refused (study rows-own M (0 ∷ []) (2 ∷ []) (0 ∷ []) (z ∷ []) (z ∷ [])) 7
unfolding opened
lacks-before-twice = refl

-- one number short, one too many, more than the limit; these come before 3, 7 and 8
one-short : refused (study (0 ∷ []) M [] (1 ∷ []) (0 ∷ []) [] []) 2
unfolding opened
one-short = refl

one-long : refused (study (0 ∷ 0 ∷ 0 ∷ []) M [] (1 ∷ []) (0 ∷ []) (z ∷ []) (z ∷ [])) 2
unfolding opened
one-long = refl

many-numbers : refused (study (replicate (limit + 1) 0) M [] (1 ∷ []) (0 ∷ []) (z ∷ []) (z ∷ [])) 1
unfolding opened
many-numbers = refl

-- ---- extended

-- (3, -4), (-3, 4) / (-3, 4), (1, 1)
abbrev skew : List Float
skew =
    float 0x4008000000000000 ∷ float 0xc010000000000000 ∷ float 0xc008000000000000 ∷ float 0x4010000000000000
    ∷ float 0xc008000000000000 ∷ float 0x4010000000000000 ∷ I ∷ I ∷ []

-- base 1, P 0, Q 1; rows 0 and 1 have the numbers 7 and 3
abbrev extended : ℕ → List Float → NumberedExtended
extended k vs = numbered_extended_of (numbered_of (7 ∷ 3 ∷ []) (study_of 2 skew [] (k ∷ []) (7 ∷ []) I (z ∷ []) (I ∷ []))) vs

abbrev wide : NumberedExtended → ExtendedOutputs
wide X = record { outputs = room X.study.study; correction = I ∷ []; compensation = I ∷ [] }

opened-extended : Unit {0}
unfolding opened of_sums of_ties of_correction steps_of_extended magnitude root root_of whole_root half radicand small_magnitude add_up deviation weight weight_sum weighted_sum mean_of voltage_correction reactive q_compensation extended_outputs_after studied_extended extended_in_rows extended_shape_refusal extended_refusal after_compute_extended
opened-extended = tt

-- voltage 1.25: bus 7 gets P -3.5 and Q -0.5; its correction is 0.25, and the extended form's own Q -1
both-q : let X = extended 3 (float 0x3ff4000000000000 ∷ []) in
    after_compute_extended X Unlimited (wide X)
    ≡ after_extended (done 2 1 +½) (outputs_of (float 0x4032800000000000 ∷ float 0x4012000000000000 ∷ []) (float 0xc00c000000000000 ∷ []) (-½ ∷ []) (zeros 6)) (float 0x3fd0000000000000 ∷ []) (-I ∷ [])
unfolding opened-extended
both-q = refl

-- the extended form of `meshed`: as many rows, and with one too few neither correction nor compensation is written
abbrev wide-pair : NumberedExtended
wide-pair = numbered_extended_of meshed (I ∷ I ∷ [])

extended-beyond : after_compute_extended wide-pair (Rows 3) (wide wide-pair) ≡ after_extended (Err BeyondAllowance) (outputs_of (I ∷ I ∷ []) (I ∷ []) (I ∷ []) (zeros 16)) (I ∷ []) (I ∷ [])
unfolding opened-extended
extended-beyond = refl

extended-four : (after_compute_extended wide-pair (Rows 4) (wide wide-pair)).answer ≡ counting 3 1 (float 0x3fe5555555555556) 4
unfolding opened-extended
extended-four = refl

other-extended : eqb (number_of (after_compute_extended wide-pair (Rows 4) (wide wide-pair)).answer) 18 ≡ false
unfolding opened-extended
other-extended = refl

still-done-extended : after_compute_extended wide-pair Unlimited (wide wide-pair) ≡ after_compute_extended wide-pair (Rows 4) (wide wide-pair)
unfolding ◌no_more_than◌
still-done-extended = study-allowances.larger-extended wide-pair (Rows 4) Unlimited (wide wide-pair) tt (not_beyond _ other-extended)

from-four-extended : after_compute_extended wide-pair (Rows 4) (wide wide-pair) ≡ after_compute_extended wide-pair Unlimited (wide wide-pair)
unfolding most_rows retained
from-four-extended = study-allowances.from-bound-extended wide-pair 4 (wide wide-pair) (omega arith)

unlike-v : after_compute_extended (extended 3 []) Unlimited (wide (extended 3 [])) ≡ record { answer = Err ListsDiffer; outputs = wide (extended 3 []) }
unfolding opened-extended
unlike-v = refl

lacks-v : let X = extended 1 (I ∷ []) in after_compute_extended X Unlimited (wide X) ≡ record { answer = Err NoSuchBus; outputs = wide X }
unfolding opened-extended
lacks-v = refl

-- ---- finite numbers only

-- all entries 2, the voltage 1.7e308: the study is accepted, its correction is not finite
abbrev loud : NumberedExtended
loud = numbered_extended_of (numbered_of rows-own (study_of 2 (II ∷ z ∷ II ∷ z ∷ II ∷ z ∷ II ∷ z ∷ []) [] (1 ∷ []) (0 ∷ []) I (I ∷ []) (z ∷ []))) (float 0x7fee42d130773b76 ∷ [])

loud-study : (after loud.study).answer ≡ done 2 1 +½
unfolding opened
loud-study = refl

loud-correction : after_compute_extended loud Unlimited (wide loud) ≡ after_extended (Err ComputedNotFinite) (outputs_of (I ∷ I ∷ []) (I ∷ []) (I ∷ []) (zeros 6)) (I ∷ []) (I ∷ [])
unfolding opened-extended
loud-correction = refl

-- the same by `meets-first-extended`, whose premise it meets: its own study's work meets no 20
loud-unlost : eqb (work_refusal Unlimited (steps_of (in_rows loud.study))) computed_not_finite ≡ false
unfolding opened
loud-unlost = refl

loud-by-law : work_refusal (Rows 0) (steps_of_extended (extended_in_rows loud)) ≡ computed_not_finite
unfolding opened-extended pairs pairs_from pairs_in
loud-by-law = study-allowances.meets-first-extended (extended_in_rows loud) 0 tt (λ (e : work_refusal Unlimited (steps_of (in_rows loud.study)) ≡ computed_not_finite). true≢false (sym (ap (λ (x : ℕ). eqb x computed_not_finite) e) ∙ loud-unlost))

-- a voltage that is not finite
v-not-given : let X = extended 3 (infinite ∷ []) in after_compute_extended X Unlimited (wide X) ≡ record { answer = Err GivenNotFinite; outputs = wide X }
unfolding opened-extended
v-not-given = refl
