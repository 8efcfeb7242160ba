-- Studies that meet the premises of `ward_rows`, one of each kind: the row of bus 3 has zeros towards both external buses and keeps its values; that the row of
-- bus 2 changes stands in demand3!Bites. A bus is told by its row in the matrix, in the study's lists by number.
use Rattle.prelude.proofs.Prelude.{refl, List, [], ◌∷◌, ℕ, lit<, lit≤, binary64, of_bits, sub, mul, div, lt, eq, of_int}
use Rattle.complex.specs.{cadd, csub, cmul, cdiv, complex_inv, entry, magnitude, entry_at, zeros, Zero}
use Rattle.binary64.specs.Root.{root}
use Rattle.lists.specs.Buses.{up_to}
use Rattle.lists.proofs.Each.{of-each}
use Rattle.binary64.specs.Values.{all_finite}
use Rattle.binary64.specs.BitPatterns.{of_bit_patterns}
use Rattle.binary64.proofs.BitPatterns.{words-f64s}
use Rattle.solver.specs.GaussJordan.{solution, singular_system}
use Rattle.solver.specs.Solving.{skipped}
use Rattle.refusals.specs.declared.Allowance.{Allowance}
use Rattle.refusals.specs.declared.Allowance.TheVariants.{Rows}
use Rattle.refusals.specs.Work.{numbers_in, reductions, then_work, ◌no_more_than◌}
use Rattle.solver.specs.Steps.{of_search, of_scaling, of_reducing, steps_of_row, steps_of_rows, steps_from, steps_of_run, steps_of_solve}
use Rattle.ward_equivalent.specs.Ward.{Study, Outputs, given_of}
use Rattle.ward_equivalent.specs.Steps.{steps_of, of_extended}
use Rattle.ward_equivalent.specs.Calls.{study_of}
use Rattle.ward_equivalent.specs.FiniteAnswers.{Regular}
use Rattle.ward_equivalent.specs.Extended.{ExtendedStudy, ExtendedOutputs}
use Rattle.ward_equivalent.specs.Numbers.{NumberedStudy, numbered_of, NumberedExtended, numbered_extended_of, in_rows, extended_in_rows, AcceptedStudy, AcceptedExtended, after_compute, after_compute_extended}
use Rattle.ward_claims.specs.WardRows.{FiniteStudy, FiniteExtended, old, row_buses, ZeroRow, KeepsRow, KeepsExtendedRow}
use Rattle.ward_claims.proofs.WardRows.{ward_rows}

-- the bit patterns of 1 and 2
abbrev I : ℕ
I = 0x3ff0000000000000

abbrev II : ℕ
II = 0x4000000000000000

-- and of 2^500, -2^500 and 2^501, whose squares are finite
abbrev L : ℕ
L = 0x5f30000000000000

abbrev -L : ℕ
-L = 0xdf30000000000000

abbrev LL : ℕ
LL = 0x5f40000000000000

-- buses 0 - 1 - 2 - 3 - 4 in a row; buses 0 and 1 are external, bus 0 with a shunt
abbrev line : List ℕ
line =
    LL ∷ 0 ∷ -L ∷ 0 ∷ 0 ∷ 0 ∷ 0 ∷ 0 ∷ 0 ∷ 0
    ∷ -L ∷ 0 ∷ LL ∷ 0 ∷ -L ∷ 0 ∷ 0 ∷ 0 ∷ 0 ∷ 0
    ∷ 0 ∷ 0 ∷ -L ∷ 0 ∷ LL ∷ 0 ∷ -L ∷ 0 ∷ 0 ∷ 0
    ∷ 0 ∷ 0 ∷ 0 ∷ 0 ∷ -L ∷ 0 ∷ LL ∷ 0 ∷ -L ∷ 0
    ∷ 0 ∷ 0 ∷ 0 ∷ 0 ∷ 0 ∷ 0 ∷ -L ∷ 0 ∷ L ∷ 0 ∷ []

-- the internal bus is 4, the external ones 1 and 0, the boundary's 3 and 2; no number is that of its own row
abbrev pub N : NumberedStudy
N = numbered_of (2 ∷ 0 ∷ 4294967295 ∷ 1 ∷ 3 ∷ []) (study_of 5 (of_bit_patterns line) (3 ∷ []) (0 ∷ 2 ∷ []) (1 ∷ 4294967295 ∷ []) (of_bits binary64 II) (of_bit_patterns (I ∷ I ∷ [])) (of_bit_patterns (I ∷ I ∷ [])))

-- the study by rows
abbrev pub S : Study
S = in_rows N

-- four solves, for buses 4, 3 and 2 and the currents, of two row reductions each: these and no more
abbrev pub eight : Allowance
eight = Rows 8

abbrev pub o : Outputs
o = record { y-ward = zeros 18; p-ward = zeros 2; q-ward = zeros 2; work = zeros 24 }

-- to open this is to open all that a study computes with
unfoldable pub studied : Unit {0}
unfolding in_rows extended_in_rows of_bit_patterns given_of old ZeroRow after_compute after_compute_extended up_to solution singular_system skipped
    cadd csub cmul cdiv complex_inv entry entry_at magnitude root of_bits of_int sub mul div lt eq all_finite
    of_search of_scaling of_reducing steps_of_row steps_of_rows steps_from steps_of_run steps_of_solve numbers_in then_work of_extended
studied = tt

accepted : AcceptedStudy N eight o
unfolding studied
accepted = tt

-- the same study, extended: the external buses at 2 per unit
abbrev pub NX : NumberedExtended
NX = numbered_extended_of N (of_bit_patterns (II ∷ II ∷ []))

abbrev X : ExtendedStudy
X = extended_in_rows NX

-- row 1, of bus 3, is the boundary's first; row 0, of bus 4, is internal
zero-rows : ZeroRow S 1 × ZeroRow S 0
unfolding studied
zero-rows = (of-each (λ (e : ℕ). Zero (old S 3 e)) S.external (tt, (tt, tt)), of-each (λ (e : ℕ). Zero (old S 4 e)) S.external (tt, (tt, tt)))

keeps : KeepsRow S (after_compute N eight o).outputs 1 × KeepsRow S (after_compute N eight o).outputs 0
unfolding in_rows row_buses
keeps = (
  ward_rows.study N eight o (words-f64s line) (unfold of_bit_patterns of_bits lt in search (accepted, tt)) 1 (lit< tt) zero-rows.0,
  ward_rows.study N eight o (words-f64s line) (unfold of_bit_patterns of_bits lt in search (accepted, tt)) 0 (lit< tt) zero-rows.1,
)

-- ---- extended

abbrev pub wide : ExtendedOutputs
wide = record { outputs = o; correction = zeros 2; compensation = zeros 2 }

accepted-x : AcceptedExtended NX eight wide
unfolding studied
accepted-x = tt

-- and so every number is finite
finite-study : FiniteStudy S
finite-study = ward_rows.finite N eight o accepted

finite-extended : FiniteExtended X
finite-extended = ward_rows.finite-extended NX eight wide accepted-x

keeps-x : KeepsExtendedRow X (after_compute_extended NX eight wide).outputs 1
unfolding extended_in_rows row_buses
keeps-x = ward_rows.extended NX eight wide (words-f64s line) (unfold of_bit_patterns of_bits eq in search (accepted-x, tt)) 1 (lit< tt) zero-rows.0

-- ---- nothing finite is refused: both kinds meet these premises, with an allowance of as many rows as the solves reduce

regular : Regular S
unfolding studied Regular
regular = tt

enough : Rows (reductions (steps_of S)) no_more_than eight
unfolding studied reductions ◌no_more_than◌
enough = lit≤ tt

accepts : AcceptedStudy N eight o
unfolding studied reductions ◌no_more_than◌
accepts = ward_rows.accepts N eight o refl finite-study regular (search enough)

accepts-x : AcceptedExtended NX eight wide
unfolding studied reductions ◌no_more_than◌
accepts-x = ward_rows.accepts-extended NX eight wide refl finite-extended regular (search enough)
