-- Impedances of small matrices, computed: 20 of the impedance's own numbers, and of a column of the inverse that is not read; and a call that meets
-- the premises of the theorem on what is accepted.
use Rattle.std.proofs.Common.{Ok}
use Rattle.prelude.proofs.Prelude.{◌≡◌, refl, ap, ◌∙◌, not, cond, List, [], ◌∷◌, T, eqb, length, replicate, Float, binary64, lt, add, sub, mul, div, of_bits}
use Rattle.binary64.specs.Values.{all_finite}
use Rattle.complex.specs.{Matrix, plus0, one, division_limit, cadd, csub, cmul, sqmag, cdiv, complex_inv, abs, entry, entry_at}
use Rattle.lists.specs.Buses.{up_to, rising, repeats, place}
use Rattle.refusals.specs.declared.Allowance.TheVariants.{Unlimited}
use Rattle.refusals.specs.Work.{computing, numbers_in, reductions, meets, granted, work_refusal}
use Rattle.solver.specs.GaussJordan.{stays, held_after, pivot_row, swapped, scaled, reduced, pivoted, cleared, gauss_jordan_from, gauss_jordan, augmented, solution, singular_system}
use Rattle.solver.specs.Solving.{is_singular, inverse, skipped, unit_column}
use Rattle.solver.specs.Steps.{of_search, of_scaling, of_reducing, steps_of_row, steps_of_rows, steps_from, steps_of_run, steps_of_inverse}
use Rattle.kron_reduction.specs.declared.KronReducer.{KronReducer}
use Rattle.kron_reduction.specs.Reducer.{record_of, active_of, row_of, present, sound_rows, sound_numbers, input_shape_refusal}
use Rattle.kron_reduction.specs.Reading.{reading_shape_refusal, two, thevenin_of, of_thevenin, steps_of_impedance, impedance_told, AfterImpedance, after_impedance}
use Rattle.kron_reduction.proofs.FiniteAnswers.{accepted-impedance}

-- 1e-79, 1e150 and 1e-100
abbrev small : Float
small = of_bits binary64 0x2f87b6d71d20b96c

abbrev large : Float
large = of_bits binary64 0x5f138d352e5096af

abbrev slight : Float
slight = of_bits binary64 0x2b2bff2ee48e0530

-- a, b / 0, a
abbrev pair_of : Float → Float → Matrix
pair_of a b i j = record { re = cond (eqb i j) a (cond (eqb i 0) b plus0); im = plus0 }

-- 1, 0, 0 / 0, a, b / 0, 0, a
abbrev beside : Float → Float → Matrix
beside a b i j = record { re = cond (eqb i j) (cond (eqb i 0) one a) (cond (eqb i 1) (cond (eqb j 2) b plus0) plus0); im = plus0 }

opened : Unit {0}
unfolding all_finite computing reductions meets granted work_refusal of_search of_scaling of_reducing steps_of_row steps_of_rows steps_from steps_of_run steps_of_inverse plus0 one division_limit cadd csub cmul sqmag cdiv complex_inv abs up_to stays held_after pivot_row swapped scaled reduced pivoted cleared gauss_jordan_from gauss_jordan augmented solution skipped unit_column two thevenin_of of_thevenin steps_of_impedance lt add sub mul div of_bits
opened = tt

-- the entry that counts twice is at the edge: twice it is beyond, in the column that has it
pub twice-overflows : work_refusal Unlimited (steps_of_impedance 2 (pair_of small large) 0 1) ≡ 20
unfolding opened
twice-overflows = refl

pub other_way : work_refusal Unlimited (steps_of_impedance 2 (pair_of small large) 1 0) ≡ 0
unfolding opened
other_way = refl

-- between the first bus and itself only 1 is read
pub column-not-read : work_refusal Unlimited (steps_of_impedance 3 (beside slight large) 0 0) ≡ 20
unfolding opened
column-not-read = refl

-- ---- nothing finite is refused

-- 2, -1 / -1, 2
abbrev minus : Float
minus = of_bits binary64 0xbff0000000000000

abbrev ring : List Float
ring = two ∷ plus0 ∷ minus ∷ plus0 ∷ minus ∷ plus0 ∷ two ∷ plus0 ∷ []

-- between the buses 30 and 10, whose rows are 0 and 1: the premises, each shown by itself
abbrev pair_of_buses : KronReducer
pair_of_buses = record_of 2 (30 ∷ 10 ∷ []) (0 ∷ 1 ∷ [])

nothing-told : impedance_told (reading_shape_refusal 4 pair_of_buses ring (length (replicate 16 one))) (active_of pair_of_buses) (row_of pair_of_buses 30) (row_of pair_of_buses 10) ≡ 0
unfolding opened reading_shape_refusal input_shape_refusal sound_rows sound_numbers rising repeats place impedance_told
nothing-told = refl

ring-given : T (all_finite (present pair_of_buses ring))
unfolding opened
ring-given = tt

ring-computed : T (all_finite (numbers_in (steps_of_impedance 2 (entry_at 2 ring) (place (row_of pair_of_buses 30) (active_of pair_of_buses)) (place (row_of pair_of_buses 10) (active_of pair_of_buses)))))
unfolding opened numbers_in entry entry_at place
ring-computed = tt

ring-regular : T (not (is_singular 2 (entry_at 2 ring)))
unfolding opened singular_system entry entry_at
ring-regular = tt

-- 4/3 less 2/3, rounded
across-ring : thevenin_of (inverse 2 (entry_at 2 ring)) (place (row_of pair_of_buses 30) (active_of pair_of_buses)) (place (row_of pair_of_buses 10) (active_of pair_of_buses)) ≡ record { re = of_bits binary64 0x3fe5555555555555; im = plus0 }
unfolding opened entry entry_at place
across-ring = refl

pub accepts : (after_impedance pair_of_buses ring 30 10 (replicate 16 one)).answer ≡ Ok (record { re = of_bits binary64 0x3fe5555555555555; im = plus0 })
accepts =
    ap (λ (l : AfterImpedance). l.answer)
    (accepted-impedance pair_of_buses ring 30 10 (replicate 16 one) (search (nothing-told, tt)) (search (ring-given, tt)) (search (ring-computed, tt)) (search (ring-regular, tt)))
    ∙ ap Ok across-ring
