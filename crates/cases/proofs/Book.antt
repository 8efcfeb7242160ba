-- The two-bus book: every row of the table is met. Each is evaluated by the checker from the definitions that the contracts cite.
use Rattle.prelude.proofs.Prelude.{refl, of_bits, of_int, sub, mul, div, lt}
use Rattle.binary64.specs.Root.{root}
use Rattle.binary64.specs.Values.{all_finite}
use Rattle.complex.specs.{plus0, one, cadd, csub, cmul, cdiv, complex_inv, magnitude, entry, entry_at, zeros, grid}
use Rattle.complex.specs.Leaves.{single_refusal}
use Rattle.lists.specs.Buses.{up_to, others, place, rising, repeats, rows_in}
use Rattle.refusals.specs.Refusals.{then_given, then_computed, answered}
use Rattle.solver.specs.GaussJordan.{solution, singular_system}
use Rattle.solver.specs.Solving.{skipped, unit_column}
use Rattle.solver.specs.Calls.{after_solve}
use Rattle.kron_reduction.specs.Kron.{kron, of_row, of_rows, removal_refusal, eliminate, carried_out, stopped_by}
use Rattle.kron_reduction.specs.Reducer.{making_shape_refusal, making_refusal, made, sound_rows, sound_numbers, input_shape_refusal, input_refusal, state_of, stored, leaves, removed_rows, removals_refusal, after_bus, after_buses}
use Rattle.kron_reduction.specs.Reading.{reading_shape_refusal, reading_refusal, thevenin_of, of_thevenin, steps_of_impedance, impedance_told, after_impedance}
use Rattle.ward_equivalent.specs.Numbers.{in_rows, after_compute, after_compute_extended}
use Rattle.cases.specs.Calls.{seen_single, seen_impedance, seen_summary, reduced_rows, after}
use Rattle.cases.specs.Book.{reals, AllMet, table}

-- to open this is to open all that the cases compute with
unfoldable pub opened : Unit {0}
unfolding reals after seen_single single_refusal then_given then_computed all_finite seen_impedance seen_summary reduced_rows answered plus0 one cadd csub cmul cdiv complex_inv magnitude root entry entry_at zeros grid
    up_to others place rising repeats rows_in solution singular_system skipped unit_column after_solve
    kron of_row of_rows removal_refusal eliminate carried_out stopped_by making_shape_refusal making_refusal made sound_rows
    sound_numbers input_shape_refusal input_refusal state_of stored leaves removed_rows removals_refusal after_bus after_buses reading_shape_refusal reading_refusal
    thevenin_of of_thevenin steps_of_impedance impedance_told after_impedance
    in_rows after_compute after_compute_extended of_bits of_int sub mul div lt
opened = tt

pub book : AllMet table
unfolding AllMet table opened
book = (refl, (refl, (refl, (refl, (refl, (refl, (refl, (refl, (refl, (refl, (refl, (refl, tt))))))))))))
