-- The definition of the program, computed on small inputs.
use Rattle.prelude.proofs.Prelude.{◌≡◌, refl}
use lib.Ieee
use Rattle.binary64.specs.Values
use Rattle.complex.specs.Constants
use Rattle.complex.specs.Arithmetic
use Rattle.complex.specs.Entries
use Rattle.complex.specs.Matrices
use Rattle.refusals.specs.Refusals
use Rattle.lists.specs.Buses
use Rattle.kron_reduction.specs.Kron
use Rattle.kron_reduction.specs.Reducer
use Rattle.text_numbers.specs.Bytes.{ascii}
use Rattle.text_numbers.specs.Words
use Rattle.reduce_text.specs.Lines
use Rattle.reduce_text.specs.Reading
use Rattle.reduce_text.specs.Printing
use Rattle.reduce_text.specs.Reduce.{printed}

nothing : printed (ascii "") ≡ ascii "bad line 1\n"
unfolding printed Reading.run_of Reading.first Lines.lines Printing.text Printing.text_of Printing.bad_text Printing.number_line Words.decimal
nothing = refl

no-buses : printed (ascii "buses 0") ≡ ascii "kept 0\n"
unfolding printed Reading.run_of Reading.first Reading.most Reading.named Reading.entries Reading.drops Reading.finish Lines.lines Lines.starts_with Lines.number_after Words.decimal_of Reducer.made Reducer.making_shape_refusal Reducer.making_refusal Refusals.then_given Values.all_finite Buses.up_to Printing.text Printing.text_of Printing.kept_text Printing.number_line Printing.bus_lines Printing.entry_lines Words.decimal
no-buses = refl

-- the two-bus case
two-bus :
    printed (ascii "buses 2\n0\n1\n3ff0000000000000 0000000000000000\nbff0000000000000 0000000000000000\nbff0000000000000 0000000000000000\n4000000000000000 0000000000000000\ndrop 1\n")
    ≡ ascii "kept 1\nbus 0\n3fe0000000000000 0000000000000000\n"
unfolding printed Reading.run_of Reading.first Reading.most Reading.named Reading.entries Reading.drops Reading.finish Lines.lines Lines.starts_with Lines.number_after Lines.entry_of Words.decimal_of Words.hex_of Reducer.made Reducer.making_shape_refusal Reducer.making_refusal Refusals.then_given Values.all_finite Buses.up_to Printing.text Printing.text_of Printing.kept_text Printing.number_line Printing.bus_lines Printing.entry_lines Printing.entry_line Words.decimal Words.hex Reducer.after_bus Reducer.leaves Reducer.removed_rows Reducer.removals_refusal Reducer.input_shape_refusal Reducer.input_refusal Reducer.sound_rows Reducer.sound_numbers Buses.repeats Buses.rows_in Reducer.state_of Reducer.stored Kron.eliminate Kron.carried_out Kron.stopped_by Kron.of_row Kron.of_rows Kron.removal_refusal Kron.kron Buses.others Buses.place Buses.rising Refusals.answered Entries.entry Matrices.entry_at Matrices.row Arithmetic.cmul Arithmetic.csub Arithmetic.cdiv Constants.plus0 Constants.division_limit Ieee.of_bits Ieee.to_bits Ieee.add Ieee.sub Ieee.mul Ieee.div Ieee.lt
two-bus = refl

-- the same matrix with the numbers 1 and 0: the bus numbered 1 is the one of the first row
other-numbers :
    printed (ascii "buses 2\n1\n0\n3ff0000000000000 0000000000000000\nbff0000000000000 0000000000000000\nbff0000000000000 0000000000000000\n4000000000000000 0000000000000000\ndrop 1\n")
    ≡ ascii "kept 1\nbus 0\n3ff0000000000000 0000000000000000\n"
unfolding printed Reading.run_of Reading.first Reading.most Reading.named Reading.entries Reading.drops Reading.finish Lines.lines Lines.starts_with Lines.number_after Lines.entry_of Words.decimal_of Words.hex_of Reducer.made Reducer.making_shape_refusal Reducer.making_refusal Refusals.then_given Values.all_finite Buses.up_to Printing.text Printing.text_of Printing.kept_text Printing.number_line Printing.bus_lines Printing.entry_lines Printing.entry_line Words.decimal Words.hex Reducer.after_bus Reducer.leaves Reducer.removed_rows Reducer.removals_refusal Reducer.input_shape_refusal Reducer.input_refusal Reducer.sound_rows Reducer.sound_numbers Buses.repeats Buses.rows_in Reducer.state_of Reducer.stored Kron.eliminate Kron.carried_out Kron.stopped_by Kron.of_row Kron.of_rows Kron.removal_refusal Kron.kron Buses.others Buses.place Buses.rising Refusals.answered Entries.entry Matrices.entry_at Matrices.row Arithmetic.cmul Arithmetic.csub Arithmetic.cdiv Constants.plus0 Constants.division_limit Ieee.of_bits Ieee.to_bits Ieee.add Ieee.sub Ieee.mul Ieee.div Ieee.lt
other-numbers = refl

-- a number that stands twice is bad where it stands the second time
number-twice : printed (ascii "buses 3\n1\n2\n1\n") ≡ ascii "bad line 4\n"
unfolding printed Reading.run_of Reading.first Reading.most Reading.named Lines.lines Lines.starts_with Lines.number_after Words.decimal_of Printing.text Printing.text_of Printing.bad_text Printing.number_line Words.decimal
number-twice = refl

-- a refused drop ends the run before the line behind it is looked at
refused-first : printed (ascii "buses 0\ndrop 0\nx") ≡ ascii "refused 11 0\n"
unfolding printed Reading.run_of Reading.first Reading.most Reading.named Reading.entries Reading.drops Reading.finish Lines.lines Lines.starts_with Lines.number_after Words.decimal_of Reducer.made Reducer.making_shape_refusal Reducer.making_refusal Refusals.then_given Values.all_finite Buses.up_to Printing.text Printing.text_of Printing.refused_text Printing.number_line Words.decimal Reducer.after_bus Reducer.leaves Reducer.removed_rows Reducer.removals_refusal Reducer.input_shape_refusal Reducer.input_refusal Reducer.sound_rows Reducer.sound_numbers Buses.repeats Buses.rows_in Reducer.state_of Kron.carried_out Kron.stopped_by Kron.of_row Kron.of_rows Kron.removal_refusal Buses.rising Refusals.answered
refused-first = refl

-- an infinity's word, and a NaN's, is a bad line where it stands: behind the first line and one number
infinite-entry : printed (ascii "buses 1\n5\n7ff0000000000000 0000000000000000\ndrop 5\n") ≡ ascii "bad line 3\n"
unfolding printed Reading.run_of Reading.first Reading.most Reading.named Reading.entries Lines.lines Lines.starts_with Lines.number_after Lines.entry_of Words.decimal_of Words.hex_of Printing.text Printing.text_of Printing.bad_text Printing.number_line Words.decimal Ieee.of_bits
infinite-entry = refl

nan-entry : printed (ascii "buses 1\n5\n0000000000000000 fff8000000000000\n") ≡ ascii "bad line 3\n"
unfolding printed Reading.run_of Reading.first Reading.most Reading.named Reading.entries Lines.lines Lines.starts_with Lines.number_after Lines.entry_of Words.decimal_of Words.hex_of Printing.text Printing.text_of Printing.bad_text Printing.number_line Words.decimal Ieee.of_bits
nan-entry = refl

-- the largest finite number is read, and the square of its entry refuses the drop
refused-by-its-square : printed (ascii "buses 1\n5\n7fefffffffffffff 0000000000000000\ndrop 5\n") ≡ ascii "refused 20 5\n"
unfolding printed Reading.run_of Reading.first Reading.most Reading.named Reading.entries Reading.drops Reading.finish Lines.lines Lines.starts_with Lines.number_after Lines.entry_of Words.decimal_of Words.hex_of Reducer.made Reducer.making_shape_refusal Reducer.making_refusal Refusals.then_given Values.all_finite Buses.up_to Printing.text Printing.text_of Printing.refused_text Printing.number_line Words.decimal Reducer.after_bus Reducer.leaves Reducer.removed_rows Reducer.removals_refusal Reducer.input_shape_refusal Reducer.input_refusal Reducer.sound_rows Reducer.sound_numbers Buses.repeats Buses.rows_in Reducer.state_of Reducer.stored Kron.eliminate Kron.carried_out Kron.stopped_by Kron.of_row Kron.of_rows Kron.removal_refusal Kron.kron Buses.others Buses.place Buses.rising Refusals.answered Entries.entry Matrices.entry_at Matrices.row Arithmetic.sqmag Constants.plus0 Constants.division_limit Ieee.of_bits Ieee.add Ieee.mul Ieee.lt
refused-by-its-square = refl
