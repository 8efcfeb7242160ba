-- The two-bus case is kept, its numbers are finite, and its drop is the one call. In a second input the entry that is printed must be the given one.
use Rattle.prelude.proofs.Prelude.{◌≡◌, refl, subst, inl, inr, [], ◌∷◌, ℕ, lit<}
use lib.Ieee
use Rattle.complex.specs.Constants
use Rattle.complex.specs.Arithmetic
use Rattle.complex.specs.Entries
use Rattle.complex.specs.Matrices
use Rattle.complex.specs.{◌≈◌}
use Rattle.binary64.specs.Values.{all_finite}
use Rattle.refusals.specs.Refusals
use Rattle.lists.specs.Buses
use Rattle.lists.specs.Buses.{◌is_one_of◌}
use Rattle.lists.proofs.Buses.{in-cases}
use Rattle.kron_reduction.specs.Kron
use Rattle.kron_reduction.specs.Reducer
use Rattle.claims.specs.Accounts
use Rattle.claims.specs.Accounts.{bus, entry_in}
use Rattle.claims.specs.Chains.{Linked, Chain}
use Rattle.binary64.specs.BitPatterns.{of_bit_patterns}
use Rattle.claims.specs.Finite.{of_account, Finite}
use Rattle.claims.proofs.Witnesses.{book-words, book}
use Rattle.text_numbers.specs.Bytes.{Bytes, ascii}
use Rattle.text_numbers.specs.Words
use Rattle.reduce_text.specs.Lines
use Rattle.reduce_text.specs.Reading
use Rattle.program_claims.specs.Inputs.{names_of, entries_of, calls_of, size_of, bus_numbers, making_in, calls, account_of, IsKept, state_left}
use Rattle.program_claims.proofs.Runs.{program-claims}

-- M and `drop 1`
two-bus : Bytes
two-bus = ascii "buses 2\n0\n1\n3ff0000000000000 0000000000000000\nbff0000000000000 0000000000000000\nbff0000000000000 0000000000000000\n4000000000000000 0000000000000000\ndrop 1\n"

two-bus-kept : IsKept two-bus
unfolding two-bus Reading.run_of Reading.first Reading.most Reading.named Reading.entries Reading.drops Reading.finish Lines.lines Lines.starts_with Lines.number_after Lines.entry_of Words.decimal_of Words.hex_of Reducer.made Reducer.making_shape_refusal Reducer.making_refusal Refusals.then_given Buses.up_to Reducer.after_bus Reducer.leaves Reducer.removed_rows Reducer.removals_refusal Reducer.input_shape_refusal Reducer.input_refusal Reducer.sound_rows Reducer.sound_numbers Buses.repeats Buses.rows_in Reducer.state_of Reducer.stored Kron.eliminate Kron.carried_out Kron.stopped_by Kron.removal_refusal Kron.kron Buses.others Buses.place Buses.rising Refusals.answered Entries.entry Matrices.entry_at Matrices.row Arithmetic.cmul Arithmetic.csub Arithmetic.cdiv Ieee.of_bits Ieee.to_bits Ieee.sub Ieee.mul Ieee.div Ieee.lt Kron.of_row Kron.of_rows all_finite
two-bus-kept = refl

two-bus-making : making_in two-bus ≡ book
unfolding two-bus making_in bus_numbers names_of size_of entries_of Lines.lines Lines.starts_with Lines.number_after Lines.entry_of Words.decimal_of Words.hex_of of_bit_patterns book-words Ieee.of_bits
two-bus-making = refl

two-bus-calls : calls two-bus ≡ bus 1 ∷ []
unfolding two-bus calls calls_of size_of Lines.lines Lines.starts_with Lines.number_after Words.decimal_of
two-bus-calls = refl

two-bus-finite : Finite (making_in two-bus) (calls two-bus)
unfolding two-bus making_in bus_numbers names_of calls calls_of size_of entries_of Lines.lines Lines.starts_with Lines.number_after Lines.entry_of Words.decimal_of Words.hex_of Reducer.making_shape_refusal Reducer.making_refusal Refusals.then_given Buses.repeats Buses.rows_in Buses.up_to Kron.eliminate Kron.carried_out Kron.removal_refusal Kron.kron Buses.others Buses.place Entries.entry Matrices.entry_at Arithmetic.cmul Arithmetic.csub Arithmetic.cdiv Constants.plus0 Ieee.of_bits Ieee.sub Ieee.mul Ieee.div Ieee.lt Accounts.fresh Accounts.state_after Accounts.removes Accounts.step Accounts.account_from all_finite of_account Kron.of_removals Kron.of_row Kron.of_rows
two-bus-finite = record { made = tt; given = tt; computed = tt }

-- ---- two buses with nothing between them, neither with its own row as number

apart : Bytes
apart = ascii "buses 2\n7\n0\n3ff0000000000000 0000000000000000\n0000000000000000 8000000000000000\n0000000000000000 0000000000000000\n4000000000000000 0000000000000000\ndrop 0\n"

apart-kept : IsKept apart
unfolding apart Reading.run_of Reading.first Reading.most Reading.named Reading.entries Reading.drops Reading.finish Lines.lines Lines.starts_with Lines.number_after Lines.entry_of Words.decimal_of Words.hex_of Reducer.made Reducer.making_shape_refusal Reducer.making_refusal Refusals.then_given Buses.up_to Reducer.after_bus Reducer.leaves Reducer.removed_rows Reducer.removals_refusal Reducer.input_shape_refusal Reducer.input_refusal Reducer.sound_rows Reducer.sound_numbers Buses.repeats Buses.rows_in Reducer.state_of Reducer.stored Kron.eliminate Kron.carried_out Kron.stopped_by Kron.removal_refusal Kron.kron Buses.others Buses.place Buses.rising Refusals.answered Entries.entry Matrices.entry_at Matrices.row Arithmetic.cmul Arithmetic.csub Arithmetic.cdiv Ieee.of_bits Ieee.to_bits Ieee.sub Ieee.mul Ieee.div Ieee.lt Kron.of_row Kron.of_rows all_finite
apart-kept = refl

only_one : (k : ℕ) → k is_one_of 1 ∷ [] → k ≡ 1
only_one k m = elim (in-cases k 1 [] m) [ inl p ↦ p | inr t ↦ absurd t ]

no-chain : Chain (account_of apart).old (account_of apart).removed 0 0 → ⊥
unfolding apart making_in bus_numbers names_of calls calls_of size_of entries_of Lines.lines Lines.starts_with Lines.number_after Lines.entry_of Words.decimal_of Words.hex_of Buses.rows_in Buses.place Buses.up_to Kron.eliminate Kron.carried_out Kron.removal_refusal Buses.others Entries.entry Matrices.entry_at Constants.division_limit Ieee.of_bits Ieee.add Ieee.mul Ieee.lt Ieee.eq Accounts.fresh Accounts.state_after Accounts.removes Accounts.step Accounts.account_from Arithmetic.sqmag Kron.of_row Kron.of_rows all_finite Reducer.making_shape_refusal Reducer.making_refusal Refusals.then_given Buses.repeats Kron.kron Arithmetic.cmul Arithmetic.csub Arithmetic.cdiv Constants.plus0 Ieee.sub Ieee.div of_account Kron.of_removals
no-chain (k, ks, within, steps) = subst (λ (z : ℕ). Linked (account_of apart).old 0 z) (only_one k within.0) steps.0

stays : entry_in (state_left apart) 0 0 ≈ (account_of apart).old 0 0
unfolding apart making_in bus_numbers names_of calls calls_of size_of entries_of Lines.lines Lines.starts_with Lines.number_after Lines.entry_of Words.decimal_of Words.hex_of Buses.rows_in Buses.place Buses.up_to Kron.eliminate Kron.carried_out Kron.removal_refusal Buses.others Entries.entry Matrices.entry_at Constants.division_limit Ieee.of_bits Ieee.add Ieee.mul Ieee.lt Accounts.fresh Accounts.state_after Accounts.removes Accounts.step Accounts.account_from Arithmetic.sqmag Kron.of_row Kron.of_rows all_finite Reducer.making_shape_refusal Reducer.making_refusal Refusals.then_given Buses.repeats Kron.kron Arithmetic.cmul Arithmetic.csub Arithmetic.cdiv Constants.plus0 Ieee.sub Ieee.div of_account Kron.of_removals
stays = program-claims.unchanged apart apart-kept 0 0 (lit< tt) (lit< tt) no-chain
