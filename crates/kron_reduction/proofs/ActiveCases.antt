-- The active buses of small records, computed.
use Rattle.prelude.proofs.Prelude.{◌≡◌, refl, [], ◌∷◌}
use Rattle.std.proofs.Common.{Ok, Err}
use Rattle.refusals.specs.declared.Refusal.TheVariants.{WrongLength, BadRecord}
use Rattle.refusals.specs.Refusals.{answered}
use Rattle.lists.specs.Buses.{rising, repeats}
use Rattle.kron_reduction.specs.Reducer.{record_of, sound_rows, sound_numbers}
use Rattle.kron_reduction.specs.Reading.{active_refusal, after_active}

-- the buses 30, 10 and 20, of which bus 10 is removed: row 1 is bus 20
pub second-row-is-bus-20 : after_active (record_of 3 (30 ∷ 10 ∷ 20 ∷ []) (0 ∷ 2 ∷ [])) (7 ∷ 7 ∷ 7 ∷ []) ≡ record { answer = Ok tt; buses = 30 ∷ 20 ∷ 0 ∷ [] }
unfolding after_active active_refusal sound_rows sound_numbers rising repeats answered
second-row-is-bus-20 = refl

-- an output with a place for each present row only
pub one-place-too-few : after_active (record_of 3 (30 ∷ 10 ∷ 20 ∷ []) (0 ∷ 2 ∷ [])) (7 ∷ 7 ∷ []) ≡ record { answer = Err WrongLength; buses = 7 ∷ 7 ∷ [] }
unfolding after_active active_refusal sound_rows sound_numbers rising repeats answered
one-place-too-few = refl

-- rows that do not rise
pub not-in-order : after_active (record_of 3 (30 ∷ 10 ∷ 20 ∷ []) (2 ∷ 0 ∷ [])) (7 ∷ 7 ∷ 7 ∷ []) ≡ record { answer = Err BadRecord; buses = 7 ∷ 7 ∷ 7 ∷ [] }
unfolding after_active active_refusal sound_rows sound_numbers rising repeats answered
not-in-order = refl

-- a number that stands twice
pub number-twice : after_active (record_of 3 (30 ∷ 10 ∷ 30 ∷ []) (0 ∷ 2 ∷ [])) (7 ∷ 7 ∷ 7 ∷ []) ≡ record { answer = Err BadRecord; buses = 7 ∷ 7 ∷ 7 ∷ [] }
unfolding after_active active_refusal sound_rows sound_numbers rising repeats answered
number-twice = refl

-- a number behind the last row's
pub number_behind : after_active (record_of 2 (30 ∷ 10 ∷ 20 ∷ []) (0 ∷ 1 ∷ [])) (7 ∷ 7 ∷ []) ≡ record { answer = Err BadRecord; buses = 7 ∷ 7 ∷ [] }
unfolding after_active active_refusal sound_rows sound_numbers rising repeats answered
number_behind = refl
