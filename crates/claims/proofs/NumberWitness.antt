-- Both claims by number can be met: the first matrix, and the second one under the first one's numbers, none of which is that of its own row.
use Rattle.prelude.proofs.Prelude.{◌≡◌, refl, inl, List, [], ◌∷◌, ℕ}
use Rattle.complex.specs.{◌≈◌}
use Rattle.lists.specs.Buses.{◌is_one_of◌}
use Rattle.lists.proofs.Each.{of-each}
use Rattle.binary64.specs.BitPatterns.{of_bit_patterns}
use Rattle.binary64.proofs.BitPatterns.{words-f64s}
use Rattle.kron_reduction.specs.Reducer.{ReducerInput, reducer_input_of, AcceptedMaking}
use Rattle.kron_reduction.specs.Reading.{active_numbers}
use Rattle.claims.specs.Accounts.{Call, bus, buses, left, fresh, step, account_from, Account, account}
use Rattle.claims.specs.Chains.{Linked}
use Rattle.claims.specs.Removals.{NoInto}
use Rattle.claims.specs.ByNumber.{old_between, left_between, by_number, AlikeByNumber}
use Rattle.claims.proofs.NumberClaims.{number-claims}
use Rattle.claims.proofs.Witnesses.{opened, first-words, numbers, first, first-calls, a, gone, first_made, first-removed, OnlyTo, only-to, no-chain, no-into}
use Rattle.claims.proofs.SecondWitness.{second-words, apart}

abbrev twin : ReducerInput
twin = reducer_input_of 5 (of_bit_patterns second-words) numbers

abbrev twin-calls : List Call
twin-calls = buses (0 ∷ 4294967295 ∷ 2 ∷ []) ∷ bus 7 ∷ []

abbrev t : Account
t = account twin twin-calls

twin-made : AcceptedMaking twin
unfolding opened
twin-made = tt

twin-removed : t.removed ≡ gone
unfolding opened
twin-removed = refl

-- the numbers of buses 3 and 2
abbrev GN : List ℕ
GN = 7 ∷ 0 ∷ []

named-outside : (b c : ℕ) → b is_one_of numbers → c is_one_of numbers → (b is_one_of GN → ⊥) → (c is_one_of GN → ⊥) → old_between a b c ≈ old_between t b c
unfolding opened old_between
named-outside = apart numbers GN (λ b c. old_between a b c ≈ old_between t b c) (search tt depth 30)

-- the removed buses, by number
abbrev named : List ℕ
named = 0 ∷ 4294967295 ∷ 7 ∷ []

among-named : (k : ℕ) → k is_one_of GN → k is_one_of named
among-named = of-each (λ (k : ℕ). k is_one_of named) GN (tt, (tt, tt))

alike_by_number : AlikeByNumber a t GN
unfolding fresh step account_from
alike_by_number = record {
  numbers = refl;
  removed = rw (twin-removed, first-removed) refl;
  group = rw first-removed (search (among-named, tt));
  outside = named-outside;
}

named-removed : ((by_number a).removed ≡ named) × ((by_number t).removed ≡ named)
unfolding opened
named-removed = (refl, refl)

-- buses 0 and 4 are active, with the numbers 3 and 1
active : (3 is_one_of active_numbers (left first first-calls).rec) × (1 is_one_of active_numbers (left first first-calls).rec)
unfolding opened
active = (tt, tt)

-- of the removed buses, the one numbered 4294967295 is the only one that bus 3 has an entry to, and it has one to no other, nor to bus 1
abbrev Ends : Account → Type 0
Ends c = (OnlyTo 4294967295 (by_number c).old named 3 × OnlyTo 4294967295 (by_number c).old named 4294967295) × (Linked (by_number c).old 4294967295 1 → ⊥)

first_ends : Ends a
unfolding opened old_between
first_ends = ((only-to 0 4294967295 7 (old_between a) 3 (λ n. n) (λ n. n), only-to 0 4294967295 7 (old_between a) 4294967295 (λ n. n) (λ n. n)), λ n. n)

twin-ends : Ends t
unfolding opened old_between
twin-ends = ((only-to 0 4294967295 7 (old_between t) 3 (λ n. n) (λ n. n), only-to 0 4294967295 7 (old_between t) 4294967295 (λ n. n) (λ n. n)), λ n. n)

stays : left_between (left first first-calls) 3 1 ≈ old_between a 3 1
stays = number-claims.unchanged first first-calls (words-f64s first-words) (search (first_made, first-removed, tt)) 3 1 active.0 active.1
    (no-chain 3 4294967295 (by_number a).old (by_number a).removed (rw named-removed.0 first_ends.0) 1 first_ends.1)

none-into : NoInto (by_number a) (by_number t) GN 3
none-into = (
  no-into 3 4294967295 (by_number a).old (by_number a).removed (rw named-removed.0 first_ends.0) GN (rw named-removed.0 among-named) (λ n. n),
  no-into 3 4294967295 (by_number t).old (by_number t).removed (rw named-removed.1 twin-ends.0) GN (rw named-removed.1 among-named) (λ n. n),
)

same-in-both : left_between (left first first-calls) 3 1 ≈ left_between (left twin twin-calls) 3 1
same-in-both = number-claims.independent first twin first-calls twin-calls (words-f64s first-words) (words-f64s second-words)
    (search (first_made, first-removed, tt)) (search (twin-made, twin-removed, tt)) GN alike_by_number 3 1 active.0 active.1 (inl none-into)
