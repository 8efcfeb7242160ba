-- Demand 3 where 20 stops a list: bus 1's own entry is 2^512, whose square overflows, so it stays, and what a later call names is removed. Buses are told by row,
-- in the calls by number.
use Rattle.prelude.proofs.Prelude.{◌≡◌, refl, sym, ◌∙◌, inl, List, [], ◌∷◌, ℕ, lit<, of_bits, lt}
use Rattle.complex.specs.{Matrix, ◌≈◌}
use Rattle.lists.specs.Buses.{up_to, ◌is_one_of◌, rows_in}
use Rattle.lists.proofs.Buses.{in-up_to}
use Rattle.lists.proofs.Each.{of-each}
use Rattle.binary64.specs.BitPatterns.{of_bit_patterns}
use Rattle.binary64.proofs.BitPatterns.{words-f64s}
use Rattle.kron_reduction.specs.Kron.{stopped_by}
use Rattle.kron_reduction.specs.Reducer.{ReducerInput, reducer_input_of, AcceptedMaking}
use Rattle.claims.specs.Accounts.{Call, bus, buses, left, entry_in, fresh, state_after, step, account_from, Account, account, kept}
use Rattle.claims.specs.Chains.{Linked, Chain, Into, SameOutside}
use Rattle.claims.specs.Removals.{Alike, NoInto}
use Rattle.claims.proofs.Removals.{removals}
use Rattle.claims.proofs.Witnesses.{opened}
use Rattle.claims.proofs.SecondWitness.{apart}

-- 1, 0, a / 0, 2^512, 0 / a, 0, 2, numbered 7, 6 and 5
abbrev words : ℕ → List ℕ
words a =
    0x3ff0000000000000 ∷ 0 ∷ 0 ∷ 0 ∷ a ∷ 0
    ∷ 0 ∷ 0 ∷ 0x5ff0000000000000 ∷ 0 ∷ 0 ∷ 0
    ∷ a ∷ 0 ∷ 0 ∷ 0 ∷ 0x4000000000000000 ∷ 0 ∷ []

abbrev plain : ReducerInput
plain = reducer_input_of 3 (of_bit_patterns (words 0x3ff0000000000000)) (7 ∷ 6 ∷ 5 ∷ [])

abbrev stopped : ReducerInput
stopped = reducer_input_of 3 (of_bit_patterns (words 0xbff0000000000000)) (7 ∷ 6 ∷ 5 ∷ [])

-- the same removals, here with nothing refused, there past a list that 20 stops after its first bus, and past that bus by itself
abbrev plain-calls : List Call
plain-calls = bus 5 ∷ bus 7 ∷ []

abbrev stopped-calls : List Call
stopped-calls = buses (5 ∷ 6 ∷ 7 ∷ []) ∷ bus 6 ∷ bus 7 ∷ []

abbrev a : Account
a = account plain plain-calls

abbrev s : Account
s = account stopped stopped-calls

by-20 : stopped_by (state_after (fresh stopped)) (rows_in (7 ∷ 6 ∷ 5 ∷ []) (5 ∷ 6 ∷ 7 ∷ [])) ≡ 20
unfolding opened stopped_by rows_in
by-20 = refl

both-made : AcceptedMaking plain × AcceptedMaking stopped
unfolding opened
both-made = (tt, tt)

both-removed : (a.removed ≡ 2 ∷ 0 ∷ []) × (s.removed ≡ 2 ∷ 0 ∷ [])
unfolding opened
both-removed = (refl, refl)

both-kept : (kept a ≡ 1 ∷ []) × (kept s ≡ 1 ∷ [])
unfolding opened
both-kept = (refl, refl)

-- bus 1 has no entry to a removed bus, in either
away : ((k : ℕ) → k is_one_of 2 ∷ 0 ∷ [] → Linked a.old 1 k → ⊥) × ((k : ℕ) → k is_one_of 2 ∷ 0 ∷ [] → Linked s.old 1 k → ⊥)
unfolding opened
away = (
  of-each (λ (k : ℕ). Linked a.old 1 k → ⊥) (2 ∷ 0 ∷ []) (λ n. n, (λ n. n, tt)),
  of-each (λ (k : ℕ). Linked s.old 1 k → ⊥) (2 ∷ 0 ∷ []) (λ n. n, (λ n. n, tt)),
)

no-chain : Chain s.old (2 ∷ 0 ∷ []) 1 1 → ⊥
no-chain (k, ks, within, steps) = away.1 k within.0 steps.0

stays : entry_in (left stopped stopped-calls) 0 0 ≈ s.old 1 1
stays = (rw both-kept.1 at (removals.unchanged stopped stopped-calls (words-f64s (words 0xbff0000000000000)) (unfold of_bit_patterns of_bits lt in search (both-made.1, both-removed.1, tt)) 0 0))
    (lit< tt) (lit< tt) (rw both-removed.1 no-chain)

-- the group is bus 2
outside : SameOutside a.size a.old s.old (2 ∷ [])
unfolding opened
outside i j x y = apart (up_to 3) (2 ∷ []) (λ i j. a.old i j ≈ s.old i j) (search tt depth 30) i j (in-up_to 3 i x) (in-up_to 3 j y)

among : (k : ℕ) → k is_one_of 2 ∷ [] → k is_one_of 2 ∷ 0 ∷ []
among = of-each (λ (k : ℕ). k is_one_of 2 ∷ 0 ∷ []) (2 ∷ []) (tt, tt)

alike : Alike a s (2 ∷ [])
unfolding fresh step account_from
alike = record { size = refl; removed = both-removed.1 ∙ sym both-removed.0; group = rw both-removed.0 (search (among, tt)); outside = search outside }

no-into : (Y : Matrix) (R : List ℕ) → ((k : ℕ) → k is_one_of R → Linked Y 1 k → ⊥) → ((k : ℕ) → k is_one_of 2 ∷ [] → k is_one_of R) → Into Y R (2 ∷ []) 1 → ⊥
no-into Y R none in-R (g, [], m, within, steps) = none g (in-R g m) steps
no-into Y R none in-R (g, k ∷ ks, m, within, steps) = none k within.0 steps.0

none-into : NoInto a s (2 ∷ []) 1
none-into = (
  no-into a.old a.removed (rw both-removed.0 away.0) (rw both-removed.0 among),
  no-into s.old s.removed (rw both-removed.1 away.1) (rw both-removed.1 among),
)

entry-same : entry_in (left plain plain-calls) 0 0 ≈ entry_in (left stopped stopped-calls) 0 0
entry-same =
    (rw both-kept.0 at (removals.independent plain stopped plain-calls stopped-calls (words-f64s (words 0x3ff0000000000000)) (words-f64s (words 0xbff0000000000000))
    (search (both-made.0, both-removed.0, tt)) (search (both-made.1, both-removed.1, tt)) (2 ∷ []) alike 0 0))
    (lit< tt) (lit< tt) (inl none-into)
