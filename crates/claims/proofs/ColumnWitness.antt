-- Demand 3 by columns: bus 0 has an entry to bus 1, which is removed, and bus 1 none to bus 0, in two matrices with other entries at bus 1. Buses are told by row, in the calls by number.
use Rattle.prelude.proofs.Prelude.{◌≡◌, refl, sym, ◌∙◌, inr, List, [], ◌∷◌, ℕ, lit<}
use Rattle.complex.specs.{Matrix, ◌≈◌}
use Rattle.lists.specs.Buses.{up_to, ◌is_one_of◌}
use Rattle.lists.proofs.Buses.{in-up_to}
use Rattle.lists.proofs.Each.{of-each}
use Rattle.binary64.specs.BitPatterns.{of_bit_patterns}
use Rattle.binary64.proofs.BitPatterns.{words-f64s}
use Rattle.kron_reduction.specs.Reducer.{ReducerInput, reducer_input_of, AcceptedMaking}
use Rattle.claims.specs.Accounts.{Call, bus, left, entry_in, fresh, step, account_from, Account, account, kept}
use Rattle.claims.specs.Chains.{Linked, Steps, Within, Into, SameOutside}
use Rattle.claims.specs.Removals.{Alike, NoOut}
use Rattle.claims.proofs.Removals.{removals}
use Rattle.claims.proofs.Witnesses.{opened, L, -L, LL}
use Rattle.claims.proofs.SecondWitness.{apart}

abbrev one_way : ℕ → ℕ → List ℕ
one_way towards own = LL ∷ 0 ∷ towards ∷ 0 ∷ 0 ∷ 0 ∷ own ∷ 0 ∷ []

abbrev here : ReducerInput
here = reducer_input_of 2 (of_bit_patterns (one_way L LL)) (1 ∷ 0 ∷ [])

abbrev here-calls : List Call
here-calls = bus 0 ∷ []

abbrev there : ReducerInput
there = reducer_input_of 2 (of_bit_patterns (one_way -L L)) (0 ∷ 4294967295 ∷ [])

abbrev there-calls : List Call
there-calls = bus 4294967295 ∷ []

abbrev h : Account
h = account here here-calls

abbrev t : Account
t = account there there-calls

both-made : AcceptedMaking here × AcceptedMaking there
unfolding opened
both-made = (tt, tt)

both-removed : (h.removed ≡ 1 ∷ []) × (t.removed ≡ 1 ∷ [])
unfolding opened
both-removed = (refl, refl)

here-kept : kept h ≡ 0 ∷ []
unfolding opened
here-kept = refl

away : SameOutside h.size h.old t.old (1 ∷ [])
unfolding opened
away i j x y = apart (up_to 2) (1 ∷ []) (λ i j. h.old i j ≈ t.old i j) (search tt depth 30) i j (in-up_to 2 i x) (in-up_to 2 j y)

alike-away : Alike h t (1 ∷ [])
unfolding fresh step account_from
alike-away = record { size = refl; removed = both-removed.1 ∙ sym both-removed.0; group = rw both-removed.0 (search tt); outside = search away }

-- where no removed bus has an entry to bus j, no chain leads to it
no-out : (Y : Matrix) (R : List ℕ) (j : ℕ) → ((k : ℕ) → k is_one_of R → Linked Y k j → ⊥) → (g : ℕ) → g is_one_of R → (ks : List ℕ) → Within ks R → Steps Y g ks j → ⊥
no-out Y R j none g m [] within steps = none g m steps
no-out Y R j none g m (k ∷ ks) within steps = no-out Y R j none k within.0 ks within.1 steps.1

columns : ((k : ℕ) → k is_one_of 1 ∷ [] → Linked h.old k 0 → ⊥) × ((k : ℕ) → k is_one_of 1 ∷ [] → Linked t.old k 0 → ⊥)
unfolding opened
columns = (of-each (λ (k : ℕ). Linked h.old k 0 → ⊥) (1 ∷ []) (λ n. n, tt), of-each (λ (k : ℕ). Linked t.old k 0 → ⊥) (1 ∷ []) (λ n. n, tt))

-- bus 0 has no chain out of the group in either, though one leads from it into the group
none_out : NoOut h t (1 ∷ []) 0
none_out = (
  λ (g, ks, m, within, steps). no-out h.old (1 ∷ []) 0 columns.0 g m ks (rw both-removed.0 at within) steps,
  λ (g, ks, m, within, steps). no-out t.old (1 ∷ []) 0 columns.1 g m ks (rw both-removed.1 at within) steps,
)

an-into : Into h.old h.removed (1 ∷ []) 0
unfolding opened
an-into = (1, [], tt, tt, tt)

column-same : entry_in (left here here-calls) 0 0 ≈ entry_in (left there there-calls) 0 0
column-same =
    (rw here-kept at (removals.independent here there here-calls there-calls (words-f64s (one_way L LL)) (words-f64s (one_way -L L))
    (search (both-made.0, both-removed.0, tt)) (search (both-made.1, both-removed.1, tt)) (1 ∷ []) alike-away 0 0))
    (lit< tt) (lit< tt) (inr none_out)
