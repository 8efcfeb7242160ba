-- The premises of claim 2 can be met: another matrix, with other entries at buses 2 and 3, under other numbers, and other calls that remove the same three.
use Rattle.prelude.proofs.Prelude.{◌≡◌, refl, sym, ◌∙◌, inl, List, [], ◌∷◌, ℕ, ◌<◌, arith, lit<}
use Rattle.complex.specs.{◌≈◌}
use Rattle.lists.specs.Buses.{up_to, ◌is_one_of◌}
use Rattle.lists.proofs.Buses.{in-up_to}
use Rattle.lists.proofs.Each.{Each, of-each}
use Rattle.binary64.specs.BitPatterns.{of_bit_patterns}
use Rattle.binary64.proofs.BitPatterns.{words-f64s}
use Rattle.kron_reduction.specs.Reducer.{ReducerInput, reducer_input_of, AcceptedMaking}
use Rattle.claims.specs.Accounts.{Call, bus, buses, left, entry_in, fresh, step, account_from, Account, account}
use Rattle.claims.specs.Chains.{Out, SameOutside}
use Rattle.claims.specs.Removals.{Alike, NoInto}
use Rattle.claims.proofs.Removals.{removals}
use Rattle.claims.proofs.Witnesses.{opened, L, -L, LL, largest, first-words, first, first-calls, a, gone, first_made, first-removed, first-kept, OnlyTo, only-to, no-into, first_rows}

abbrev pub second-words : List ℕ
second-words =
    LL ∷ 0 ∷ -L ∷ 0 ∷ 0 ∷ 0 ∷ 0 ∷ 0 ∷ largest ∷ 0
    ∷ -L ∷ 0 ∷ LL ∷ 0 ∷ 0 ∷ 0 ∷ 0 ∷ 0 ∷ 0 ∷ 0
    ∷ L ∷ 0 ∷ 0 ∷ 0 ∷ L ∷ L ∷ L ∷ 0 ∷ 0 ∷ 0
    ∷ 0 ∷ 0 ∷ L ∷ 0 ∷ 0 ∷ 0 ∷ L ∷ -L ∷ L ∷ L
    ∷ 0 ∷ 0 ∷ 0 ∷ 0 ∷ L ∷ 0 ∷ 0 ∷ L ∷ LL ∷ 0 ∷ []

abbrev pub second : ReducerInput
second = reducer_input_of 5 (of_bit_patterns second-words) (8 ∷ 0 ∷ 4294967295 ∷ 2 ∷ 3 ∷ [])

-- buses 2 and 1 and again 2; a number that is no bus's; bus 3, twice
abbrev pub second-calls : List Call
second-calls = buses (4294967295 ∷ 0 ∷ 4294967295 ∷ 8 ∷ []) ∷ bus 1 ∷ bus 2 ∷ bus 2 ∷ []

abbrev pub a' : Account
a' = account second second-calls

calls-differ : second-calls ≡ first-calls → ⊥
calls-differ e = let z : ◌≡◌ {A = ℕ} 0 1 = cc in omega arith

second-made : AcceptedMaking second
unfolding opened
second-made = tt

second-removed : a'.removed ≡ gone
unfolding opened
second-removed = refl

-- the group is two of the three
abbrev pub G : List ℕ
G = 3 ∷ 2 ∷ []

among-removed : (k : ℕ) → k is_one_of G → k is_one_of gone
among-removed = of-each (λ (k : ℕ). k is_one_of gone) G (tt, (tt, tt))

-- what holds of each two of these buses, neither of the group
abbrev pub Apart : List ℕ → List ℕ → (ℕ → ℕ → Type 0) → Type 0
Apart ns R Q = Each (λ i. (i is_one_of R → ⊥) → Each (λ j. (j is_one_of R → ⊥) → Q i j) ns) ns

pub apart : (ns R : List ℕ) (Q : ℕ → ℕ → Type 0) → Apart ns R Q
    → (i j : ℕ) → i is_one_of ns → j is_one_of ns → (i is_one_of R → ⊥) → (j is_one_of R → ⊥) → Q i j
apart ns R Q h i j x y o o' =
    of-each (λ j. (j is_one_of R → ⊥) → Q i j) ns (of-each (λ i. (i is_one_of R → ⊥) → Each (λ j. (j is_one_of R → ⊥) → Q i j) ns) ns h i x o) j y o'

outside : SameOutside a.size a.old a'.old G
unfolding opened
outside i j x y = apart (up_to 5) G (λ i j. a.old i j ≈ a'.old i j) (search tt depth 30) i j (in-up_to 5 i x) (in-up_to 5 j y)

-- the matrices agree but in the rows and columns of the group
alike : Alike a a' G
unfolding fresh step account_from
alike = record { size = refl; removed = second-removed ∙ sym first-removed; group = rw first-removed (search (among-removed, tt)); outside = search outside }

abbrev Differ : ℕ → ℕ → Type 0
Differ i j = a.old i j ≈ a'.old i j → ⊥

-- and differ in both rows, in both columns and on the diagonal
differ : Differ 2 0 × Differ 3 1 × Differ 4 2 × Differ 4 3 × Differ 2 2 × Differ 3 3
unfolding opened
differ = (λ e. e.0, λ e. e.0, λ e. e.0, λ e. e.0, λ e. e.0, λ e. e.0)

second-rows : OnlyTo 1 a'.old gone 0 × OnlyTo 1 a'.old gone 1
unfolding opened
second-rows = (only-to 2 1 3 a'.old 0 (λ n. n) (λ n. n), only-to 2 1 3 a'.old 1 (λ n. n) (λ n. n))

-- bus 0 has no chain into the group in either, though in the second one leads out of it to bus 0
none-into : NoInto a a' G 0
none-into = (
  no-into 0 1 a.old a.removed (rw first-removed first_rows.0) G (rw first-removed among-removed) (λ n. n),
  no-into 0 1 a'.old a'.removed (rw second-removed second-rows) G (rw second-removed among-removed) (λ n. n),
)

an-out : Out a'.old a'.removed G 0
unfolding opened
an-out = (2, [], tt, tt, tt)

-- so row 0 is the same in both; of the entry at bus 4, which has chains into the group and out of it, demand3!Bites tells that it is not
row_same : (q : ℕ) → q < 2 → entry_in (left first first-calls) 0 q ≈ entry_in (left second second-calls) 0 q
row_same q h =
    (rw first-kept at (removals.independent first second first-calls second-calls (words-f64s first-words) (words-f64s second-words) (search (first_made, first-removed, tt)) (search (second-made, second-removed, tt)) G alike 0 q))
    (lit< tt) h (inl none-into)
