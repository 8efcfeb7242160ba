-- The premises of claim 1 can be met, with calls that are refused, several buses removed and large numbers; so can those of `no-more-refused`.
use Rattle.prelude.proofs.Prelude.{◌≡◌, refl, List, [], ◌∷◌, ℕ, ◌+◌, replicate, lit<, sub, mul, div, lt, eq, of_bits}
use Rattle.complex.specs.{csub, cmul, cdiv, entry as entry_of, Matrix, entry_at, ◌≈◌}
use Rattle.lists.specs.Buses.{up_to, ◌is_one_of◌, others, place, rising, repeats}
use Rattle.binary64.specs.Values.{all_finite}
use Rattle.binary64.specs.BitPatterns.{of_bit_patterns}
use Rattle.binary64.proofs.BitPatterns.{words-f64s}
use Rattle.refusals.specs.Refusals.{limit, then_given}
use Rattle.lists.proofs.Each.{of-each}
use Rattle.kron_reduction.specs.Kron.{kron, removal_refusal, eliminate, carried_out, of_row, of_rows, of_removals}
use Rattle.kron_reduction.specs.Reducer.{ReducerInput, reducer_input_of, making_shape_refusal, making_refusal, AcceptedMaking, made as record_made, sound_rows, sound_numbers, input_shape_refusal, input_refusal, state_of, stored, leaves, removed_rows, after_bus, after_buses}
use Rattle.claims.specs.Accounts.{Call, bus, buses, after_call, left_from, left, entry_in, fresh, state_after, removes, step, account_from, Account, account, kept}
use Rattle.claims.specs.Chains.{Linked, Steps, Within, Chain, Into}
use Rattle.claims.specs.Finite.{of_account}
use Rattle.claims.specs.Untested.{admitted, untested_removes, untested_step, untested_from, untested_account}
use Rattle.claims.proofs.Removals.{removals}

-- M of the two-bus book: 1, -1 / -1, 2
unfoldable pub book-words : List ℕ
book-words = 0x3ff0000000000000 ∷ 0 ∷ 0xbff0000000000000 ∷ 0 ∷ 0xbff0000000000000 ∷ 0 ∷ 0x4000000000000000 ∷ 0 ∷ []

-- to open this is to open all that lists of calls compute with
unfoldable pub opened : Unit {0}
unfolding book-words of_bit_patterns csub cmul cdiv up_to others place entry_of entry_at kron removal_refusal eliminate carried_out fresh state_after
    removes step account_from sub mul div lt of_bits eq stored making_shape_refusal making_refusal record_made rising sound_rows sound_numbers
    input_shape_refusal input_refusal then_given
    state_of leaves removed_rows after_bus after_buses after_call left_from left all_finite of_account of_removals of_row of_rows
opened = tt

abbrev pub book : ReducerInput
book = reducer_input_of 2 (of_bit_patterns book-words) (0 ∷ 1 ∷ [])

-- a bus that is not there, a list too long, a list that is refused at its second bus, and a bus that is gone: one bus is removed
abbrev book-calls : List Call
book-calls = bus 7 ∷ buses (replicate (limit + 1) 1) ∷ buses (1 ∷ 1 ∷ 0 ∷ []) ∷ bus 1 ∷ []

book-removed : (account book book-calls).removed ≡ 1 ∷ []
unfolding opened
book-removed = refl

-- ---- claim 1: the buses of the rows 0 - 1 - 2 - 3 - 4 stand in a line, with no entry from bus 1 to bus 2, and one from bus 0 to bus 4; the three in the middle are removed
-- In what follows a bus is told by its row, but for the calls, which tell it by number: no number is that of its own row.

-- the bit patterns of 2^340, -2^340 and 2^341: a removal multiplies three entries, and with much larger ones the product is not finite
abbrev pub L : ℕ
L = 0x5530000000000000

abbrev pub -L : ℕ
-L = 0xd530000000000000

abbrev pub LL : ℕ
LL = 0x5540000000000000

-- and of the largest finite number
abbrev pub largest : ℕ
largest = 0x7fefffffffffffff

abbrev pub first-words : List ℕ
first-words =
    LL ∷ 0 ∷ -L ∷ 0 ∷ 0 ∷ 0 ∷ 0 ∷ 0 ∷ largest ∷ 0
    ∷ -L ∷ 0 ∷ LL ∷ 0 ∷ 0 ∷ 0 ∷ 0 ∷ 0 ∷ 0 ∷ 0
    ∷ 0 ∷ 0 ∷ -L ∷ 0 ∷ LL ∷ 0 ∷ -L ∷ 0 ∷ 0 ∷ 0
    ∷ 0 ∷ 0 ∷ 0 ∷ 0 ∷ -L ∷ 0 ∷ LL ∷ 0 ∷ -L ∷ 0
    ∷ 0 ∷ 0 ∷ 0 ∷ 0 ∷ 0 ∷ 0 ∷ -L ∷ 0 ∷ LL ∷ 0 ∷ []

abbrev pub numbers : List ℕ
numbers = 3 ∷ 4294967295 ∷ 0 ∷ 7 ∷ 1 ∷ []

abbrev pub first : ReducerInput
first = reducer_input_of 5 (of_bit_patterns first-words) numbers

-- bus 2; then a number that is a row's and no bus's; then buses 1 and 3 and again 2, which is gone, so that bus 4 stays
abbrev pub first-calls : List Call
first-calls = bus 0 ∷ bus 2 ∷ buses (4294967295 ∷ 7 ∷ 0 ∷ 1 ∷ []) ∷ []

abbrev pub a : Account
a = account first first-calls

-- the removed buses, in the order of the calls
abbrev pub gone : List ℕ
gone = 2 ∷ 1 ∷ 3 ∷ []

pub first_made : AcceptedMaking first
unfolding opened
first_made = tt

pub first-removed : a.removed ≡ gone
unfolding opened
first-removed = refl

pub first-kept : kept a ≡ 0 ∷ 4 ∷ []
unfolding opened
first-kept = refl

-- bus m is the only one of R that bus i has an entry to
abbrev pub OnlyTo : ℕ → Matrix → List ℕ → ℕ → Type 0
OnlyTo m Y R i = (k : ℕ) → k is_one_of R → Linked Y i k → k ≡ m

pub only-to : (x m y : ℕ) (Y : Matrix) (i : ℕ) → (Linked Y i x → ⊥) → (Linked Y i y → ⊥) → OnlyTo m Y (x ∷ m ∷ y ∷ []) i
only-to x m y Y i n n' = of-each (λ (k : ℕ). Linked Y i k → k ≡ m) (x ∷ m ∷ y ∷ []) (λ l. absurd (n l), (λ l. refl, (λ l. absurd (n' l), tt)))

-- where that holds of buses s and m, chains from bus s come no further
module _ (s m : ℕ) (Y : Matrix) (R : List ℕ) (rows : OnlyTo m Y R s × OnlyTo m Y R m) where
  no-further : (j : ℕ) → (Linked Y m j → ⊥) → (ks : List ℕ) → Within ks R → Steps Y m ks j → ⊥
  no-further j none [] within steps = none steps
  no-further j none (k ∷ ks) within steps = no-further j none ks within.1 (rw (rows.1 k within.0 steps.0) at steps.1)

  pub no-chain : (j : ℕ) → (Linked Y m j → ⊥) → Chain Y R s j → ⊥
  no-chain j none (k, ks, within, steps) = no-further j none ks within.1 (rw (rows.0 k within.0 steps.0) at steps.1)

  pub no-into : (G : List ℕ) → ((k : ℕ) → k is_one_of G → k is_one_of R) → (m is_one_of G → ⊥) → Into Y R G s → ⊥
  no-into G among away (g, [], l, within, steps) = away (rw (rows.0 g (among g l) steps) at l)
  no-into G among away (g, k ∷ ks, l, within, steps) =
      no-further g (λ n. away (rw (rows.1 g (among g l) n) at l)) ks within.1 (rw (rows.0 k within.0 steps.0) at steps.1)

pub first_rows : (OnlyTo 1 a.old gone 0 × OnlyTo 1 a.old gone 1) × (Linked a.old 1 4 → ⊥)
unfolding opened
first_rows = ((only-to 2 1 3 a.old 0 (λ n. n) (λ n. n), only-to 2 1 3 a.old 1 (λ n. n) (λ n. n)), λ n. n)

-- so the entry from bus 0 to bus 4 stays (a premise is met from what is listed, so that one that asks more is met too where it holds), though bus 0 has an entry to a removed bus, and another removed bus has one to bus 4
stays : entry_in (left first first-calls) 0 1 ≈ a.old 0 4
stays = (rw first-kept at (removals.unchanged first first-calls (words-f64s first-words) (unfold of_bit_patterns of_bits lt in search (first_made, first-removed, tt)) 0 1))
    (lit< tt) (lit< tt) (no-chain 0 1 a.old a.removed (rw first-removed first_rows.0) 4 first_rows.1)

-- a chain from bus 4 to bus 0 meets all removed buses; what becomes of that entry stands in demand3!Bites
long-chain : Chain a.old a.removed 4 0
unfolding opened
long-chain = (3, 2 ∷ 1 ∷ [], (tt, (tt, (tt, tt))), (tt, (tt, (tt, tt))))

-- ---- nothing finite is refused: the same removals by 11 and 12 alone

untested-same : (untested_account book book-calls).removed ≡ 1 ∷ []
unfolding opened admitted untested_removes untested_step untested_from
untested-same = refl

all-let-through : account book book-calls ≡ untested_account book book-calls
all-let-through = (removals.no-more-refused book book-calls (unfold opened repeats in refl) (unfold opened in tt) (unfold opened admitted untested_removes untested_step untested_from in tt)).1
