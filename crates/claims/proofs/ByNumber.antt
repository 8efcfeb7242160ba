-- Buses told by number: what is said of numbers is said of their rows. Where the numbers are the rows, calls remove what they name.
use Rattle.prelude.proofs.Prelude.{◌≡◌, refl, sym, ap, ◌∙◌, subst, Bool, false, cond, inl, inr, List, [], ◌∷◌, ◌++◌, ℕ, zero, suc, ◌<◌, T, eqb, ltb, length, get_or, replicate, ap₂, map, lt_irrefl, leb, ltb→lt, and_l, and_r}
use mathlib.Core.Path.{subst₂}
use Rattle.lists.specs.Buses.{up_to, mem, ◌is_one_of◌, place, all_below, repeats, within, rows_in}
use Rattle.binary64.specs.Values.{all_finite}
use Rattle.complex.specs.{◌≈◌, too_small}
use Rattle.lists.proofs.Order.{length-up_to, get_or-up_to}
use Rattle.refusals.specs.Refusals.{limit}
use Rattle.lists.proofs.Buses.{failed, in_head, in_tail, in-cases, in-or-out, get_or-in, below_all, all-below, all-below-others, place_none, get_or-place, place-get_or, below-up_to, in-up_to, rising-up_to, all-below-up_to}
use Rattle.lists.proofs.Naming.{place-number, below-within}
use Rattle.kron_reduction.specs.Kron.{State, start, of_removal, accepts, remove, carried_out}
use Rattle.kron_reduction.specs.Reducer.{ReducerInput, AcceptedMaking, stored}
use Rattle.kron_reduction.proofs.States.{refusal_of, refusal_is, Accepted, accepted-active}
use Rattle.kron_reduction.specs.Reading.{active_numbers}
use Rattle.claims.specs.Accounts.{Call, bus, buses, left, Account, fresh, state_after, removes, account, kept, row_at, bus_at, numbers_at}
use Rattle.claims.specs.ByNumber.{old_between, AlikeByNumber}
use Rattle.claims.proofs.Bridge.{made-has, account-kept, account-numbers, regular-state, left_is, all-accepted, kept-is}

-- ---- numbers and rows

-- the numbers of the rows of buses that are there are those buses' numbers
pub removed-numbers : (ns ks : List ℕ) → T (within ns ks) → map (λ (i : ℕ). get_or ns i 0) (rows_in ns ks) ≡ ks
unfolding within rows_in
removed-numbers ns [] w = refl
removed-numbers ns (k ∷ ks) w =
    ap₂ (λ (x : ℕ) (xs : List ℕ). x ∷ xs) (get_or-place k ns (and_l (mem k ns) (within ns ks) w)) (removed-numbers ns ks (and_r (mem k ns) (within ns ks) w))

-- and the rows of the numbers of rows are those rows
pub numbered-rows : (ns is : List ℕ) → repeats ns ≡ false → T (all_below (length ns) is) → rows_in ns (map (λ (i : ℕ). get_or ns i 0) is) ≡ is
unfolding rows_in
numbered-rows ns [] d h = refl
numbered-rows ns (i ∷ is) d h =
    ap₂ (λ (x : ℕ) (xs : List ℕ). x ∷ xs) (place-number ns i d (ltb→lt i (length ns) (and_l (ltb i (length ns)) (all_below (length ns) is) h)))
    (numbered-rows ns is d (and_r (ltb i (length ns)) (all_below (length ns) is) h))

in_rows : (ns : List ℕ) (k : ℕ) (ks : List ℕ) → k is_one_of ks → place k ns is_one_of rows_in ns ks
unfolding rows_in
in_rows ns k [] m = absurd m
in_rows ns k (x ∷ ks) m = elim (in-cases k x ks m) [
  | inl p ↦ subst (λ (z : ℕ). place z ns is_one_of place x ns ∷ rows_in ns ks) (sym p) (in_head (place x ns) (rows_in ns ks))
  | inr t ↦ in_tail (place k ns) (place x ns) (rows_in ns ks) (in_rows ns k ks t)
]

rows-among : (ns G ks : List ℕ) → ((k : ℕ) → k is_one_of G → k is_one_of ks) → (i : ℕ) → i is_one_of rows_in ns G → i is_one_of rows_in ns ks
unfolding rows_in
rows-among ns [] ks among i m = absurd m
rows-among ns (x ∷ G) ks among i m = elim (in-cases i (place x ns) (rows_in ns G) m) [
  | inl p ↦ rw p (in_rows ns x ks (among x (in_head x G)))
  | inr t ↦ rows-among ns G ks (λ (k : ℕ) (l : k is_one_of G). among k (in_tail k x G l)) i t
]

-- ---- the account of an accepted making

accepted-below : (n : ℕ) (s : State) (ks : List ℕ) → T (all_below n s.active) → Accepted s ks → (k : ℕ) → k is_one_of ks → k < n
accepted-below n s [] h ok k m = absurd m
accepted-below n s (x ∷ ks) h ok k m = elim (in-cases k x ks m) [
  | inl p ↦ rw p (below_all n s.active h x (accepted-active s x ok.0))
  | inr t ↦ accepted-below n (remove s x) ks (all-below-others n (x ∷ []) s.active h) ok.1 k t
]

module _ (M : ReducerInput) (calls : List Call) (made : AcceptedMaking M) where
  abbrev a : Account
  a = account M calls

  pub account-many : length a.numbers ≡ a.size
  unfolding fresh
  account-many = ap length (account-numbers (fresh M) calls) ∙ (made-has M made).many ∙ sym (account-kept (fresh M) calls).0

  pub account-distinct : repeats a.numbers ≡ false
  unfolding fresh
  account-distinct = ap repeats (account-numbers (fresh M) calls) ∙ (made-has M made).distinct

  pub removed-below : T (all_below (length a.numbers) a.removed)
  removed-below =
      all-below (length a.numbers) a.removed (rw account-many (accepted-below a.size (start a.size a.old) a.removed (all-below-up_to a.size) (all-accepted M calls)))

  -- the removed buses' rows are the rows of their numbers
  pub removed-rows : rows_in a.numbers (numbers_at a a.removed) ≡ a.removed
  removed-rows = numbered-rows a.numbers a.removed account-distinct removed-below

  -- where the rows of the buses numbered ks are removed, those are the removed buses' numbers
  pub removed-are : (ks : List ℕ) → a.removed ≡ rows_in a.numbers ks → numbers_at a a.removed ≡ ks
  removed-are ks e =
      ap (numbers_at a) e
      ∙ removed-numbers a.numbers ks (subst T (ap (all_below (length a.numbers)) e ∙ below-within a.numbers ks) removed-below)

  -- the bus of row p is found by its number
  pub row-of-bus : (p : ℕ) → p < length (kept a) → place (bus_at a p) a.numbers ≡ row_at a p
  row-of-bus p h =
      place-number a.numbers (row_at a p) account-distinct
      (rw account-many (below_all a.size (kept a) (all-below-others a.size a.removed (up_to a.size) (all-below-up_to a.size)) (row_at a p) (get_or-in (kept a) p h)))

-- ---- the record's numbers

get_or-padded : (ns : List ℕ) (m i : ℕ) → get_or (ns ++ replicate m 0) i 0 ≡ get_or ns i 0
get_or-padded [] zero i = refl
get_or-padded [] (suc m) zero = refl
get_or-padded [] (suc m) (suc i) = get_or-padded [] m i
get_or-padded (n ∷ ns) m zero = refl
get_or-padded (n ∷ ns) m (suc i) = get_or-padded ns m i

-- the active buses that the record tells are the kept ones
pub kept-numbers : (M : ReducerInput) (calls : List Call) → AcceptedMaking M → active_numbers (left M calls).rec ≡ numbers_at (account M calls) (kept (account M calls))
unfolding stored fresh
kept-numbers M calls made = rw (kept-is M calls made) (simp (left_is M calls made, get_or-padded, account-numbers (fresh M) calls))

-- ---- numbers that are the rows

row-place : (n k : ℕ) → k < n → place k (up_to n) ≡ k
row-place n k h = subst (λ (z : ℕ). place z (up_to n) ≡ k) (get_or-up_to n k 0 h) (place-get_or (up_to n) k (rising-up_to n) (rw length-up_to h))

refused : (s : State) (k : ℕ) → (k is_one_of s.active → ⊥) → accepts s k ≡ false
refused s k out =
    ap (λ (f : ℕ). eqb f 0) (refusal_is s k ∙ ap (λ (b : Bool). refusal_of b (too_small (s.entries k k)) (all_finite (of_removal s k))) (failed (mem k s.active) out))

-- a list of buses told by row is carried out as it stands
pub taken-by-row : (n : ℕ) (s : State) (ks : List ℕ) → T (all_below n s.active) → carried_out s (rows_in (up_to n) ks) ≡ carried_out s ks
unfolding carried_out rows_in
taken-by-row n s [] h = refl
taken-by-row n s (k ∷ ks) h = elim (in-or-out k (up_to n)) [
  | inl m ↦ rw (row-place n k (below-up_to n k m)) (ap (λ (ts : List ℕ). cond (accepts s k) (k ∷ ts) []) (taken-by-row n (remove s k) ks (all-below-others n (k ∷ []) s.active h)))
  | inr m ↦ rw (place_none k (up_to n) m ∙ length-up_to n, refused s n (λ (t : n is_one_of s.active). lt_irrefl n (below_all n s.active h n t)), refused s k (λ (t : k is_one_of s.active). m (in-up_to n k (below_all n s.active h k t)))) refl
]

pub removes-bus-by-row : (a : Account) → a.numbers ≡ up_to a.size → (k : ℕ) → removes a (bus k) ≡ carried_out (state_after a) (k ∷ [])
unfolding removes
removes-bus-by-row a e k = ap (λ (ns : List ℕ). carried_out (state_after a) (rows_in ns (k ∷ []))) e ∙ taken-by-row a.size (state_after a) (k ∷ []) (regular-state a).below

pub removes-by-row : (a : Account) → a.numbers ≡ up_to a.size → (ks : List ℕ) → removes a (buses ks) ≡ cond (leb (length ks) limit) (carried_out (state_after a) ks) []
unfolding removes
removes-by-row a e ks =
    ap (λ (ts : List ℕ). cond (leb (length ks) limit) ts []) (ap (λ (ns : List ℕ). carried_out (state_after a) (rows_in ns ks)) e ∙ taken-by-row a.size (state_after a) ks (regular-state a).below)

-- ---- two accounts

module _ (M M' : ReducerInput) (calls calls' : List Call) (made : AcceptedMaking M) (made' : AcceptedMaking M') (G : List ℕ) (same : AlikeByNumber (account M calls) (account M' calls') G) where
  abbrev b : Account
  b = account M calls

  abbrev b' : Account
  b' = account M' calls'

  abbrev grouped : List ℕ
  grouped = rows_in b.numbers G

  number-below : (i : ℕ) → i < b.size → i < length b.numbers
  number-below i h = rw (account-many M calls made) h

  row_back : (i : ℕ) → i < b.size → place (get_or b.numbers i 0) b.numbers ≡ i
  row_back i h = place-number b.numbers i (account-distinct M calls made) (number-below i h)

  not-grouped : (i : ℕ) → i < b.size → (i is_one_of grouped → ⊥) → get_or b.numbers i 0 is_one_of G → ⊥
  not-grouped i h away m = away (subst (λ (z : ℕ). z is_one_of grouped) (row_back i h) (in_rows b.numbers (get_or b.numbers i 0) G m))

  -- what `Alike` asks, where the group is the rows of the buses numbered G
  pub alike-by-number : (b'.size ≡ b.size) × (b'.removed ≡ b.removed) × ((i : ℕ) → i is_one_of grouped → i is_one_of b.removed)
      × ((i j : ℕ) → i < b.size → j < b.size → (i is_one_of grouped → ⊥) → (j is_one_of grouped → ⊥) → b.old i j ≈ b'.old i j)
  unfolding old_between
  alike-by-number = (
    sym (account-many M' calls' made') ∙ ap length same.numbers ∙ account-many M calls made,
    sym (removed-rows M' calls' made') ∙ ap₂ rows_in same.numbers same.removed ∙ removed-rows M calls made,
    λ i m. rw (removed-rows M calls made) at (rows-among b.numbers G (numbers_at b b.removed) (search same) i m),
    λ i j x y o o'.
        let k = get_or b.numbers i 0 in
        let l = get_or b.numbers j 0 in
        let e = same.outside k l (get_or-in b.numbers i (number-below i x)) (get_or-in b.numbers j (number-below j y)) (not-grouped i x o) (not-grouped j y o') in
        subst₂ (λ (p q : ℕ). b.old p q ≈ b'.old p q) (row_back i x) (row_back j y)
        (subst (λ (ns : List ℕ). b.old (place k b.numbers) (place l b.numbers) ≈ b'.old (place k ns) (place l ns)) same.numbers e),
  )
