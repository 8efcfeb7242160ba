-- The claims by number (`number-claims`), from those by row: chains by row are chains by number.
use Rattle.prelude.proofs.Prelude.{◌≡◌, sym, ap, ◌∙◌, subst, ◌⊎◌, inl, inr, ⊎_elim, List, [], ◌∷◌, ℕ, ◌<◌, length, get_or, ap₂, map, length-map}
use mathlib.Core.Path.{subst₂}
use Rattle.complex.specs.{◌≈◌}
use Rattle.binary64.specs.Values.{F64s}
use Rattle.lists.specs.Buses.{up_to, ◌is_one_of◌, others, place, rows_in}
use Rattle.lists.proofs.Buses.{in_head, in_tail, in-cases, get_or-in, get_or-place, place-lt, below_all, all-below-others, all-below-up_to}
use Rattle.lists.proofs.Naming.{place-number}
use Rattle.lists.proofs.Lookups.{get_or_map}
use Rattle.kron_reduction.specs.Reducer.{ReducerInput, AcceptedMaking}
use Rattle.kron_reduction.specs.Reading.{active_numbers}
use Rattle.claims.specs.Accounts.{Call, left, entry_in, Account, account, kept, row_at, numbers_at}
use Rattle.claims.specs.Chains.{Steps, Within, Chain, Into, Out, SameOutside}
use Rattle.claims.specs.Removals.{NoInto, NoOut}
use Rattle.claims.specs.ByNumber.{old_between, left_between, by_number, AlikeByNumber, UnchangedByNumber, NumberClaims}
use Rattle.claims.proofs.ByNumber.{account-many, account-distinct, removed-below, kept-numbers, alike-by-number}
use Rattle.claims.proofs.Removals.{unchanged as by_row, finite, same-or-joined, cut}

in_map : (f : ℕ → ℕ) (k : ℕ) (ks : List ℕ) → k is_one_of ks → f k is_one_of map f ks
in_map f k [] m = absurd m
in_map f k (x ∷ ks) m = elim (in-cases k x ks m) [
  | inl p ↦ subst (λ (z : ℕ). f z is_one_of f x ∷ map f ks) (sym p) (in_head (f x) (map f ks))
  | inr t ↦ in_tail (f k) (f x) (map f ks) (in_map f k ks t)
]

within-map : (f : ℕ → ℕ) (ks R : List ℕ) → Within ks R → Within (map f ks) (map f R)
within-map f [] R h = tt
within-map f (k ∷ ks) R h = (in_map f k R h.0, within-map f ks R h.1)

-- the number of a row of the group is one of the group
grouped-number : (ns G : List ℕ) (g : ℕ) → ((k : ℕ) → k is_one_of G → k is_one_of ns) → g is_one_of rows_in ns G → get_or ns g 0 is_one_of G
unfolding rows_in
grouped-number ns [] g among m = absurd m
grouped-number ns (x ∷ G) g among m = elim (in-cases g (place x ns) (rows_in ns G) m) [
  | inl p ↦ subst (λ (z : ℕ). z is_one_of x ∷ G) (sym (ap (λ (z : ℕ). get_or ns z 0) p ∙ get_or-place x ns (among x (in_head x G)))) (in_head x G)
  | inr t ↦ in_tail (get_or ns g 0) x G (grouped-number ns G g (λ (k : ℕ) (l : k is_one_of G). among k (in_tail k x G l)) t)
]

-- ---- one account

module _ (M : ReducerInput) (calls : List Call) (made : AcceptedMaking M) where
  abbrev a : Account
  a = account M calls

  abbrev number : ℕ → ℕ
  number i = get_or a.numbers i 0

  back : (i : ℕ) → i < a.size → place (number i) a.numbers ≡ i
  back i h = place-number a.numbers i (account-distinct M calls made) (rw (account-many M calls made) h)

  -- a step between rows is one between their numbers
  entry-back : (i j : ℕ) → i < a.size → j < a.size → old_between a (number i) (number j) ≡ a.old i j
  unfolding old_between
  entry-back i j x y = ap₂ a.old (back i x) (back j y)

  below : (k : ℕ) → k is_one_of a.removed → k < a.size
  below k m = rw (account-many M calls made) at (below_all (length a.numbers) a.removed (removed-below M calls made) k m)

  steps : (i j : ℕ) (ks : List ℕ) → i < a.size → j < a.size → Within ks a.removed
      → Steps a.old i ks j → Steps (old_between a) (number i) (map number ks) (number j)
  steps i j [] x y w s = rw (entry-back i j x y) s
  steps i j (k ∷ ks) x y w s = (rw (entry-back i k x (below k w.0)) s.0, steps k j ks (below k w.0) y w.1 s.1)

  pub chain : (i j : ℕ) → i < a.size → j < a.size → Chain a.old a.removed i j → Chain (by_number a).old (by_number a).removed (number i) (number j)
  chain i j x y (k, ks, w, s) = (number k, map number ks, within-map number (k ∷ ks) a.removed w, steps i j (k ∷ ks) x y w s)

  numbered : (is : List ℕ) → ((i : ℕ) → i is_one_of is → i < a.size) → (k : ℕ) → k is_one_of numbers_at a is → k is_one_of a.numbers
  numbered [] h k m = absurd m
  numbered (i ∷ is) h k m = elim (in-cases k (number i) (numbers_at a is) m) [
    | inl p ↦ rw p (get_or-in a.numbers i (rw (account-many M calls made) (h i (in_head i is))))
    | inr t ↦ numbered is (λ (j : ℕ) (l : j is_one_of is). h j (in_tail j i is l)) k t
  ]

  -- a group of removed buses, by number and by row
  module _ (G : List ℕ) (among : (k : ℕ) → k is_one_of G → k is_one_of numbers_at a a.removed)
      (rows : (i : ℕ) → i is_one_of rows_in a.numbers G → i is_one_of a.removed) where
    in_group : (g : ℕ) → g is_one_of rows_in a.numbers G → number g is_one_of G
    in_group g m = grouped-number a.numbers G g (λ (k : ℕ) (l : k is_one_of G). numbered a.removed below k (among k l)) m

    pub into : (i : ℕ) → i < a.size → Into a.old a.removed (rows_in a.numbers G) i → Into (by_number a).old (by_number a).removed G (number i)
    into i x (g, ks, m, w, s) = (number g, map number ks, in_group g m, within-map number ks a.removed w, steps i g ks x (below g (rows g m)) w s)

    pub out : (j : ℕ) → j < a.size → Out a.old a.removed (rows_in a.numbers G) j → Out (by_number a).old (by_number a).removed G (number j)
    out j y (g, ks, m, w, s) = (number g, map number ks, in_group g m, within-map number ks a.removed w, steps g j ks (below g (rows g m)) y w s)

  -- ---- an active bus

  -- its row in what is left, and the row of the making that it had
  abbrev now_at : ℕ → ℕ
  now_at b = place b (numbers_at a (kept a))

  now-below : (b : ℕ) → b is_one_of numbers_at a (kept a) → now_at b < length (kept a)
  now-below b m = rw (length-map (kept a) number) at (place-lt b (numbers_at a (kept a)) m)

  number_at : (b : ℕ) → b is_one_of numbers_at a (kept a) → number (row_at a (now_at b)) ≡ b
  number_at b m = sym (get_or_map number 0 0 (kept a) (now_at b) (now-below b m)) ∙ get_or-place b (numbers_at a (kept a)) m

  row_below : (b : ℕ) → b is_one_of numbers_at a (kept a) → row_at a (now_at b) < a.size
  row_below b m = below_all a.size (kept a) (all-below-others a.size a.removed (up_to a.size) (all-below-up_to a.size)) (row_at a (now_at b)) (get_or-in (kept a) (now_at b) (now-below b m))

  old-at : (b c : ℕ) → b is_one_of numbers_at a (kept a) → c is_one_of numbers_at a (kept a) → old_between a b c ≡ a.old (row_at a (now_at b)) (row_at a (now_at c))
  old-at b c m l =
      sym (ap₂ (old_between a) (number_at b m) (number_at c l)) ∙ entry-back (row_at a (now_at b)) (row_at a (now_at c)) (row_below b m) (row_below c l)

  left_at : (b c : ℕ) → left_between (left M calls) b c ≡ entry_in (left M calls) (now_at b) (now_at c)
  unfolding left_between
  left_at b c = ap (λ (ns : List ℕ). entry_in (left M calls) (place b ns) (place c ns)) (kept-numbers M calls made)

  active : (b : ℕ) → b is_one_of active_numbers (left M calls).rec → b is_one_of numbers_at a (kept a)
  active b m = subst (λ (ns : List ℕ). b is_one_of ns) (kept-numbers M calls made) m

  unchanged : F64s M.given → UnchangedByNumber a (left M calls)
  unchanged f b c x y none =
      let m = active b x in
      let l = active c y in
      let i = row_at a (now_at b) in
      let j = row_at a (now_at c) in
      rw (left_at b c, old-at b c m l) (by_row M calls f (finite M calls made) (now_at b) (now_at c) (now-below b m) (now-below c l)
      (λ (w : Chain a.old a.removed i j). none (subst₂ (Chain (by_number a).old (by_number a).removed) (number_at b m) (number_at c l) (chain i j (row_below b m) (row_below c l) w))))

-- ---- two accounts

module _ (M M' : ReducerInput) (calls calls' : List Call) (made : AcceptedMaking M) (made' : AcceptedMaking M') (G : List ℕ) (same : AlikeByNumber (account M calls) (account M' calls') G) where
  abbrev d : Account
  d = account M calls

  abbrev d' : Account
  d' = account M' calls'

  abbrev grouped : List ℕ
  grouped = rows_in d.numbers G

  rows_alike : (d'.size ≡ d.size) × (d'.removed ≡ d.removed) × ((i : ℕ) → i is_one_of grouped → i is_one_of d.removed) × SameOutside d.size d.old d'.old grouped
  rows_alike = alike-by-number M M' calls calls' made made' G same

  same_kept : kept d' ≡ kept d
  same_kept = ap₂ (λ (n : ℕ) (R : List ℕ). others R (up_to n)) rows_alike.0 rows_alike.1

  -- an active bus has one row in both
  one_place : (b : ℕ) → now_at M' calls' made' b ≡ now_at M calls made b
  one_place b = ap₂ (λ (ns ks : List ℕ). place b (map (λ (i : ℕ). get_or ns i 0) ks)) same.numbers same_kept

  group' : (k : ℕ) → k is_one_of G → k is_one_of numbers_at d' d'.removed
  group' k m = subst (λ (ks : List ℕ). k is_one_of ks) (sym same.removed) (let among : (k : ℕ) → k is_one_of G → k is_one_of numbers_at d d.removed = search same in among k m)

  rows' : (i : ℕ) → i is_one_of rows_in d'.numbers G → i is_one_of d'.removed
  rows' = subst₂ (λ (ns R : List ℕ). (i : ℕ) → i is_one_of rows_in ns G → i is_one_of R) (sym same.numbers) (sym rows_alike.1) rows_alike.2

  -- where no chain by number leads into the group, none by row does, nor out of it
  module _ (b : ℕ) (m : b is_one_of numbers_at d (kept d)) where
    abbrev row : ℕ
    row = row_at d (now_at M calls made b)

    number' : get_or d'.numbers row 0 ≡ b
    number' = ap (λ (ns : List ℕ). get_or ns row 0) same.numbers ∙ number_at M calls made b m

    below' : row < d'.size
    below' = subst (λ (n : ℕ). row < n) (sym rows_alike.0) (row_below M calls made b m)

    no-into : NoInto (by_number d) (by_number d') G b → NoInto d d' grouped row
    no-into (n, n') = (
      λ (w : Into d.old d.removed grouped row).
          n (subst (Into (by_number d).old (by_number d).removed G) (number_at M calls made b m) (into M calls made G (search same) rows_alike.2 row (row_below M calls made b m) w)),
      λ (w : Into d'.old d'.removed grouped row).
          n' (subst (Into (by_number d').old (by_number d').removed G) number'
          (into M' calls' made' G group' rows' row below' (subst (λ (ns : List ℕ). Into d'.old d'.removed (rows_in ns G) row) (sym same.numbers) w))),
    )

    no-out : NoOut (by_number d) (by_number d') G b → NoOut d d' grouped row
    no-out (n, n') = (
      λ (w : Out d.old d.removed grouped row).
          n (subst (Out (by_number d).old (by_number d).removed G) (number_at M calls made b m) (out M calls made G (search same) rows_alike.2 row (row_below M calls made b m) w)),
      λ (w : Out d'.old d'.removed grouped row).
          n' (subst (Out (by_number d').old (by_number d').removed G) number'
          (out M' calls' made' G group' rows' row below' (subst (λ (ns : List ℕ). Out d'.old d'.removed (rows_in ns G) row) (sym same.numbers) w))),
    )

  independent : F64s M.given → F64s M'.given → (b c : ℕ) → b is_one_of active_numbers (left M calls).rec → c is_one_of active_numbers (left M calls).rec
      → NoInto (by_number d) (by_number d') G b ⊎ NoOut (by_number d) (by_number d') G c → left_between (left M calls) b c ≈ left_between (left M' calls') b c
  independent f f' b c x y apart =
      let m = active M calls made b x in
      let l = active M calls made c y in
      let (size, removed, group, outside) = rows_alike in
      rw (left_at M calls made b c, left_at M' calls' made' b c, one_place b, one_place c)
      (cut (same-or-joined M M' calls calls' f f' (finite M calls made) (finite M' calls' made') grouped size removed group outside
      (now_at M calls made b) (now_at M calls made c) (now-below M calls made b m) (now-below M calls made c l))
      (⊎_elim (λ n. inl (no-into b m n)) (λ n. inr (no-out c l n)) apart))

-- ---- the claims

pub number-claims : NumberClaims
number-claims = record {
  active = λ M calls made. kept-numbers M calls (search made);
  unchanged = λ M calls f made. unchanged M calls (search made) f;
  independent = λ M M' calls calls' f f' made made' G same. independent M M' calls calls' (search made) (search made') G same f f';
}
