-- What `active_buses` answers and leaves, from the tests that the code makes, and what the numbers of a sound record have.
use Rattle.std.proofs.Common.{Some, None, Ok, Err}
use Rattle.prelude.proofs.Prelude.{◌≡◌, refl, sym, ap, ◌∙◌, subst, Bool, not, cond, List, ◌∷◌, ◌++◌, ℕ, zero, suc, ◌+◌, ◌-◌, ◌≤◌, ◌<◌, arith, T, eqb, ltb, length, get_or, take, replicate, lt_irrefl, ltb-false, length-map, length-take-le, get_or-take}
use lib.Seq.{take-append-add}
use Rattle.refusals.specs.declared.Refusal.{Refusal}
use Rattle.refusals.specs.Refusals.{limit, answered, outcome}
use Rattle.refusals.proofs.Answering.{held-refused, passed, accepting}
use Rattle.lists.specs.Buses.{mem, ◌is_one_of◌, place, found_in}
use Rattle.lists.proofs.Buses.{failed, get_or-in, below_all, rising-length}
use Rattle.lists.proofs.Lookups.{get_or_map}
use Rattle.lists.proofs.Chains.{found-is, found_nowhere}
use Rattle.kron_reduction.specs.Reducer.{padded, active_of, numbers_of, sound, row_of}
use Rattle.kron_reduction.specs.declared.KronReducer.{KronReducer}
use Rattle.kron_reduction.specs.Reading.{active_numbers, active_refusal, after_active}
use Rattle.kron_reduction.proofs.Reducer.{sound-has}

-- ---- the input refusals

module _ (r : KronReducer) (m : ℕ) where
  pub record Accepted : Type 0 where
    pub room : r.made ≤ limit
    pub long : m ≡ r.made
    pub good : T (sound r)

  pub active-accepted : active_refusal r m ≡ 0 → Accepted
  unfolding active_refusal
  active-accepted e =
      let (size, e2) = passed (ltb limit r.made) 0 _ e in
      let (given, e9) = passed (not (eqb m r.made)) 1 _ e2 in
      let (whole, _) = passed (not (sound r)) 8 _ e9 in
      search (accepting, ltb-false)

-- ---- the numbers of the active buses

module _ (r : KronReducer) (full : length r.active_buses ≡ limit) (good : T (sound r)) where
  pub count-active : length (active_of r) ≡ r.n_buses
  count-active = length-take-le r.n_buses r.active_buses (rw full (sound-has r good).room)

  pub count-numbers : length (active_numbers r) ≡ r.n_buses
  count-numbers = length-map (active_of r) (λ (i : ℕ). get_or r.numbers i 0) ∙ count-active

  module _ (i : ℕ) (h : i < r.n_buses) where
    active-at : get_or (active_of r) i 0 ≡ get_or r.active_buses i 0
    active-at = get_or-take r.n_buses r.active_buses i 0 h

    within : i < length (active_of r)
    within = omega (arith, count-active, h)

    pub number_at : get_or (active_numbers r) i 0 ≡ get_or r.numbers (get_or r.active_buses i 0) 0
    number_at = get_or_map (λ (i : ℕ). get_or r.numbers i 0) 0 0 (active_of r) i within ∙ ap (λ (j : ℕ). get_or r.numbers j 0) active-at

    pub row_below : get_or r.active_buses i 0 < r.made
    row_below = rw (← active-at) (below_all r.made (active_of r) (sound-has r good).below (get_or (active_of r) i 0) (get_or-in (active_of r) i within))

-- a bus whose number no row has is not active
pub unlisted : (r : KronReducer) (k : ℕ) → r.made ≤ limit → length r.numbers ≡ limit → T (sound r)
    → found_in k (numbers_of r) ≡ None → None ≡ found_in (row_of r k) (active_of r)
unlisted r k room all good e =
    let count : length (numbers_of r) ≡ r.made = length-take-le r.made r.numbers (rw all room) in
    let row : row_of r k ≡ r.made = found_nowhere k (numbers_of r) e ∙ count in
    sym (found-is (row_of r k) (active_of r)
    ∙ ap (λ (b : Bool). cond b (Some (place (row_of r k) (active_of r))) None)
    (failed (mem (row_of r k) (active_of r)) (λ (m : row_of r k is_one_of active_of r). lt_irrefl r.made (subst (λ (n : ℕ). n < r.made) row (below_all r.made (active_of r) (sound-has r good).below (row_of r k) m)))))

-- ---- the answer

take-zeros : (m k : ℕ) → m ≤ k → take m (replicate {A = ℕ} k 0) ≡ replicate m 0
take-zeros zero k h = refl
take-zeros (suc m) zero h = absurd (omega (arith, h))
take-zeros (suc m) (suc k) h = ap (λ (l : List ℕ). 0 ∷ l) (take-zeros m k (omega (arith, h)))

module _ (r : KronReducer) (os : List ℕ) where
  pub active-refused : (f : Refusal) → Err f ≡ outcome (active_refusal r (length os)) → (Err f ≡ (after_active r os).answer) × (os ≡ (after_active r os).buses)
  unfolding after_active
  active-refused f e = (e, held-refused (tt {0}) (active_refusal r (length os)) _ os f e)

  pub active-done : active_refusal r (length os) ≡ 0 → length r.active_buses ≡ limit → (zs : List ℕ) → zs ≡ take (length os) (padded (active_numbers r))
      → (Ok tt ≡ (after_active r os).answer) × (zs ≡ (after_active r os).buses)
  unfolding after_active answered
  active-done e full zs filled = rw e (refl, filled ∙ places)
    where
      h : Accepted r (length os)
      h = active-accepted r (length os) e

      count : length (active_numbers r) ≡ r.n_buses
      count = count-numbers r full h.good

      few : r.n_buses ≤ r.made
      few = let s = sound-has r h.good in rw (← count-active r full h.good) (rising-length r.made (active_of r) s.rises s.below)

      places : take (length os) (padded (active_numbers r)) ≡ active_numbers r ++ replicate (r.made - r.n_buses) 0
      places =
          let both : length os ≡ length (active_numbers r) + (r.made - r.n_buses) = omega (arith, h.long, few, count) in
          ap (λ (m : ℕ). take m (padded (active_numbers r))) both
          ∙ take-append-add (active_numbers r) (replicate (limit - length (active_numbers r)) 0) (r.made - r.n_buses)
          ∙ ap (λ (l : List ℕ). active_numbers r ++ l) (take-zeros (r.made - r.n_buses) (limit - length (active_numbers r)) (omega (arith, h.room, count)))
