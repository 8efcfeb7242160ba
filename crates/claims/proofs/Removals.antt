-- Demand 3 of lists of calls (`removals`): both claims, and their positive forms.
use Rattle.prelude.proofs.Prelude.{◌≡◌, sym, subst, ◌⊎◌, inl, inr, List, ℕ, ◌+◌, ◌*◌, ◌<◌, arith, T, length, get_or, Float, ⊎_elim, is_true}
use mathlib.Core.Path.{subst₂}
use Rattle.complex.specs.{Complex, entry as entry_of, Matrix, entry_at, ◌≈◌}
use Rattle.lists.specs.Buses.{up_to, ◌is_one_of◌, others}
use Rattle.binary64.specs.Values.{all_finite, F64s}
use Rattle.complex.proofs.Matrices.{entry-within}
use Rattle.complex.proofs.Finite.{all-at}
use Rattle.complex.proofs.SameValue.{Number}
use Rattle.kron_reduction.specs.Kron.{start}
use Rattle.kron_reduction.specs.Reducer.{ReducerInput, making_shape_refusal, making_refusal, AcceptedMaking}
use Rattle.refusals.specs.Refusals.{then_given}
use Rattle.lists.proofs.Buses.{get_or-in}
use Rattle.kron_reduction.proofs.States.{eliminate-active}
use Rattle.claims.specs.Accounts.{Call, left, entry_in, Account, fresh, state_after, account, kept, row_at}
use Rattle.claims.specs.Chains.{Chain, Into, Out, SameOutside}
use Rattle.claims.specs.Finite.{of_account, Finite}
use Rattle.claims.specs.Removals.{Unchanged, Independent, RemovalClaims}
use Rattle.claims.specs.Untested.{untested_account}
use Rattle.claims.proofs.Locality.{Carried, after-all, old-or-chain, same-or-chains}
use Rattle.claims.proofs.Computed.{computed-finite}
use Rattle.claims.proofs.Untested.{account-is}
use Rattle.claims.proofs.Bridge.{made-has, made-length, account-kept, all-accepted, entry-is}

-- ---- what finite numbers give

number_at : (n : ℕ) (ys : List Float) → length ys ≡ 2 * (n * n) → F64s ys → T (all_finite ys) → (i j : ℕ) → i < n → j < n → Number (entry_at n ys i j)
unfolding entry_at entry_of
number_at n ys e f h i j x y =
    let l = entry-within n n i j x y in
    ((all-at ys (2 * (i * n + j)) (omega arith) h, all-at ys (2 * (i * n + j) + 1) (omega arith) h), f (2 * (i * n + j)), f (2 * (i * n + j) + 1))

carried : (M : ReducerInput) (calls : List Call) → F64s M.given → Finite M calls → Carried (account M calls).size (account M calls).old (account M calls).removed
unfolding of_account
carried M calls f h = record {
  given = subst₂ (λ (n : ℕ) (Y : Matrix). (i j : ℕ) → i < n → j < n → Number (Y i j)) (sym (account-kept (fresh M) calls).0) (sym (account-kept (fresh M) calls).1)
      (unfold fresh in number_at M.size M.given (made-length M h.made) f h.given);
  accepted = all-accepted M calls;
  computed = h.computed;
}

-- the kept bus of row p is active at the end
active-at : (n : ℕ) (Y : Matrix) (R : List ℕ) (p : ℕ) → p < length (others R (up_to n)) → get_or (others R (up_to n)) p 0 is_one_of (after-all n Y R).active
active-at n Y R p x = subst (λ (l : List ℕ). get_or (others R (up_to n)) p 0 is_one_of l) (sym (eliminate-active (start n Y) R)) (get_or-in (others R (up_to n)) p x)

-- ---- one list of calls

module _ (M : ReducerInput) (calls : List Call) (f : F64s M.given) (h : Finite M calls) where
  -- an entry has its old value, or a chain joins row bus to column bus
  pub unchanged-or-chain : (p q : ℕ) → p < length (kept (account M calls)) → q < length (kept (account M calls))
      → (entry_in (left M calls) p q ≈ (account M calls).old (row_at (account M calls) p) (row_at (account M calls) q))
      ⊎ Chain (account M calls).old (account M calls).removed (row_at (account M calls) p) (row_at (account M calls) q)
  unchanged-or-chain p q x y =
      let a = account M calls in
      let i = row_at a p in
      let j = row_at a q in
      subst (λ (c : Complex). (c ≈ a.old i j) ⊎ Chain a.old a.removed i j) (sym (entry-is M calls h.made p q x y))
      (unfold state_after in old-or-chain a.size a.old a.removed (carried M calls f h) i j (active-at a.size a.old a.removed p x) (active-at a.size a.old a.removed q y))

  pub unchanged : Unchanged (account M calls) (left M calls)
  unchanged p q x y no-chain = elim (unchanged-or-chain p q x y) [ inl e ↦ e | inr c ↦ absurd (no-chain c) ]

-- ---- two lists of calls

module _ (M M' : ReducerInput) (calls calls' : List Call) (f : F64s M.given) (f' : F64s M'.given) (h : Finite M calls) (h' : Finite M' calls') where
  abbrev a : Account
  a = account M calls

  abbrev a' : Account
  a' = account M' calls'

  -- an entry has one value in both, or in one its row bus has a chain into the group, and in one its column bus has one out of it
  pub same-or-joined : (G : List ℕ) → a'.size ≡ a.size → a'.removed ≡ a.removed → ((k : ℕ) → k is_one_of G → k is_one_of a.removed) → SameOutside a.size a.old a'.old G
      → (p q : ℕ) → p < length (kept a) → q < length (kept a)
      → (entry_in (left M calls) p q ≈ entry_in (left M' calls') p q)
      ⊎ ((Into a.old a.removed G (row_at a p) ⊎ Into a'.old a'.removed G (row_at a p)) × (Out a.old a.removed G (row_at a q) ⊎ Out a'.old a'.removed G (row_at a q)))
  unfolding state_after
  same-or-joined G size removed group outside p q x y =
      let i = row_at a p in
      let j = row_at a q in
      let on : row_at a p is_one_of (after-all a.size a.old a.removed).active = active-at a.size a.old a.removed p x in
      let to : row_at a q is_one_of (after-all a.size a.old a.removed).active = active-at a.size a.old a.removed q y in
      let run : Carried a.size a'.old a.removed =
      subst₂ (λ (n : ℕ) (R : List ℕ). Carried n a'.old R) size removed (carried M' calls' f' h') in
      let there : entry_in (left M' calls') p q ≡ (after-all a.size a'.old a.removed).entries i j =
      subst₂ (λ (n : ℕ) (R : List ℕ). let k = others R (up_to n) in p < length k → q < length k
      → entry_in (left M' calls') p q ≡ (after-all n a'.old R).entries (get_or k p 0) (get_or k q 0))
      size removed (entry-is M' calls' h'.made p q) x y in
      rw (removed, entry-is M calls h.made p q x y, there)
      (same-or-chains a.size a.old a'.old a.removed G (carried M calls f h) run group outside i j on to)

-- one of two, where no chain leads into the group, or none out of it
pub cut : {A : Type 0} {I I' O O' : Type 0} → A ⊎ ((I ⊎ I') × (O ⊎ O')) → ((I → ⊥) × (I' → ⊥)) ⊎ ((O → ⊥) × (O' → ⊥)) → A
cut (inl e) apart = e
cut (inr (u, v)) (inl (n, n')) = absurd (⊎_elim n n' u)
cut (inr (u, v)) (inr (n, n')) = absurd (⊎_elim n n' v)

-- `search alike` takes the part of a premise that is wanted: one that says more has it too
pub independent : (M M' : ReducerInput) (calls calls' : List Call) → F64s M.given → F64s M'.given → Finite M calls → Finite M' calls' → Independent (account M calls) (left M calls) (account M' calls') (left M' calls')
independent M M' calls calls' f f' h h' G alike p q x y apart =
    cut (same-or-joined M M' calls calls' f f' h h' G alike.size alike.removed (search alike) (search alike) p q x y) apart

-- ---- what acceptance gives

pub finite : (M : ReducerInput) (calls : List Call) → AcceptedMaking M → Finite M calls
unfolding of_account
finite M calls made = record {
  made = made;
  given = (made-has M made).numbers;
  computed = computed-finite (start (account M calls).size (account M calls).old) (account M calls).removed (all-accepted M calls);
}

no-more-refused : (M : ReducerInput) (calls : List Call) → making_shape_refusal M ≡ 0 → T (all_finite M.given) → T (all_finite (of_account (untested_account M calls)))
    → AcceptedMaking M × (account M calls ≡ untested_account M calls)
unfolding making_refusal then_given
no-more-refused M calls shape given computed =
    (rw (shape, is_true (all_finite M.given) given) tt, account-is (fresh M) calls computed)

-- ---- the claims

pub removals : RemovalClaims
removals = record {
  unchanged = λ M calls f made. unchanged M calls f (finite M calls (search made));
  independent = λ M M' calls calls' f f' made made'. independent M M' calls calls' f f' (finite M calls (search made)) (finite M' calls' (search made'));
  finite = finite;
  no-more-refused = no-more-refused;
}
