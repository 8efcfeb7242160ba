-- The bridge: what a list of calls leaves is, as data, the record and layout of the account's state. So row p is the p-th kept bus, and the slice's entries are the formula's.
use Rattle.prelude.proofs.Prelude.{◌≡◌, refl, sym, ap, ◌∙◌, subst, Bool, true, false, not, cond, List, [], ◌∷◌, ℕ, ◌*◌, ◌≤◌, ◌<◌, T, eqb, length, Float, leb, eqb→eq, leb→le, lit≤, is_true}
use lib.Dec.{nleb→lt}
use Rattle.refusals.specs.Refusals.{limit, too_many, outcome}
use Rattle.kron_reduction.specs.declared.KronReducer.{KronReducer}
use Rattle.lists.specs.Buses.{place, repeats, rows_in}
use Rattle.kron_reduction.specs.Kron.{State, start, removal_refusal, accepts, eliminate, carried_out, stopped_by}
use Rattle.kron_reduction.specs.Reducer.{ReducerInput, AcceptedMaking, making_refusal, active_of, made as record_made, input_refusal, ReducerState, reducer_state_of, stored, leaves, removed_rows, removals_refusal, after_bus, after_buses}
use Rattle.kron_reduction.proofs.States.{Accepted, FiniteIn, finite-eliminate, taken-accepted, append-accepted, eliminate-append, eliminate-active, Regular, regular-start, regular-eliminate}
use Rattle.kron_reduction.proofs.Making.{Makes, makes-has}
use Rattle.kron_reduction.proofs.FiniteAnswers.{finite-start}
use Rattle.kron_reduction.proofs.Reducer.{active-record_of, entry-row_major, row_major-all, input-stored, removed-stored, refusal-stored, leaves-stored, input-long, removable-long}
use Rattle.claims.specs.Accounts.{Call, bus, buses, after_call, left_from, left, entry_in, Account, fresh, state_after, removes, step, account_from, account, kept, row_at}

-- ---- a making that is accepted

pub made-has : (M : ReducerInput) → AcceptedMaking M → Makes M.size M.given M.numbers
made-has M h = makes-has M.size M.given M.numbers (eqb→eq (making_refusal M) 0 h)

pub made-length : (M : ReducerInput) → AcceptedMaking M → length M.given ≡ 2 * (M.size * M.size)
made-length M h = (made-has M h).slice

-- ---- the account

-- size, old entries and numbers are those at making
pub account-kept : (a : Account) (calls : List Call)
    → ((account_from a calls).size ≡ a.size) × ((account_from a calls).old ≡ a.old) × ((account_from a calls).numbers ≡ a.numbers)
unfolding account_from step
account-kept a [] = (refl, refl, refl)
account-kept a (c ∷ cs) = account-kept (step a c) cs

pub account-numbers : (a : Account) (calls : List Call) → (account_from a calls).numbers ≡ a.numbers
account-numbers a calls = (account-kept a calls).2

state-step : (a : Account) (c : Call) → state_after (step a c) ≡ eliminate (state_after a) (removes a c)
unfolding state_after step
state-step a c = eliminate-append (start a.size a.old) a.removed (removes a c)

pub regular-state : (a : Account) → Regular a.size (state_after a)
unfolding state_after
regular-state a = regular-eliminate a.size (start a.size a.old) a.removed (regular-start a.size a.old)

pub kept-state : (a : Account) → (state_after a).active ≡ kept a
unfolding state_after
kept-state a = eliminate-active (start a.size a.old) a.removed

-- ---- the buses removed by a call

removes-accepted : (a : Account) (c : Call) → Accepted (state_after a) (removes a c)
unfolding removes
removes-accepted a (bus k) = taken-accepted (state_after a) (rows_in a.numbers (k ∷ []))
removes-accepted a (buses ks) = elim (leb (length ks) limit) as (λ b. Accepted (state_after a) (cond b (carried_out (state_after a) (rows_in a.numbers ks)) []))
    [ true ↦ taken-accepted (state_after a) (rows_in a.numbers ks) | false ↦ tt ]

-- ---- finite entries

fresh-finite : (M : ReducerInput) → AcceptedMaking M → FiniteIn (state_after (fresh M))
unfolding fresh state_after eliminate
fresh-finite M made = finite-start M.size M.given (made-length M made) (made-has M made).numbers

step-finite : (a : Account) (c : Call) → FiniteIn (state_after a) → FiniteIn (state_after (step a c))
step-finite a c fine = subst FiniteIn (sym (state-step a c)) (finite-eliminate (state_after a) (removes a c) fine (removes-accepted a c))

account-finite : (a : Account) (calls : List Call) → FiniteIn (state_after a) → FiniteIn (state_after (account_from a calls))
unfolding account_from
account-finite a [] fine = fine
account-finite a (c ∷ cs) fine = account-finite (step a c) cs (step-finite a c fine)

-- ---- one call

-- a list of l buses is within the limit, or too long
by_length : (l : ℕ) (P : Bool → Type 0) → (l ≤ limit → P true) → (limit < l → P false) → P (leb l limit)
by_length l P f g = (elim (leb l limit) as (λ b. (T b → l ≤ limit) → (T (not b) → limit < l) → P b)
    [ true ↦ λ u v. f (u tt) | false ↦ λ u v. g (v tt) ]) (leb→le l limit) (nleb→lt l limit)

-- the record and layout of an account's state
abbrev pub stored_of : Account → ReducerState
stored_of a = stored a.size a.numbers (state_after a)

module _ (a : Account) (small : a.size ≤ limit) (many : length a.numbers ≡ a.size) (distinct : repeats a.numbers ≡ false) (fine : FiniteIn (state_after a)) where
  abbrev here : ReducerState
  here = stored_of a

  within : (ks : List ℕ) → length ks ≤ limit
      → leaves here.rec here.slice (removed_rows here.rec here.slice ks) ≡ stored a.size a.numbers (eliminate (state_after a) (carried_out (state_after a) (rows_in a.numbers ks)))
  within ks l =
      ap (leaves here.rec here.slice) (removed-stored a.size a.numbers (state_after a) small many distinct (regular-state a) fine ks l)
      ∙ leaves-stored a.size a.numbers (state_after a) small many distinct (regular-state a) (carried_out (state_after a) (rows_in a.numbers ks)) (taken-accepted (state_after a) (rows_in a.numbers ks))

  one-call : (c : Call) → after_call here c ≡ stored a.size a.numbers (eliminate (state_after a) (removes a c))
  unfolding after_call after_bus after_buses removes
  one-call (bus k) = within (k ∷ []) (lit≤ tt)
  one-call (buses ks) = by_length (length ks) (λ (b : Bool). after_call here (buses ks)
      ≡ stored a.size a.numbers (eliminate (state_after a) (cond b (carried_out (state_after a) (rows_in a.numbers ks)) [])))
      (within ks) λ h. ap (leaves here.rec here.slice) (removable-long here.rec here.slice ks h) ∙ unfold leaves eliminate in refl

-- ---- all calls

left-from : (a : Account) (calls : List Call) → a.size ≤ limit → length a.numbers ≡ a.size → repeats a.numbers ≡ false → FiniteIn (state_after a)
    → left_from (stored_of a) calls ≡ stored a.size a.numbers (state_after (account_from a calls))
unfolding left_from account_from step
left-from a [] small many distinct fine = refl
left-from a (c ∷ cs) small many distinct fine =
    ap (λ (h : ReducerState). left_from h cs) (one-call a small many distinct fine c ∙ ap (stored a.size a.numbers) (sym (state-step a c)))
    ∙ left-from (step a c) cs small many distinct (step-finite a c fine)

fresh-is : (M : ReducerInput) → AcceptedMaking M → reducer_state_of (record_made M) M.given ≡ stored_of (fresh M)
unfolding record_made stored state_after fresh eliminate
fresh-is M made = rw (is_true (eqb (making_refusal M) 0) made, row_major-all M.size M.given (made-length M made))

pub left_is : (M : ReducerInput) (calls : List Call) → AcceptedMaking M → left M calls ≡ stored M.size M.numbers (state_after (account M calls))
unfolding left
left_is M calls made =
    let h = made-has M made in
    ap (λ (x : ReducerState). left_from x calls) (fresh-is M made) ∙ unfold fresh in left-from (fresh M) calls h.size h.many h.distinct (fresh-finite M made)

-- ---- the buses removed

-- each bus removed was accepted when its turn came
abbrev AllAccepted : Account → Type 0
AllAccepted a = Accepted (start a.size a.old) a.removed

accepted-from : (a : Account) (calls : List Call) → AllAccepted a → AllAccepted (account_from a calls)
unfolding account_from step state_after
accepted-from a [] h = h
accepted-from a (c ∷ cs) h = accepted-from (step a c) cs (append-accepted (start a.size a.old) a.removed (removes a c) h (removes-accepted a c))

pub all-accepted : (M : ReducerInput) (calls : List Call) → AllAccepted (account M calls)
all-accepted M calls = accepted-from (fresh M) calls (unfold fresh in tt)

-- ---- rows and entries

-- the active list is the other buses in their old order, and the present size is their number
pub kept-is : (M : ReducerInput) (calls : List Call) → AcceptedMaking M → active_of (left M calls).rec ≡ kept (account M calls)
unfolding stored
kept-is M calls made = rw (left_is M calls made) (active-record_of M.size M.numbers (state_after (account M calls)).active ∙ kept-state (account M calls))

pub size_is : (M : ReducerInput) (calls : List Call) → AcceptedMaking M → (left M calls).rec.n_buses ≡ length (kept (account M calls))
unfolding stored
size_is M calls made = rw (left_is M calls made) (ap length (kept-state (account M calls)))

-- the slice's entry in row p and column q is the formula's between the kept buses of that row and column
pub entry-is : (M : ReducerInput) (calls : List Call) → AcceptedMaking M → (p q : ℕ) → p < length (kept (account M calls)) → q < length (kept (account M calls))
    → entry_in (left M calls) p q ≡ (state_after (account M calls)).entries (row_at (account M calls) p) (row_at (account M calls) q)
unfolding stored
entry-is M calls made p q x y =
    let s = state_after (account M calls) in
    let e = kept-state (account M calls) in
    rw (left_is M calls made, ← e) (entry-row_major (2 * (M.size * M.size)) s.active s.entries p q (rw e x) (rw e y))

-- ---- the refusals and removals of a call after a list of calls

stop-one : (s : State) (k : ℕ) → stopped_by s (k ∷ []) ≡ removal_refusal s k
unfolding stopped_by
stop-one s k = (elim (accepts s k) as (λ b. (T b → removal_refusal s k ≡ 0) → cond b 0 (removal_refusal s k) ≡ removal_refusal s k)
    [ true ↦ λ f. sym (f tt) | false ↦ λ f. refl ]) (eqb→eq (removal_refusal s k) 0)

module _ (M : ReducerInput) (calls : List Call) (made : AcceptedMaking M) where
  abbrev rec : KronReducer
  rec = (left M calls).rec

  abbrev slice : List Float
  slice = (left M calls).slice

  abbrev present : State
  present = state_after (account M calls)

  -- the rows of the buses numbered ks
  abbrev rows : List ℕ → List ℕ
  rows ks = rows_in M.numbers ks

  same_numbers : (account M calls).numbers ≡ M.numbers
  same_numbers = account-numbers (fresh M) calls ∙ unfold fresh in refl

  -- what holds of the account's record and layout holds of what is left
  by_layout : (P : ReducerState → Type 0) → P (stored M.size M.numbers present) → P (left M calls)
  by_layout P = subst P (sym (left_is M calls made))

  regular-present : Regular M.size present
  regular-present = subst (λ (n : ℕ). Regular n present) ((account-kept (fresh M) calls).0 ∙ unfold fresh in refl) (regular-state (account M calls))

  finite-present : FiniteIn present
  finite-present = account-finite (fresh M) calls (fresh-finite M made)

  -- the input refusals of record and slice, 1, 2, 9 and 19, never come: a list within the limit is not refused from the input
  pub no-input-refusal : (l : ℕ) → l ≤ limit → input_refusal rec slice l ≡ 0
  no-input-refusal l h = let m = made-has M made in
      by_layout (λ (g : ReducerState). input_refusal g.rec g.slice l ≡ 0)
      (input-stored M.size M.numbers present m.size m.many m.distinct regular-present finite-present l h)

  -- so a call answers what the account's state tells
  pub refusal_is : (ks : List ℕ) → length ks ≤ limit → removals_refusal rec slice ks ≡ stopped_by present (rows ks)
  refusal_is ks h = let m = made-has M made in
      by_layout (λ (g : ReducerState). removals_refusal g.rec g.slice ks ≡ stopped_by present (rows ks))
      (refusal-stored M.size M.numbers present m.size m.many m.distinct regular-present finite-present ks h)

  -- and it removes the buses that the account says
  pub removed-is : (ks : List ℕ) → removed_rows rec slice ks ≡ removes (account M calls) (buses ks)
  unfolding removes
  removed-is ks = by_length (length ks) (λ (b : Bool). removed_rows rec slice ks ≡ cond b (carried_out present (rows ks)) [])
      (λ h. let m = made-has M made in by_layout (λ (g : ReducerState). removed_rows g.rec g.slice ks ≡ carried_out present (rows ks))
      (removed-stored M.size M.numbers present m.size m.many m.distinct regular-present finite-present ks h))
      (removable-long rec slice ks)
      ∙ ap (λ (ns : List ℕ). cond (leb (length ks) limit) (carried_out present (rows_in ns ks)) []) (sym same_numbers)

  -- the answers of the two calls, by the account
  pub answer-bus : (k : ℕ) → (after_bus rec slice k).out.answer ≡ outcome (removal_refusal present (place k M.numbers))
  unfolding after_bus rows_in
  answer-bus k = ap outcome (refusal_is (k ∷ []) (lit≤ tt) ∙ stop-one present (place k M.numbers))

  pub answer-buses : (ks : List ℕ) → (after_buses rec slice ks).out.removals.answer ≡ outcome (cond (leb (length ks) limit) (stopped_by present (rows ks)) too_many)
  unfolding after_buses removals_refusal
  answer-buses ks = ap outcome (by_length (length ks) (λ (b : Bool). removals_refusal rec slice ks ≡ cond b (stopped_by present (rows ks)) too_many)
      (refusal_is ks) λ h. rw (input-long rec slice (length ks) h))

  pub count-is : (ks : List ℕ) → (after_buses rec slice ks).out.removals.removed ≡ length (removes (account M calls) (buses ks))
  unfolding after_buses
  count-is ks = ap length (removed-is ks)

  -- a call that removes nothing leaves all as it was, and what stands behind the rows too
  pub nothing-removed : (c : Call) → removes (account M calls) c ≡ [] → after_call (left M calls) c ≡ left M calls
  unfolding after_call after_bus after_buses leaves removes
  nothing-removed (bus k) e = ap (leaves rec slice) (removed-is (k ∷ []) ∙ e)
  nothing-removed (buses ks) e = ap (leaves rec slice) (removed-is ks ∙ e)
