-- 20 refuses nothing finite: where every number of the removals that 11 and 12 alone let through is finite, those are the removals.
use Rattle.prelude.proofs.Prelude.{◌≡◌, refl, sym, ap, ◌∙◌, subst, Bool, true, false, not, ◌&&◌, cond, List, [], ◌∷◌, ◌++◌, ℕ, T, eqb, length, leb, Float, append_assoc}
use Rattle.binary64.specs.Values.{all_finite}
use Rattle.complex.specs.{too_small}
use Rattle.complex.proofs.Finite.{all_left, all_right}
use Rattle.lists.specs.Buses.{mem, rows_in}
use Rattle.refusals.specs.Refusals.{limit}
use Rattle.kron_reduction.specs.Kron.{State, start, remove, of_removal, of_removals, accepts, eliminate, carried_out}
use Rattle.kron_reduction.proofs.States.{refusal_of, refusal_is}
use Rattle.claims.specs.Accounts.{Call, bus, buses, Account, state_after, removes, step, account_from}
use Rattle.claims.specs.Finite.{of_account}
use Rattle.claims.specs.Untested.{admits, admitted, untested_removes, untested_step, untested_from}

-- ---- one bus

accepts-is : (s : State) (k : ℕ) (b : Bool) → admits s k ≡ b → (T b → T (all_finite (of_removal s k))) → accepts s k ≡ b
accepts-is s k b e fine = ap (λ (f : ℕ). eqb f 0) (refusal_is s k) ∙ go (mem k s.active) (too_small (s.entries k k)) (all_finite (of_removal s k)) b e fine
  where
    go : (a c d b : Bool) → (a && not c) ≡ b → (T b → T d) → eqb (refusal_of a c d) 0 ≡ b
    go true true d b e f = e
    go true false true b e f = e
    go true false false b e f = absurd (f (subst T e tt))
    go false c d b e f = e

-- ---- a list of buses

admitted-is : (s : State) (ks : List ℕ) → T (all_finite (of_removals s (admitted s ks))) → carried_out s ks ≡ admitted s ks
unfolding admitted carried_out of_removals
admitted-is s [] h = refl
admitted-is s (k ∷ ks) h = go (admits s k) refl h (λ (g : T (all_finite (of_removals (remove s k) (admitted (remove s k) ks)))). admitted-is (remove s k) ks g)
  where
    go : (b : Bool) → admits s k ≡ b → T (all_finite (of_removals s (cond b (k ∷ admitted (remove s k) ks) [])))
        → (T (all_finite (of_removals (remove s k) (admitted (remove s k) ks))) → carried_out (remove s k) ks ≡ admitted (remove s k) ks)
        → cond (accepts s k) (k ∷ carried_out (remove s k) ks) [] ≡ cond b (k ∷ admitted (remove s k) ks) []
    go true e h ih =
        let rest = of_removals (remove s k) (admitted (remove s k) ks) in
        rw (accepts-is s k true e (λ _. all_left (of_removal s k) rest h)) (ap (λ (l : List ℕ). k ∷ l) (ih (all_right (of_removal s k) rest h)))
    go false e h ih = rw (accepts-is s k false e (λ (f : T false). absurd f)) refl

-- ---- a call

removals-append : (s : State) (ks ls : List ℕ) → of_removals s (ks ++ ls) ≡ of_removals s ks ++ of_removals (eliminate s ks) ls
unfolding of_removals eliminate
removals-append s [] ls = refl
removals-append s (k ∷ ks) ls =
    ap (λ (l : List Float). of_removal s k ++ l) (removals-append (remove s k) ks ls)
    ∙ sym (append_assoc (of_removal s k) (of_removals (remove s k) ks) (of_removals (eliminate (remove s k) ks) ls))

-- the numbers of an account, and those of a call more
step-numbers : (a : Account) (c : Call) → of_account (untested_step a c) ≡ of_account a ++ of_removals (state_after a) (untested_removes a c)
unfolding of_account untested_step state_after
step-numbers a c = removals-append (start a.size a.old) a.removed (untested_removes a c)

module _ (a : Account) (c : Call) (h : T (all_finite (of_account (untested_step a c)))) where
  both : T (all_finite (of_account a ++ of_removals (state_after a) (untested_removes a c)))
  both = subst (λ (l : List Float). T (all_finite l)) (step-numbers a c) h

  before : T (all_finite (of_account a))
  before = all_left (of_account a) (of_removals (state_after a) (untested_removes a c)) both

  of-call : T (all_finite (of_removals (state_after a) (untested_removes a c)))
  of-call = all_right (of_account a) (of_removals (state_after a) (untested_removes a c)) both

removes-is : (a : Account) (c : Call) → T (all_finite (of_removals (state_after a) (untested_removes a c))) → removes a c ≡ untested_removes a c
unfolding removes untested_removes
removes-is a (bus k) h = admitted-is (state_after a) (rows_in a.numbers (k ∷ [])) h
removes-is a (buses ks) h = go (leb (length ks) limit) h
  where
    go : (b : Bool) → T (all_finite (of_removals (state_after a) (cond b (admitted (state_after a) (rows_in a.numbers ks)) [])))
        → cond b (carried_out (state_after a) (rows_in a.numbers ks)) [] ≡ cond b (admitted (state_after a) (rows_in a.numbers ks)) []
    go true h = admitted-is (state_after a) (rows_in a.numbers ks) h
    go false h = refl

step_is : (a : Account) (c : Call) → T (all_finite (of_account (untested_step a c))) → step a c ≡ untested_step a c
unfolding step untested_step
step_is a c h =
    ap (λ (l : List ℕ). record { size = a.size; numbers = a.numbers; old = a.old; removed = a.removed ++ l }) (removes-is a c (of-call a c (unfold untested_step in h)))

-- ---- all calls

first-finite : (a : Account) (calls : List Call) → T (all_finite (of_account (untested_from a calls))) → T (all_finite (of_account a))
unfolding untested_from
first-finite a [] h = h
first-finite a (c ∷ cs) h = before a c (first-finite (untested_step a c) cs h)

pub account-is : (a : Account) (calls : List Call) → T (all_finite (of_account (untested_from a calls))) → account_from a calls ≡ untested_from a calls
unfolding account_from untested_from
account-is a [] h = refl
account-is a (c ∷ cs) h =
    ap (λ (b : Account). account_from b cs) (step_is a c (first-finite (untested_step a c) cs h)) ∙ account-is (untested_step a c) cs h
