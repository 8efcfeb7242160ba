-- The buses removed in a run that is kept are those of its drop lines, by row: no call is refused.
use Rattle.std.proofs.Common.{Option, Some, None, Result, Ok, Err}
use Rattle.prelude.proofs.Prelude.{◌≡◌, refl, sym, ap, ◌∙◌, subst, cond, List, [], ◌∷◌, ◌++◌, ℕ, zero, suc, ◌+◌, eqb, map, append_assoc, append-nil}
use Rattle.refusals.specs.declared.Refusal.{Refusal}
use Rattle.refusals.specs.Refusals.{outcome, answered}
use Rattle.lists.specs.Buses.{place, rows_in}
use Rattle.kron_reduction.specs.Kron.{State, removal_refusal, carried_out}
use Rattle.kron_reduction.specs.Reducer.{ReducerInput, AcceptedMaking, made as record_made, after_bus, ReducerState, reducer_state_of}
use Rattle.claims.specs.Accounts.{Call, bus, after_call, left_from, left, Account, fresh, state_after, removes, step, account_from, account}
use Rattle.claims.proofs.Bridge.{account-numbers, answer-bus}
use Rattle.reduce_text.specs.declared.read.Trouble.TheVariants.{RefusedDrop, BadLine}
use Rattle.text_numbers.specs.Bytes.{Bytes}
use Rattle.reduce_text.specs.Lines.{drop_of}
use Rattle.reduce_text.specs.Reading.{on_number, on_outcome, after_drop, drops, finish}
use Rattle.program_claims.specs.Inputs.{bus_in, dropped}
use Rattle.program_claims.proofs.Calls.{at-end, end_of}

-- ---- one call more

left-more : (h : ReducerState) (cs : List Call) (c : Call) → left_from h (cs ++ (c ∷ [])) ≡ after_call (left_from h cs) c
unfolding left_from
left-more h [] c = refl
left-more h (d ∷ cs) c = left-more (after_call h d) cs c

account-more : (a : Account) (cs : List Call) (c : Call) → account_from a (cs ++ (c ∷ [])) ≡ step (account_from a cs) c
unfolding account_from
account-more a [] c = refl
account-more a (d ∷ cs) c = account-more (step a d) cs c

-- a bus that is not refused is removed
abbrev IsDone : Result (Unit {0}) Refusal → Type 0
IsDone (Ok u) = Unit {0}
IsDone (Err f) = ⊥

done-taken : (s : State) (k : ℕ) → outcome (removal_refusal s k) ≡ Ok tt → carried_out s (k ∷ []) ≡ k ∷ []
unfolding carried_out
done-taken s k e = go (removal_refusal s k) (subst IsDone (sym e) tt)
  where
    go : (f : ℕ) → IsDone (outcome f) → cond (eqb f 0) (k ∷ []) [] ≡ k ∷ []
    go zero d = refl
    go (suc f) d = absurd (unfold answered in d)

-- ---- all drops

module _ (M : ReducerInput) (made : AcceptedMaking M) where
  abbrev Removes : List Call → List ℕ → Type 0
  Removes cs ks = (account M (cs ++ map bus ks)).removed ≡ (account M cs).removed ++ rows_in M.numbers ks

  module _ (p : ℕ) (cs : List Call) (l : Bytes) (ls : List Bytes)
      (rest : (k : ℕ) → let x = left M (cs ++ (bus k ∷ [])) in end_of (drops finish (p + 1) x.rec x.slice ls) ≡ Ok tt → Removes (cs ++ (bus k ∷ [])) (dropped ls)) where
    abbrev x : ReducerState
    x = left M cs

    one : (k : ℕ) → outcome (removal_refusal (state_after (account M cs)) (place k M.numbers)) ≡ Ok tt → (account M (cs ++ (bus k ∷ []))).removed ≡ (account M cs).removed ++ (place k M.numbers ∷ [])
    unfolding step removes rows_in fresh
    one k e =
        ap (λ (a : Account). a.removed) (account-more (fresh M) cs (bus k))
        ∙ ap (λ (ns : List ℕ). (account M cs).removed ++ carried_out (state_after (account M cs)) (place k ns ∷ [])) (account-numbers (fresh M) cs)
        ∙ ap (λ (ks : List ℕ). (account M cs).removed ++ ks) (done-taken (state_after (account M cs)) (place k M.numbers) e)

    after : (k : ℕ) (o : Result (Unit {0}) Refusal) → (after_bus x.rec x.slice k).out.answer ≡ o
        → end_of (on_outcome o k (after_bus x.rec x.slice k).out.rec (after_bus x.rec x.slice k).slice (λ r ys. drops finish (p + 1) r ys ls)) ≡ Ok tt → Removes cs (k ∷ dropped ls)
    unfolding left after_call rows_in
    after k (Ok u) e h =
        ap (λ (ds : List Call). (account M ds).removed) (sym (append_assoc cs (bus k ∷ []) (map bus (dropped ls))))
        ∙ rest k (subst (λ (y : ReducerState). end_of (drops finish (p + 1) y.rec y.slice ls) ≡ Ok tt) (sym (left-more (reducer_state_of (record_made M) M.given) cs (bus k))) h)
        ∙ ap (λ (ks : List ℕ). ks ++ rows_in M.numbers (dropped ls)) (one k (sym (answer-bus M cs made k) ∙ e))
        ∙ append_assoc (account M cs).removed (place k M.numbers ∷ []) (rows_in M.numbers (dropped ls))
    after k (Err f) e h = absurd (at-end (Err (RefusedDrop f k)) h)

    line : (w : Option ℕ) → end_of (on_number w (λ k. after_drop k (after_bus x.rec x.slice k) (λ r ys. drops finish (p + 1) r ys ls)) (finish p x.rec x.slice (l ∷ ls))) ≡ Ok tt
        → Removes cs (bus_in w ++ dropped ls)
    unfolding finish
    line (Some k) h = after k (after_bus x.rec x.slice k).out.answer refl h
    line None h = absurd (at-end (Err (BadLine p)) h)

  pub drops-removed : (p : ℕ) (cs : List Call) (ls : List Bytes) → end_of (drops finish p (left M cs).rec (left M cs).slice ls) ≡ Ok tt → Removes cs (dropped ls)
  unfolding drops finish dropped rows_in
  drops-removed p cs [] h = simp append-nil
  drops-removed p cs (l ∷ ls) h = line p cs l ls (λ k. drops-removed (p + 1) (cs ++ (bus k ∷ [])) ls) (drop_of l) h
