-- Laws about the removal of buses by Kron's formula: only the entries between active buses matter, and the active buses stay rising.
use Rattle.prelude.proofs.Prelude.{◌≡◌, refl, sym, ap, ◌∙◌, subst, ◌⊎◌, inl, inr, Bool, true, false, not, cond, List, [], ◌∷◌, ◌++◌, ℕ, T, eqb, Float, ap₂}
use Rattle.binary64.specs.Values.{all_finite}
use Rattle.complex.specs.{Complex, Matrix, row, rows, too_small, of_sqmag}
use Rattle.refusals.specs.Refusals.{not_active, small_entry, computed_not_finite, refuse}
use Rattle.lists.specs.Buses.{mem, ◌is_one_of◌, others, rising, all_below}
use Rattle.kron_reduction.specs.Kron.{kron, State, start, remove, of_rows, of_removal, removal_refusal, accepts, eliminate, carried_out, stopped_by}
use Rattle.lists.proofs.Buses.{in_head, in_tail, stays, others-nil, others-append, all-below-others, rising-others, rising-up_to, all-below-up_to}
use Rattle.complex.proofs.Finite.{none, all_more, all_join}
use Rattle.complex.proofs.Sticky.{Finite}
use Rattle.kron_reduction.proofs.Numbers as numbers

-- ---- a bus that is accepted

-- the refusal of a bus from three tests: it is active, its own entry is too small, every number is finite
abbrev pub refusal_of : Bool → Bool → Bool → ℕ
refusal_of active small fine = cond active (refuse small small_entry (refuse (not fine) computed_not_finite 0)) not_active

pub refusal_is : (s : State) (k : ℕ) → removal_refusal s k ≡ refusal_of (mem k s.active) (too_small (s.entries k k)) (all_finite (of_removal s k))
unfolding removal_refusal
refusal_is s k = refl

accepted-has : (s : State) (k : ℕ) → T (accepts s k) → (k is_one_of s.active) × T (not (too_small (s.entries k k))) × T (all_finite (of_removal s k))
accepted-has s k h = go (mem k s.active) (too_small (s.entries k k)) (all_finite (of_removal s k)) (rw (← refusal_is s k) h)
  where
    go : (b c d : Bool) → T (eqb (refusal_of b c d) 0) → T b × T (not c) × T d
    go true true d h = absurd h
    go true false true h = (tt, tt, tt)
    go true false false h = absurd h
    go false c d h = absurd h

pub accepted-active : (s : State) (k : ℕ) → T (accepts s k) → k is_one_of s.active
accepted-active s k h = (accepted-has s k h).0

pub accepted-big : (s : State) (k : ℕ) → T (accepts s k) → T (not (too_small (s.entries k k)))
accepted-big s k h = (accepted-has s k h).1

pub accepted-finite : (s : State) (k : ℕ) → T (accepts s k) → T (all_finite (of_removal s k))
accepted-finite s k h = (accepted-has s k h).2

-- a refusal told from the state is 11, 12 or 20
abbrev pub FromState : ℕ → Type 0
FromState f = (f ≡ 0) ⊎ ((f ≡ not_active) ⊎ ((f ≡ small_entry) ⊎ (f ≡ computed_not_finite)))

pub stop-cases : (s : State) (ks : List ℕ) → FromState (stopped_by s ks)
unfolding stopped_by
stop-cases s [] = inl refl
stop-cases s (k ∷ ks) =
    subst (λ (f : ℕ). FromState (cond (eqb f 0) (stopped_by (remove s k) ks) f)) (sym (refusal_is s k)) (go (mem k s.active) (too_small (s.entries k k)) (all_finite (of_removal s k)) (stop-cases (remove s k) ks))
  where
    go : (b c d : Bool) → FromState (stopped_by (remove s k) ks) → FromState (cond (eqb (refusal_of b c d) 0) (stopped_by (remove s k) ks) (refusal_of b c d))
    go true true d ih = inr (inr (inl refl))
    go true false true ih = ih
    go true false false ih = inr (inr (inr refl))
    go false c d ih = inr (inl refl)

-- each is accepted when its turn comes
abbrev pub Accepted : State → List ℕ → Type 0
Accepted s [] = Unit {0}
Accepted s (k ∷ ks) = T (accepts s k) × Accepted (remove s k) ks

pub taken-accepted : (s : State) (ks : List ℕ) → Accepted s (carried_out s ks)
unfolding carried_out
taken-accepted s [] = tt
taken-accepted s (k ∷ ks) = go (accepts s k) (λ (t : T (accepts s k)). t) (taken-accepted (remove s k) ks)
  where
    go : (b : Bool) → (T b → T (accepts s k)) → Accepted (remove s k) (carried_out (remove s k) ks) → Accepted s (cond b (k ∷ carried_out (remove s k) ks) [])
    go true f h = (f tt, h)
    go false f h = tt

pub append-accepted : (s : State) (ks ls : List ℕ) → Accepted s ks → Accepted (eliminate s ks) ls → Accepted s (ks ++ ls)
unfolding eliminate
append-accepted s [] ls h k = k
append-accepted s (x ∷ ks) ls h k = (h.0, append-accepted (remove s x) ks ls h.1 k)

pub eliminate-append : (s : State) (ks ls : List ℕ) → eliminate s (ks ++ ls) ≡ eliminate (eliminate s ks) ls
unfolding eliminate
eliminate-append s [] ls = refl
eliminate-append s (k ∷ ks) ls = eliminate-append (remove s k) ks ls

-- the active buses are the others, in the old order
pub eliminate-active : (s : State) (ks : List ℕ) → (eliminate s ks).active ≡ others ks s.active
unfolding eliminate
eliminate-active s [] = sym (others-nil s.active)
eliminate-active s (k ∷ ks) = eliminate-active (remove s k) ks ∙ others-append (k ∷ []) ks s.active

-- ---- finite entries between active buses

abbrev pub FiniteIn : State → Type 0
FiniteIn s = (i j : ℕ) → i is_one_of s.active → j is_one_of s.active → Finite (s.entries i j)

-- a removal that is accepted leaves them, whatever was there
pub finite-remove : (s : State) (k : ℕ) → T (accepts s k) → FiniteIn (remove s k)
finite-remove s k a = numbers.removal-leaves s k (accepted-finite s k a)

pub finite-eliminate : (s : State) (ks : List ℕ) → FiniteIn s → Accepted s ks → FiniteIn (eliminate s ks)
unfolding eliminate
finite-eliminate s [] h ok = h
finite-eliminate s (k ∷ ks) h ok = finite-eliminate (remove s k) ks (finite-remove s k ok.0) ok.1

row-finite : (Y : Matrix) (i : ℕ) (js : List ℕ) → ((j : ℕ) → j is_one_of js → Finite (Y i j)) → T (all_finite (row Y i js))
unfolding row
row-finite Y i [] h = none
row-finite Y i (j ∷ js) h =
    let (r, m) = h j (in_head j js) in
    all_more _ _ r (all_more _ _ m (row-finite Y i js (λ (q : ℕ) (l : q is_one_of js). h q (in_tail q j js l))))

all-rows-finite : (Y : Matrix) (is js : List ℕ) → ((i j : ℕ) → i is_one_of is → j is_one_of js → Finite (Y i j)) → T (all_finite (rows Y is js))
unfolding rows
all-rows-finite Y [] js h = none
all-rows-finite Y (i ∷ is) js h =
    all_join (row Y i js) (rows Y is js) (row-finite Y i js (λ (j : ℕ) (m : j is_one_of js). h i j (in_head i is) m))
    (all-rows-finite Y is js (λ (p j : ℕ) (l : p is_one_of is) (m : j is_one_of js). h p j (in_tail p i is l) m))

pub rows-finite : (s : State) → FiniteIn s → T (all_finite (rows s.entries s.active s.active))
rows-finite s h = all-rows-finite s.entries s.active s.active h

-- ---- rising active buses below n

pub record Regular (n : ℕ) (s : State) : Type 0 where
  pub rises : T (rising s.active)
  pub below : T (all_below n s.active)

pub regular-start : (n : ℕ) (Y : Matrix) → Regular n (start n Y)
regular-start n Y = record { rises = rising-up_to n; below = all-below-up_to n }

pub regular-eliminate : (n : ℕ) (s : State) (ks : List ℕ) → Regular n s → Regular n (eliminate s ks)
regular-eliminate n s ks h = record {
  rises = rw eliminate-active (rising-others ks s.active h.rises);
  below = rw eliminate-active (all-below-others n ks s.active h.below);
}

-- ---- two states with the same active buses and the same entries between them

pub record Agree (s t : State) : Type 0 where
  pub active : s.active ≡ t.active
  pub entries : (i j : ℕ) → i is_one_of s.active → j is_one_of s.active → s.entries i j ≡ t.entries i j

pub agree-remove : (s t : State) (k : ℕ) → Agree s t → k is_one_of s.active → Agree (remove s k) (remove t k)
unfolding kron
agree-remove s t k h m = record {
  active = ap (others (k ∷ [])) h.active;
  entries = λ (i j : ℕ). λ x y.
      let x' = (stays i (k ∷ []) s.active x).0 in
      let y' = (stays j (k ∷ []) s.active y).0 in
      rw (h.entries i j x' y', h.entries i k x' m, h.entries k j m y', h.entries k k m m);
}

-- two answers to one test that are the same where it holds
same-where : {A : Type 0} (b : Bool) (x y z : A) → (T b → x ≡ y) → cond b x z ≡ cond b y z
same-where true x y z f = f tt
same-where false x y z f = refl

agree-numbers : (s t : State) (k : ℕ) → Agree s t → k is_one_of s.active → of_removal s k ≡ of_removal t k
agree-numbers s t k h m =
    let rest = others (k ∷ []) s.active in
    ap₂ (λ (a b : List Float). a ++ b) (ap of_sqmag (h.entries k k m m))
    (numbers.rows_same k s.entries t.entries rest rest
    (λ (i j : ℕ) (x : i is_one_of rest) (y : j is_one_of rest).
    let x' = (stays i (k ∷ []) s.active x).0 in
    let y' = (stays j (k ∷ []) s.active y).0 in
    (h.entries i j x' y', h.entries i k x' m, h.entries k j m y', h.entries k k m m))
    ∙ ap (λ (xs : List ℕ). of_rows k t.entries (others (k ∷ []) xs) (others (k ∷ []) xs)) h.active)

pub agree-refusal : (s t : State) (k : ℕ) → Agree s t → removal_refusal s k ≡ removal_refusal t k
agree-refusal s t k h =
    refusal_is s k
    ∙ same-where (mem k s.active) _ _ not_active
    (λ m. ap₂ (λ (x : Complex) (xs : List Float). refuse (too_small x) small_entry (refuse (not (all_finite xs)) computed_not_finite 0)) (h.entries k k m m) (agree-numbers s t k h m))
    ∙ ap (λ (xs : List ℕ). refusal_of (mem k xs) (too_small (t.entries k k)) (all_finite (of_removal t k))) h.active
    ∙ sym (refusal_is t k)

pub agree-taken : (s t : State) (ks : List ℕ) → Agree s t → carried_out s ks ≡ carried_out t ks
unfolding carried_out
agree-taken s t [] h = refl
agree-taken s t (k ∷ ks) h =
    rw (← agree-refusal s t k h)
    (same-where (accepts s k) _ _ [] (λ a. ap (λ (l : List ℕ). k ∷ l) (agree-taken (remove s k) (remove t k) ks (agree-remove s t k h (accepted-active s k a)))))

pub agree-stop : (s t : State) (ks : List ℕ) → Agree s t → stopped_by s ks ≡ stopped_by t ks
unfolding stopped_by
agree-stop s t [] h = refl
agree-stop s t (k ∷ ks) h =
    rw (← agree-refusal s t k h)
    (same-where (accepts s k) _ _ (removal_refusal s k) (λ a. agree-stop (remove s k) (remove t k) ks (agree-remove s t k h (accepted-active s k a))))

pub agree-eliminate : (s t : State) (ks : List ℕ) → Agree s t → Accepted s ks → Agree (eliminate s ks) (eliminate t ks)
unfolding eliminate
agree-eliminate s t [] h ok = h
agree-eliminate s t (k ∷ ks) h ok = agree-eliminate (remove s k) (remove t k) ks (agree-remove s t k h (accepted-active s k ok.0)) ok.1

-- ---- and the same rows

row_same : (Y Z : Matrix) (i : ℕ) (js : List ℕ) → ((j : ℕ) → j is_one_of js → Y i j ≡ Z i j) → row Y i js ≡ row Z i js
unfolding row
row_same Y Z i [] h = refl
row_same Y Z i (j ∷ js) h =
    let p = h j (in_head j js) in
    let e = row_same Y Z i js (λ (q : ℕ) (m : q is_one_of js). h q (in_tail q j js m)) in
    rw (p, e)

pub rows_same : (Y Z : Matrix) (is js : List ℕ) → ((i j : ℕ) → i is_one_of is → j is_one_of js → Y i j ≡ Z i j) → rows Y is js ≡ rows Z is js
unfolding rows
rows_same Y Z [] js h = refl
rows_same Y Z (i ∷ is) js h =
    let e = row_same Y Z i js (λ (j : ℕ) (m : j is_one_of js). h i j (in_head i is) m) in
    let f = rows_same Y Z is js (λ (p q : ℕ) (m : p is_one_of is) (l : q is_one_of js). h p q (in_tail p i is m) l) in
    rw (e, f)
