-- Columns kept behind the front of the work slice, and the study's parts from them.
--     column-kept      one more column in its place
--     columns-more     one more solve
--     column-product, currents-product   what the rows of Y_re give with the solutions
--     behind-lost, behind-then, all_then, all_first   the study's steps, part by part
use Rattle.prelude.proofs.Prelude.{◌≡◌, refl, sym, ap, ◌∙◌, subst, Bool, true, false, cond, ◌⊎◌, inl, inr, List, [], ◌∷◌, ◌++◌, append_assoc, append-nil, take-append-drop, ℕ, zero, suc, ◌+◌, ◌-◌, ◌*◌, ◌≤◌, ◌<◌, arith, T, eqb, length, get_or, take, drop, Float, nan, finite, sub-zero, take_all, take-suc, length-drop, length-append, length-take-le, drop_of_length-le, eq-eqb, ne_eqb, add-one, eqb-true, eq-or-lt_of_le, mul-le-mul}
use lib.Seq.{drop_at}
use borrow.Author.Tests.{eqb-false}
use native.Mathlib.Nat.{mul-add}
use mir.Syntax.{w64}
use mir.Val.{Fits}
use Rattle.binary64.specs.Values.{all_finite}
use Rattle.complex.specs.{Complex, cmul, csub, Matrix, entry, entry_at}
use Rattle.complex.proofs.Entries.{entry-append-left}
use Rattle.complex.proofs.Matrices.{entry-within}
use Rattle.complex.proofs.Sticky.{Finite}
use Rattle.lists.proofs.Parts.{back}
use Rattle.lists.proofs.Order.{lt-or-ge}
use Rattle.refusals.specs.Refusals.{limit}
use Rattle.refusals.proofs.Refusing.{product-fits}
use Rattle.refusals.specs.Work.{Step, computing}
use Rattle.std.proofs.Common.{Result, Ok, Err, is_ok}
use Rattle.refusals.specs.declared.Refusal.{Refusal}
use Rattle.refusals.specs.declared.Refusal.TheVariants.{ComputedNotFinite}
use Rattle.solver.specs.Solving.{solve}
use Rattle.solver.specs.Inner.Work.{Ended, placed}
use Rattle.solver.proofs.BlockParts.{placed-in, placed-left, placed-right}
use Rattle.ward_equivalent.specs.Arithmetic.{current, injected_p, injected_q}
use Rattle.ward_equivalent.specs.Ward.{Study, retained, admittance, y_ee, row_times, solved_column, solved_currents, boundary_current, injection_p, injection_q}
use Rattle.ward_equivalent.specs.Steps.{of_each, of_row_times, steps_of_column, of_equivalent, of_currents, steps_of_currents, of_injection, of_injections, of_ratio, steps_of}
use Rattle.ward_equivalent.specs.Calls.{study_of}
use Rattle.ward_equivalent.specs.Inner.Work.{product_to, product, less_product}
use Rattle.ward_equivalent.specs.Inner.Sequence.{solves_input, columns_input, kept_study, steps_of_injections, steps_behind, external_part, external_column, FinitePair, ColumnsApart, CurrentsApart}
use Rattle.ward_equivalent.proofs.Solved.{sum_same}
use Rattle.ward_equivalent.proofs.Parts.{ended-none, ended-then, ended-first, ended_same, ended-alone, ended-lost-alone, parts-lost, parts_then}
use Rattle.ward_equivalent.proofs.Tells.{entries-tell, entries-told, injections-tell, injections-told, InjectionFinite}
use Rattle.ward_equivalent.proofs.Ratio.{ratio-finite}

-- ---- parts of the slice

-- behind the front, where the front came back
pub front-behind : (a : ℕ) (ws vs : List Float) → length vs ≡ a → drop a (vs ++ drop (a - 0) (drop 0 ws)) ≡ drop a ws
front-behind a ws vs l = drop_at vs (drop (a - 0) ws) a l ∙ ap (λ (k : ℕ). drop k ws) (sub-zero a)

-- what came back behind the front
pub behind-front : (a k : ℕ) (xs us : List Float) → a ≤ length xs → length us ≡ length xs - a → k ≡ length xs - a → drop a (back a k xs us) ≡ us
behind-front a k xs us h l e =
    drop_at (take a xs) (us ++ drop k (drop a xs)) a (length-take-le a xs h)
    ∙ ap (λ (t : List Float). us ++ t) (drop_of_length-le (drop a xs) {i = k} (rw length-drop (omega arith))) ∙ append-nil us

pub rest_all : (xs : List Float) (a : ℕ) → take (length xs - a) (drop a xs) ≡ drop a xs
rest_all xs a = take_all (length xs - a) (drop a xs) (rw length-drop (omega arith))

pub front-part : (a : ℕ) (xs : List Float) → a ≤ length xs → length (take (a - 0) (drop 0 xs)) ≡ a
front-part a xs h = ap (λ (m : ℕ). length (take m xs)) (sub-zero a) ∙ length-take-le a xs h

pub work-split : (e r k : ℕ) → k ≡ e + r → 2 * (e * (k + 1)) ≡ 2 * (e * (e + 1)) + 2 * (e * r)
work-split e r k h =
    let s : k + 1 ≡ e + 1 + r = omega arith in
    let d : e * (k + 1) ≡ e * (e + 1) + e * r = ap (λ (m : ℕ). e * m) s ∙ mul-add e (e + 1) r in
    omega arith

pub part-rest : (xs : List Float) (a : ℕ) → take (length xs - a) (drop a xs) ≡ drop a xs
part-rest = rest_all

-- the currents' solution in the front, and in the whole slice
pub front-apart : (n : ℕ) (ys : List Float) (es : List ℕ) (base : Float) (ps qs vs more : List Float) → length vs ≡ 2 * (length es * (length es + 1)) → CurrentsApart n ys es base ps qs vs → CurrentsApart n ys es base ps qs (vs ++ more)
unfolding entry_at
front-apart n ys es base ps qs vs more long h k l =
    let inside : k * (length es + 1) + length es < length es * (length es + 1) = entry-within (length es) (length es + 1) k (length es) l (omega arith) in
    entry-append-left vs more (k * (length es + 1) + length es) (omega arith) ∙ h k l

-- its length fits
pub front_fits : (e : ℕ) → e ≤ limit → Fits w64 (e * (e + 1)) × Fits w64 (2 * (e * (e + 1)))
front_fits e h =
    let more : e + 1 ≤ 257 = omega arith in
    let square : e * (e + 1) ≤ 65792 = mul-le-mul h more in
    (product-fits e (e + 1) 256 257 h more tt, product-fits 2 (e * (e + 1)) 2 65792 (omega arith) square tt)

-- ---- one column

entry-alone : (vs : List Float) (k : ℕ) → entry_at 1 vs k 0 ≡ entry vs k
unfolding entry_at
entry-alone vs k = let at : k * 1 + 0 ≡ k = omega arith in ap (entry vs) at

pub column-kept : (q : ℕ) (vs : List Float) (A : Matrix) (k c : ℕ) → placed q 1 (entry_at 1 vs) A k c ≡ cond (eqb c q) (entry vs k) (A k c)
column-kept q vs A k c = pick (lt-or-ge c q) (lt-or-ge q c)
  where
    pick : (c < q) ⊎ (q ≤ c) → (q < c) ⊎ (c ≤ q) → placed q 1 (entry_at 1 vs) A k c ≡ cond (eqb c q) (entry vs k) (A k c)
    pick (inl l) _ = placed-left q 1 (entry_at 1 vs) A k c l ∙ sym (ap (λ (b : Bool). cond b (entry vs k) (A k c)) (ne_eqb c q (λ (e : c ≡ q). omega arith)))
    pick (inr l) (inl m) = placed-right q 1 (entry_at 1 vs) A k c (omega arith) ∙ sym (ap (λ (b : Bool). cond b (entry vs k) (A k c)) (ne_eqb c q (λ (e : c ≡ q). omega arith)))
    pick (inr l) (inr m) =
        let none : c - q ≡ 0 = omega arith in
        placed-in q 1 (entry_at 1 vs) A k c l (omega arith) ∙ ap (entry_at 1 vs k) none ∙ entry-alone vs k
        ∙ sym (ap (λ (b : Bool). cond b (entry vs k) (A k c)) (eq-eqb c q (omega arith)))

-- the column put in the slice's part behind the front, which then came back
pub kept-place : (e r q : ℕ) (ws vs : List Float) (z : ℕ) (sol us : List Float) → length ws ≡ 2 * (e * (e + 1)) + 2 * (e * r)
    → length vs ≡ length (take (2 * (e * (e + 1)) - 0) (drop 0 ws)) → z ≡ length (vs ++ drop (2 * (e * (e + 1)) - 0) (drop 0 ws))
    → length us ≡ length (take (z - 2 * (e * (e + 1))) (drop (2 * (e * (e + 1))) (vs ++ drop (2 * (e * (e + 1)) - 0) (drop 0 ws))))
    → ((i j : ℕ) → i < e → j < r → entry_at r us i j ≡ placed q 1 (entry_at 1 sol) (entry_at r (take (z - 2 * (e * (e + 1))) (drop (2 * (e * (e + 1))) (vs ++ drop (2 * (e * (e + 1)) - 0) (drop 0 ws))))) i j)
    → (k c : ℕ) → k < e → c < r
    → entry_at r (drop (2 * (e * (e + 1))) (back (2 * (e * (e + 1))) (z - 2 * (e * (e + 1))) (vs ++ drop (2 * (e * (e + 1)) - 0) (drop 0 ws)) us)) k c ≡ cond (eqb c q) (entry sol k) (entry_at r (drop (2 * (e * (e + 1))) ws) k c)
kept-place e r q ws vs z sol us long lv lz lu set k c x y =
    let a = 2 * (e * (e + 1)) in
    let now = vs ++ drop (a - 0) (drop 0 ws) in
    let front : length vs ≡ a = lv ∙ ap (λ (m : ℕ). length (take m ws)) (sub-zero a) ∙ length-take-le a ws (omega arith) in
    let whole : length now ≡ length ws = length-append vs (drop (a - 0) ws) ∙ ap (λ (m : ℕ). length vs + length (drop m ws)) (sub-zero a) ∙ ap (λ (m : ℕ). length vs + m) (length-drop a ws) ∙ omega arith in
    let part : take (z - a) (drop a now) ≡ drop a ws = ap (λ (m : ℕ). take (m - a) (drop a now)) lz ∙ rest_all now a ∙ front-behind a ws vs front in
    let behind : length us ≡ length now - a = lu ∙ ap length part ∙ length-drop a ws ∙ omega arith in
    ap (λ (l : List Float). entry_at r l k c) (behind-front a (z - a) now us (omega arith) behind (omega arith))
    ∙ set k c x y
    ∙ column-kept q sol (entry_at r (take (z - a) (drop a now))) k c
    ∙ ap (λ (l : List Float). cond (eqb c q) (entry sol k) (entry_at r l k c)) part

below : (c q : ℕ) → c < q + 1 → (c ≡ q → ⊥) → c < q
below c q h n =
    elim (eq-or-lt_of_le {n = c} {m = q} (omega arith)) [
      | inr m ↦ m
      | inl e ↦ absurd (n e)
    ]

-- ---- one column after the other

each-join : {A : Type 0} (f : ℕ → List A) (is js : List ℕ) → of_each f (is ++ js) ≡ of_each f is ++ of_each f js
unfolding of_each
each-join f [] js = refl
each-join f (i ∷ is) js = ap (λ l. f i ++ l) (each-join f is js) ∙ sym (append_assoc (f i) (of_each f is) (of_each f js))

each_more : {A : Type 0} (f : ℕ → List A) (ks : List ℕ) (q : ℕ) → q < length ks → of_each f (take (q + 1) ks) ≡ of_each f (take q ks) ++ f (get_or ks q 0)
unfolding of_each
each_more f ks q h = ap (of_each f) (ap (λ (m : ℕ). take m ks) (add-one q) ∙ take-suc ks q 0 h) ∙ each-join f (take q ks) (get_or ks q 0 ∷ []) ∙ ap (λ l. of_each f (take q ks) ++ l) (append-nil (f (get_or ks q 0)))

module _ (n : ℕ) (ys : List Float) (es ks : List ℕ) where
  abbrev pub column_steps : ℕ → List Step
  column_steps = steps_of_column (columns_input n ys es)

  pub record KeptTo (allowed left q : ℕ) (work : List Float) : Type 0 where
    pub ended : Ended allowed (Ok left) (of_each (steps_of_column (columns_input n ys es)) (take q ks))
    pub columns : ColumnsApart n ys es ks q work

  pub kept-none : (m : ℕ) (ws : List Float) → KeptTo m m 0 ws
  unfolding of_each
  kept-none m ws = record { ended = ended-none m; columns = λ (k c : ℕ) h l. absurd (omega arith) }

  module _ (m left q : ℕ) (ws us : List Float) (h : q < length ks) (so : KeptTo m left q ws) (r : Result ℕ Refusal) (ended : Ended left r (column_steps (get_or ks q 0)))
      (kept : (rest : ℕ) → r ≡ Ok rest → (k c : ℕ) → k < length es → c < length ks → entry_at (length ks) (drop (2 * (length es * (length es + 1))) us) k c
      ≡ cond (eqb c q) (solve (length es) (external_part n ys es) (external_column n ys es (get_or ks q 0)) k) (entry_at (length ks) (drop (2 * (length es * (length es + 1))) ws) k c)) where
    pub kept_more : (rest : ℕ) → r ≡ Ok rest → KeptTo m rest (q + 1) us
    kept_more rest d = record {
      ended = ended_same m (Ok rest) _ _ (sym (each_more column_steps ks q h)) (ended-then m (of_each column_steps (take q ks)) (column_steps (get_or ks q 0)) left (Ok rest) so.ended (subst (λ (t : Result ℕ Refusal). Ended left t (column_steps (get_or ks q 0))) d ended));
      columns = λ (k c : ℕ) x y. kept rest d k c x (omega arith) ∙ pick k c x y (eqb c q) refl;
    }
      where
        pick : (k c : ℕ) → k < length es → c < q + 1 → (b : Bool) → eqb c q ≡ b
            → cond (eqb c q) (solve (length es) (external_part n ys es) (external_column n ys es (get_or ks q 0)) k) (entry_at (length ks) (drop (2 * (length es * (length es + 1))) ws) k c)
            ≡ solve (length es) (external_part n ys es) (external_column n ys es (get_or ks c 0)) k
        pick k c x y true e =
            ap (λ (t : Bool). cond t (solve (length es) (external_part n ys es) (external_column n ys es (get_or ks q 0)) k) (entry_at (length ks) (drop (2 * (length es * (length es + 1))) ws) k c)) e
            ∙ ap (λ (j : ℕ). solve (length es) (external_part n ys es) (external_column n ys es (get_or ks j 0)) k) (sym (eqb-true c q e))
        pick k c x y false e =
            ap (λ (t : Bool). cond t (solve (length es) (external_part n ys es) (external_column n ys es (get_or ks q 0)) k) (entry_at (length ks) (drop (2 * (length es * (length es + 1))) ws) k c)) e
            ∙ so.columns k c x (below c q y (eqb-false c q e))

    -- a solve that is not done ends them all
    pub kept-ended : is_ok r ≡ false → Ended m r (of_each (steps_of_column (columns_input n ys es)) ks)
    kept-ended d =
        ended_same m r _ _ (sym (parts-of q h)) (ended-first m (of_each column_steps (take q ks) ++ column_steps (get_or ks q 0)) (of_each column_steps (drop (q + 1) ks)) r d
        (ended-then m (of_each column_steps (take q ks)) (column_steps (get_or ks q 0)) left r so.ended ended))
      where
        parts-of : (q : ℕ) → q < length ks → of_each column_steps ks ≡ (of_each column_steps (take q ks) ++ column_steps (get_or ks q 0)) ++ of_each column_steps (drop (q + 1) ks)
        parts-of q h =
            ap (of_each column_steps) (sym (take-append-drop (q + 1) ks)) ∙ each-join column_steps (take (q + 1) ks) (drop (q + 1) ks)
            ∙ ap (λ (l : List Step). l ++ of_each column_steps (drop (q + 1) ks)) (each_more column_steps ks q h)

  pub kept-all : (m left q : ℕ) (ws : List Float) → length ks ≤ q → KeptTo m left q ws → Ended m (Ok left) (of_each (steps_of_column (columns_input n ys es)) ks)
  kept-all m left q ws h so = ended_same m (Ok left) _ _ (ap (of_each column_steps) (take_all q ks h)) so.ended

not-all : (b : Bool) → (T b → ⊥) → b ≡ false
not-all true h = absurd (h tt)
not-all false h = refl

-- ---- the study, from its solutions

pub currents-same : (n : ℕ) (ys : List Float) (es is bs js cs : List ℕ) (base : Float) (ps qs : List Float) (count : ℕ) → of_currents (study_of n ys is es bs base ps qs) count ≡ of_currents (study_of n ys js es cs base ps qs) count
unfolding of_currents
currents-same n ys es is bs js cs base ps qs zero = refl
currents-same n ys es is bs js cs base ps qs (suc count) =
    ap (λ (l : List Float). l ++ ((current base (get_or ps count nan) (get_or qs count nan)).re ∷ (current base (get_or ps count nan) (get_or qs count nan)).im ∷ [])) (currents-same n ys es is bs js cs base ps qs count)

module _ (n : ℕ) (ys : List Float) (es is bs : List ℕ) (base : Float) (ps qs : List Float) where
  abbrev study : Study
  study = study_of n ys is es bs base ps qs

  pub column-product : (w first j : ℕ) (xs : List Float) (q : ℕ) → ((k : ℕ) → k < length es → entry_at w xs k (first + q) ≡ solve (length es) (external_part n ys es) (external_column n ys es j) k)
      → (bus : ℕ) → product n ys es w xs bus (first + q) ≡ row_times (study_of n ys is es bs base ps qs) bus (solved_column (study_of n ys is es bs base ps qs) j)
  unfolding product_to row_times admittance solved_column y_ee
  column-product w first j xs q h bus =
      sum_same (length es) (λ (k : ℕ). cmul (entry_at n ys bus (get_or es k 0)) (entry_at w xs k (first + q))) (λ (k : ℕ). cmul (entry_at n ys bus (get_or es k 0)) (solved_column study j k))
      λ (k : ℕ) (l : k < length es). ap (cmul (entry_at n ys bus (get_or es k 0))) (h k l)

  pub currents-product : (us : List Float) → CurrentsApart n ys es base ps qs us → (bus : ℕ) → product n ys es (length es + 1) us bus (length es) ≡ boundary_current (study_of n ys is es bs base ps qs) bus
  unfolding product_to boundary_current row_times admittance solved_currents y_ee
  currents-product us h bus =
      sum_same (length es) (λ (k : ℕ). cmul (entry_at n ys bus (get_or es k 0)) (entry_at (length es + 1) us k (length es))) (λ (k : ℕ). cmul (entry_at n ys bus (get_or es k 0)) (solved_currents study k))
      λ (k : ℕ) (l : k < length es). ap (cmul (entry_at n ys bus (get_or es k 0))) (h k l)

-- ---- the currents, their solve and the injections

module _ (n : ℕ) (ys : List Float) (es bs : List ℕ) (base : Float) (ps qs : List Float) (some : eqb (length es) 0 ≡ false) where
  abbrev injecting : Study
  injecting = study_of n ys [] es bs base ps qs

  injection-steps : (computing (of_currents (solves_input n ys es base ps qs) (length es)) ++ steps_of_currents (solves_input n ys es base ps qs)) ++ computing (of_injections injecting) ≡ steps_of_injections n ys es bs base ps qs
  unfolding steps_of_injections steps_of_currents y_ee admittance
  injection-steps =
      append_assoc (computing (of_currents (solves_input n ys es base ps qs) (length es))) (steps_of_currents (solves_input n ys es base ps qs)) (computing (of_injections injecting))
      ∙ ap (λ (l : List Float). computing l ++ (steps_of_currents injecting ++ computing (of_injections injecting))) (currents-same n ys es [] [] [] bs base ps qs (length es))

  module _ (m : ℕ) (end : Result ℕ Refusal) (first : Ended m end (computing (of_currents (solves_input n ys es base ps qs) (length es)) ++ steps_of_currents (solves_input n ys es base ps qs))) where
    pub injections-first : is_ok end ≡ false → Ended m end (steps_of_injections n ys es bs base ps qs)
    injections-first d = ended_same m end _ _ injection-steps (ended-first m _ (computing (of_injections injecting)) end d first)

    module _ (left : ℕ) (d : end ≡ Ok left) (us : List Float) (held : CurrentsApart n ys es base ps qs us) where
      abbrev Injected : Type 0
      Injected = (t : ℕ) → t < length bs → T (finite (injected_p base (product n ys es (length es + 1) us (get_or bs t 0) (length es)))) × T (finite (injected_q base (product n ys es (length es + 1) us (get_or bs t 0) (length es))))

      as-study : (t : ℕ) → t < length bs → T (finite (injected_p base (product n ys es (length es + 1) us (get_or bs t 0) (length es)))) × T (finite (injected_q base (product n ys es (length es + 1) us (get_or bs t 0) (length es)))) → InjectionFinite injecting some (get_or bs t 0)
      as-study t l h = subst (λ (z : Complex). T (finite (injected_p base z)) × T (finite (injected_q base z))) (currents-product n ys es [] bs base ps qs us held (get_or bs t 0)) h

      as_code : (t : ℕ) → t < length bs → InjectionFinite injecting some (get_or bs t 0) → T (finite (injected_p base (product n ys es (length es + 1) us (get_or bs t 0) (length es)))) × T (finite (injected_q base (product n ys es (length es + 1) us (get_or bs t 0) (length es))))
      as_code t l h = subst (λ (z : Complex). T (finite (injected_p base z)) × T (finite (injected_q base z))) (sym (currents-product n ys es [] bs base ps qs us held (get_or bs t 0))) h

      begun : Ended m (Ok left) (computing (of_currents (solves_input n ys es base ps qs) (length es)) ++ steps_of_currents (solves_input n ys es base ps qs))
      begun = subst (λ (t : Result ℕ Refusal). Ended m t (computing (of_currents (solves_input n ys es base ps qs) (length es)) ++ steps_of_currents (solves_input n ys es base ps qs))) d first

      pub injections-done : Injected → Ended m end (steps_of_injections n ys es bs base ps qs)
      injections-done h =
          subst (λ (t : Result ℕ Refusal). Ended m t (steps_of_injections n ys es bs base ps qs)) (sym d)
          (ended_same m (Ok left) _ _ injection-steps (ended-then m _ (computing (of_injections injecting)) left (Ok left) begun
          (ended-alone left (of_injections injecting) (injections-tell injecting some λ (t : ℕ) (l : t < length bs). as-study t l (h t l)))))

      pub injections-lost : (Injected → ⊥) → Ended m (Err ComputedNotFinite) (steps_of_injections n ys es bs base ps qs)
      injections-lost h =
          ended_same m (Err ComputedNotFinite) _ _ injection-steps (ended-then m _ (computing (of_injections injecting)) left (Err ComputedNotFinite) begun
          (ended-lost-alone left (of_injections injecting) (not-all (all_finite (of_injections injecting)) λ all. h λ (t : ℕ) (l : t < length bs). as_code t l (injections-told injecting some all t l))))

-- ---- the entries, and what comes behind the columns

module _ (n : ℕ) (ys : List Float) (es ks : List ℕ) (i : ℕ) (base : Float) (ps qs : List Float) (some : eqb (length es) 0 ≡ false) where
  abbrev whole : Study
  whole = kept_study n ys es ks i base ps qs

  pub retained-kept : retained (kept_study n ys es ks i base ps qs) ≡ ks
  unfolding retained
  retained-kept = take-append-drop i ks

  module _ (ws xs : List Float) (same : xs ≡ drop (2 * (length es * (length es + 1))) ws) (held : ColumnsApart n ys es ks (length ks) ws) where
    entry_value : (p q : ℕ) → q < length ks → less_product n ys es ks (length ks) xs 0 (get_or ks p 0) q
        ≡ csub (admittance whole (get_or ks p 0) (get_or ks q 0)) (row_times whole (get_or ks p 0) (solved_column whole (get_or ks q 0)))
    unfolding less_product admittance
    entry_value p q h =
        ap (csub (entry_at n ys (get_or ks p 0) (get_or ks q 0)))
        (column-product n ys es (take i ks) (drop i ks) base ps qs (length ks) 0 (get_or ks q 0) xs q
        (λ (k : ℕ) (l : k < length es). let at : 0 + q ≡ q = omega arith in ap (entry_at (length ks) xs k) at ∙ ap (λ (u : List Float). entry_at (length ks) u k q) same ∙ held k q l h) (get_or ks p 0))

    abbrev Entered : Type 0
    Entered = (p : ℕ) → p < length ks → (q : ℕ) → q < length ks → FinitePair (less_product n ys es ks (length ks) xs 0 (get_or ks p 0) q)

    pub entered : Entered → T (all_finite (of_equivalent (kept_study n ys es ks i base ps qs)))
    entered h =
        entries-tell whole some
        (subst (λ (l : List ℕ). (p : ℕ) → p < length l → (q : ℕ) → q < length l → Finite (csub (admittance whole (get_or l p 0) (get_or l q 0)) (row_times whole (get_or l p 0) (solved_column whole (get_or l q 0))))) (sym retained-kept)
        λ (p : ℕ) (x : p < length ks) (q : ℕ) (y : q < length ks). subst Finite (entry_value p q y) (h p x q y))

    pub not_entered : (Entered → ⊥) → all_finite (of_equivalent (kept_study n ys es ks i base ps qs)) ≡ false
    not_entered h =
        not-all (all_finite (of_equivalent whole)) λ all. h λ (p : ℕ) (x : p < length ks) (q : ℕ) (y : q < length ks).
        subst Finite (sym (entry_value p q y))
        (subst (λ (l : List ℕ). (p : ℕ) → p < length l → (q : ℕ) → q < length l → Finite (csub (admittance whole (get_or l p 0) (get_or l q 0)) (row_times whole (get_or l p 0) (solved_column whole (get_or l q 0))))) retained-kept (entries-told whole some all) p x q y)

  pub behind-lost : (left : ℕ) → all_finite (of_equivalent (kept_study n ys es ks i base ps qs)) ≡ false → Ended left (Err ComputedNotFinite) (steps_behind (kept_study n ys es ks i base ps qs))
  unfolding steps_behind
  behind-lost left h = parts-lost [] (of_equivalent whole) (of_currents whole (length es)) (steps_of_currents whole) (of_injections whole) (of_ratio (length (retained whole)) n) left left (ended-none left) h

  later_same : steps_of_injections n ys es (drop i ks) base ps qs ≡ computing (of_currents whole (length es)) ++ (steps_of_currents whole ++ computing (of_injections whole))
  unfolding steps_of_injections steps_of_currents of_injections of_injection of_row_times solved_currents injection_p injection_q boundary_current row_times y_ee admittance
  later_same = ap (λ (l : List Float). computing l ++ (steps_of_currents whole ++ computing (of_injections whole))) (currents-same n ys es [] (drop i ks) (take i ks) (drop i ks) base ps qs (length es))

  pub behind-then : (left : ℕ) (r : Result ℕ Refusal) → 0 < n → length ks ≤ n → n ≤ limit → T (all_finite (of_equivalent (kept_study n ys es ks i base ps qs)))
      → Ended left r (steps_of_injections n ys es (drop i ks) base ps qs) → Ended left r (steps_behind (kept_study n ys es ks i base ps qs))
  unfolding steps_behind
  behind-then left r positive less few fine next =
      parts_then [] (of_equivalent whole) (of_currents whole (length es)) (steps_of_currents whole) (of_injections whole) (of_ratio (length (retained whole)) n) left left r (ended-none left) fine
      (ratio-finite (length (retained whole)) n positive (subst (λ (m : ℕ). m ≤ n) (sym (ap length retained-kept)) less) few) (ended_same left r _ _ later_same next)

  -- the whole
  all-steps : of_each (steps_of_column (columns_input n ys es)) ks ++ steps_behind whole ≡ steps_of whole
  unfolding steps_of steps_behind steps_of_column y_ee admittance
  all-steps = rw some (ap (λ (l : List ℕ). of_each (steps_of_column whole) l ++ steps_behind whole) (sym retained-kept))

  pub all_first : (m : ℕ) (r : Result ℕ Refusal) → is_ok r ≡ false → Ended m r (of_each (steps_of_column (columns_input n ys es)) ks) → Ended m r (steps_of (kept_study n ys es ks i base ps qs))
  all_first m r d h = ended_same m r _ _ all-steps (ended-first m _ (steps_behind whole) r d h)

  pub all_then : (m left : ℕ) (r : Result ℕ Refusal) → Ended m (Ok left) (of_each (steps_of_column (columns_input n ys es)) ks) → Ended left r (steps_behind (kept_study n ys es ks i base ps qs)) → Ended m r (steps_of (kept_study n ys es ks i base ps qs))
  all_then m left r h next = ended_same m r _ _ all-steps (ended-then m _ (steps_behind whole) left r h next)
