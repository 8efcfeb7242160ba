-- What one removal, and a list of them, answers and leaves, from what the code finds: the row of the bus, its own entry, the places and the rows closed up.
use Rattle.std.proofs.Common.{Some, None, Ok, Err, Result}
use Rattle.prelude.proofs.Prelude.{◌≡◌, refl, sym, ap, ◌∙◌, true, false, ◌⊎◌, inl, inr, List, [], ◌∷◌, ◌++◌, ℕ, zero, suc, ◌+◌, ◌-◌, ◌*◌, ◌≤◌, ◌<◌, add-one, arith, T, length, get_or, take, drop, replicate, Float, nan, ap₂, append-nil, append_assoc, le_trans, add-zero, sub-zero, mul-le-mul, mul-le-mul_left, eq-eqb, ne_eqb, length-take, drop_of_length-le, length-take-le, take-suc, drop-cons, take-append_seam, take-append-drop, length-drop, get_or-drop, ext_get_or}
use Rattle.complex.specs.{Complex, entry, entry_at, rows}
use Rattle.complex.specs.Inner.Ordinary.{all_ordinary}
use Rattle.refusals.specs.declared.Refusal.{Refusal}
use Rattle.refusals.specs.declared.Refusal.TheVariants.{NotActive}
use Rattle.refusals.specs.Refusals.{limit, answered, outcome}
use Rattle.refusals.proofs.Answering.{accepted, none}
use Rattle.lists.specs.Buses.{◌is_one_of◌, rising, found_in}
use Rattle.kron_reduction.specs.Kron.{kron, State, start, remove, removal_refusal, accepts, eliminate, carried_out, stopped_by}
use Rattle.kron_reduction.specs.Inner.Removal.{old_row, StandsIn, left_by, Holds, RemovedOne, RemovedAll}
use Rattle.kron_reduction.specs.declared.KronReducer.{KronReducer}
use Rattle.kron_reduction.specs.Reducer.{padded, reducer_of, active_of, state_in}
use Rattle.lists.proofs.Buses.{place-lt, rising-others}
use Rattle.lists.proofs.Chains.{found_at, found-not}
use Rattle.kron_reduction.proofs.States.{Accepted, accepted-active, eliminate-append, eliminate-active, Agree, agree-remove, agree-refusal}
use Rattle.kron_reduction.proofs.Rows.{refusal-by-row}
use Rattle.kron_reduction.proofs.Showing.{length-padded, length-others-one, places-closed, shows-removed, shown-shows, shows-agree, agree-shows, front-rows}

-- ---- answers

-- what is refused has a refusal
pub refused-none : {f : Refusal} → Err f ≡ outcome 0 → ⊥
unfolding answered
refused-none e = cc

-- ---- one removal

module _ (r : KronReducer) (ys : List Float) (h : Holds r ys) where
  abbrev n : ℕ
  n = r.n_buses

  abbrev bs : List ℕ
  bs = r.active_buses

  pub holds-room : length bs ≡ limit
  holds-room = ap length h.places ∙ length-padded (take n bs) (le_trans short h.room)
    where
      short : length (take n bs) ≤ n
      short = rw length-take (omega arith)

  pub holds-long : length (active_of r) ≡ n
  holds-long = length-take-le n bs (rw holds-room h.room)

  pub took-absent : (k : ℕ) → found_in k (take n bs) ≡ None → RemovedOne r ys k (Err NotActive) r ys
  unfolding removal_refusal answered
  took-absent k e = record {
    says = rw (found-not k (take n bs) e);
    refused = λ _ _. (refl, refl);
    left = λ z. absurd (cc);
    shows = λ z. absurd (cc);
    behind = λ z. absurd (cc);
  }

  module _ (k p : ℕ) (e : found_in k (take n bs) ≡ Some p) where
    pub took_lt : p < n
    took_lt =
        let f = found_at k (take n bs) p e in
        let l = place-lt k (take n bs) f.0 in
        omega (arith, f.1, l, holds-long)

    row-says : removal_refusal (start n (entry_at n ys)) p ≡ removal_refusal (state_in n (take n bs) ys) k
    row-says =
        let f = found_at k (take n bs) p e in
        ap (removal_refusal (start n (entry_at n ys))) (sym f.1) ∙ sym (refusal-by-row n (take n bs) ys h.rises holds-long k f.0)

    -- a refusal of the removal of row p: nothing is changed
    pub took-refused : (f : Refusal) → Err f ≡ outcome (removal_refusal (start n (entry_at n ys)) p) → RemovedOne r ys k (Err f) r ys
    took-refused f told = record {
      says = told ∙ ap outcome row-says;
      refused = λ _ _. (refl, refl);
      left = λ z. absurd (cc);
      shows = λ z. absurd (cc);
      behind = λ z. absurd (cc);
    }

    pub took : Ok tt ≡ outcome (removal_refusal (start n (entry_at n ys)) p) → (cs : List ℕ) (zs : List Float) → length cs ≡ length bs
        → ((i : ℕ) → i < n - 1 → get_or cs i 0 ≡ get_or bs (old_row p i) 0) × (get_or cs (n - 1) 0 ≡ 0) × ((i : ℕ) → n ≤ i → get_or cs i 0 ≡ get_or bs i 0)
        → ((i j : ℕ) → i < n - 1 → j < n - 1 → entry_at (n - 1) zs i j ≡ kron p (entry_at n ys) (old_row p i) (old_row p j))
        → ((t : ℕ) → (n - 1) * (n - 1) ≤ t → entry zs t ≡ entry ys t)
        → RemovedOne r ys k (Ok tt) (reducer_of r.made (n - 1) cs r.numbers) zs
    took none cs zs long closed rows behind =
        let f = found_at k (take n bs) p e in
        let xs = take n bs in
        let more : length xs ≡ n = holds-long in
        record {
          says = none ∙ ap outcome row-says;
          refused = λ f e. absurd (cc);
          left = λ _.
              ap (λ (ps : List ℕ). reducer_of r.made (n - 1) ps r.numbers)
              (places-closed k xs h.rises f.0 bs cs (rw more h.room) h.places long
              (λ (i : ℕ) (l : i < length xs - 1). closed.0 i (omega arith) ∙ ap (λ (a : ℕ). get_or bs (old_row a i) 0) (sym f.1))
              (ap (λ (i : ℕ). get_or cs (i - 1) 0) more ∙ closed.1)
              (λ (i : ℕ) (l : length xs ≤ i). closed.2 i (omega arith)));
          shows = λ _.
              shows-removed k xs h.rises f.0 n ys zs more
              (λ (i j : ℕ) (l : i < n - 1) (u : j < n - 1). rows i j l u ∙ ap (λ (a : ℕ). kron a (entry_at n ys) (old_row a i) (old_row a j)) (sym f.1));
          behind = λ _. behind;
        }

-- ---- a list of removals

-- rows of ordinary size, before the first removal
pub first-ordinary : (n m done : ℕ) (ys zs : List Float) → m ≡ n - done → done ≡ 0 → zs ≡ ys → T (all_ordinary (take (2 * (n * n)) ys)) → T (all_ordinary (take (2 * (m * m)) zs))
first-ordinary n m done ys zs size z e h = rw (size, z, e, sub-zero n) h

length-remove : (s : State) (k : ℕ) → T (rising s.active) → k is_one_of s.active → length (remove s k).active + 1 ≡ length s.active
length-remove s k r m =
    let h = place-lt k s.active m in
    let e = length-others-one k s.active r m in
    omega (arith, h, e)

-- as many active buses fewer as were removed
pub length-eliminate : (s : State) (ks : List ℕ) → T (rising s.active) → Accepted s ks → length (eliminate s ks).active + length ks ≡ length s.active
unfolding eliminate
length-eliminate s [] r ok = add-zero (length s.active)
length-eliminate s (k ∷ ks) r ok =
    let m = accepted-active s k ok.0 in
    let ih = length-eliminate (remove s k) ks (rising-others (k ∷ []) s.active r) ok.1 in
    let e = length-remove s k r m in
    omega (arith, ih, e)

-- ---- what stands behind the rows

half : (i : ℕ) → (q : ℕ) × ((i ≡ 2 * q) ⊎ (i ≡ 2 * q + 1))
half zero = (0, inl refl)
half (suc i) = let (q, c) = half i in elim c [ inl e ↦ (q, inr (omega arith)) | inr e ↦ (q + 1, inl (omega arith)) ]

behind-same : (a : ℕ) (xs ys : List Float) → length xs ≡ length ys → ((t : ℕ) → a ≤ t → entry xs t ≡ entry ys t) → drop (2 * a) xs ≡ drop (2 * a) ys
unfolding entry
behind-same a xs ys long h =
    ext_get_or nan (drop (2 * a) xs) (drop (2 * a) ys) (length-drop (2 * a) xs ∙ ap (λ (k : ℕ). k - 2 * a) long ∙ sym (length-drop (2 * a) ys))
    λ (i : ℕ) (_ : i < length (drop (2 * a) xs)). get_or-drop (2 * a) xs i nan ∙ at i (half i) ∙ sym (get_or-drop (2 * a) ys i nan)
  where
    at : (i : ℕ) → (q : ℕ) × ((i ≡ 2 * q) ⊎ (i ≡ 2 * q + 1)) → get_or xs (2 * a + i) nan ≡ get_or ys (2 * a + i) nan
    at i (q, inl e) =
        let same : 2 * a + i ≡ 2 * (a + q) = omega arith in
        ap (λ (k : ℕ). get_or xs k nan) same ∙ ap (λ (c : Complex). c.re) (h (a + q) (omega arith)) ∙ ap (λ (k : ℕ). get_or ys k nan) (sym same)
    at i (q, inr e) =
        let same : 2 * a + i ≡ 2 * (a + q) + 1 = omega arith in
        ap (λ (k : ℕ). get_or xs k nan) same ∙ ap (λ (c : Complex). c.im) (h (a + q) (omega arith)) ∙ ap (λ (k : ℕ). get_or ys k nan) (sym same)

-- a state's rows over the front of a slice
over-front : (s : State) (m : ℕ) (ys zs : List Float) → length s.active ≡ m → StandsIn s zs → length zs ≡ length ys → 2 * (m * m) ≤ length ys → ((t : ℕ) → m * m ≤ t → entry zs t ≡ entry ys t)
    → zs ≡ rows s.entries s.active s.active ++ drop (2 * (length s.active * length s.active)) ys
over-front s m ys zs e shows long fits behind =
    sym (take-append-drop (2 * (m * m)) zs)
    ∙ ap₂ (λ (a b : List Float). a ++ b) (front-rows s m zs e shows (rw long fits)) (behind-same (m * m) zs ys long behind ∙ ap (λ (k : ℕ). drop (2 * (k * k)) ys) (sym e))

left-append : (s : State) (ys : List Float) (first last : List ℕ) → left_by s ys (first ++ last) ≡ left_by (eliminate s first) (left_by s ys first) last
unfolding left_by eliminate
left-append s ys [] last = refl
left-append s ys (k ∷ first) last = left-append (remove s k) _ first last

pub left-none : (s : State) (ys zs : List Float) (ks : List ℕ) (done : ℕ) → done ≡ 0 → zs ≡ left_by s ys (take done ks) → zs ≡ ys
unfolding left_by
left-none s ys zs ks done z e = e ∙ ap (λ (d : ℕ). left_by s ys (take d ks)) z

-- the state s of the record r with the first `done` buses of ks removed, as the record r' and the slice hold it
pub record Ongoing (r : KronReducer) (s : State) (ks : List ℕ) (done : ℕ) (r' : KronReducer) (ys : List Float) : Type 0 where
  pub within : done ≤ length ks
  pub left : r' ≡ reducer_of r.made (r.n_buses - done) (padded (eliminate s (take done ks)).active) r.numbers
  pub count : length (eliminate s (take done ks)).active + done ≡ length s.active
  pub shows : StandsIn (eliminate s (take done ks)) ys
  pub rest : carried_out s ks ≡ take done ks ++ carried_out (eliminate s (take done ks)) (drop done ks)
  pub stops : stopped_by s ks ≡ stopped_by (eliminate s (take done ks)) (drop done ks)

pub ongoing-start : (r : KronReducer) (ys : List Float) (ks : List ℕ) → Holds r ys → Ongoing r (state_in r.n_buses (active_of r) ys) ks 0 r ys
unfolding eliminate
ongoing-start r ys ks h = record {
  within = omega arith;
  left = ap₂ (λ (m : ℕ) (ps : List ℕ). reducer_of r.made m ps r.numbers) (sym (sub-zero r.n_buses)) h.places;
  count = add-zero (length (active_of r));
  shows = shown-shows r.n_buses (active_of r) ys h.rises (holds-long r ys h);
  rest = refl;
  stops = refl;
}

pub ongoing-same : {r : KronReducer} {s : State} {ks : List ℕ} {done : ℕ} {q q' : KronReducer} {ys zs : List Float} → Ongoing r s ks done q ys → q' ≡ q → zs ≡ ys → Ongoing r s ks done q' zs
ongoing-same h p q = rw (p, q) h

module _ (r : KronReducer) (s : State) (ks : List ℕ) (done : ℕ) (q : KronReducer) (ys : List Float) (rises : T (rising s.active)) (size : length s.active ≡ r.n_buses) (h : Ongoing r s ks done q ys) where
  abbrev now : State
  now = eliminate s (take done ks)

  abbrev left : ℕ
  left = q.n_buses

  pub left-is : left ≡ r.n_buses - done
  left-is = ap (λ (q : KronReducer). q.n_buses) h.left

  places : q.active_buses ≡ padded now.active
  places = ap (λ (q : KronReducer). q.active_buses) h.left

  now-rises : T (rising now.active)
  now-rises = rw eliminate-active (rising-others (take done ks) s.active rises)

  now-length : length now.active ≡ left
  now-length = omega (arith, h.count, size, left-is)

  now-active : active_of q ≡ now.active
  now-active = ap₂ take (sym now-length) places ∙ take-append_seam now.active (replicate (limit - length now.active) 0)

  -- the next step may begin
  pub ongoing-holds : (len : ℕ) → r.n_buses ≤ limit → length ys ≡ len → 2 * (r.n_buses * r.n_buses) ≤ len → Holds q ys
  ongoing-holds len small e fits = record {
    room = le_trans (omega (arith, left-is)) small;
    places = places ∙ ap padded (sym now-active);
    rises = rw now-active now-rises;
    fits = rw e (le_trans (mul-le-mul_left 2 (mul-le-mul (omega (arith, left-is)) (omega (arith, left-is)))) fits);
  }

  -- what the step sees is the state
  seen : Agree (state_in left (active_of q) ys) now
  seen = rw now-active (shows-agree now left ys now-length h.shows)

  module _ (q' : KronReducer) (zs : List Float) (answer : Result (Unit {0}) Refusal) (l : done < length ks) (t : RemovedOne q ys (get_or ks done 0) answer q' zs) where
    abbrev k : ℕ
    k = get_or ks done 0

    says : answer ≡ outcome (removal_refusal now k)
    says = t.says ∙ ap outcome (agree-refusal (state_in left (active_of q) ys) now k seen)

    -- it is carried out exactly where it is answered
    carried-out : answer ≡ Ok tt → accepts now k ≡ true
    carried-out z = eq-eqb (removal_refusal now k) 0 (accepted (tt {0}) (tt {0}) (removal_refusal now k) tt (sym z ∙ says)).0

    on : drop done ks ≡ k ∷ drop (suc done) ks
    on = drop-cons ks done 0 l

    pub ongoing-stopped : (f : Refusal) → answer ≡ Err f → (carried_out s ks ≡ take done ks) × (Err f ≡ outcome (stopped_by s ks))
    unfolding carried_out stopped_by
    ongoing-stopped f e =
        let no : accepts now k ≡ false = ne_eqb (removal_refusal now k) 0 (λ (z : removal_refusal now k ≡ 0). refused-none (sym e ∙ says ∙ ap outcome z)) in (
          h.rest ∙ ap (λ (l : List ℕ). take done ks ++ carried_out now l) on ∙ rw no (append-nil (take done ks)),
          sym e ∙ says ∙ ap outcome (sym (h.stops ∙ ap (stopped_by now) on ∙ rw no)),
        )

    pub ongoing-next : answer ≡ Ok tt → Ongoing r s ks (done + 1) q' zs
    unfolding carried_out stopped_by eliminate
    ongoing-next z =
        let yes : accepts now k ≡ true = carried-out z in
        let one : take (done + 1) ks ≡ take done ks ++ (k ∷ []) = rw add-one (take-suc ks done 0 l) in
        let next : eliminate s (take (done + 1) ks) ≡ remove now k = ap (eliminate s) one ∙ eliminate-append s (take done ks) (k ∷ []) in
        let tail : drop (done + 1) ks ≡ drop (suc done) ks = ap (λ (i : ℕ). drop i ks) (add-one done) in
        let m : k is_one_of now.active = accepted-active now k (rw yes tt) in
        let agree = agree-remove (state_in left (active_of q) ys) now k seen (rw (now-active) m) in
        let fewer : left - 1 ≡ r.n_buses - (done + 1) = omega (arith, left-is) in
        let made : q.made ≡ r.made = ap (λ (q : KronReducer). q.made) h.left in
        let numbers : q.numbers ≡ r.numbers = ap (λ (q : KronReducer). q.numbers) h.left in
        let closed : padded (remove (state_in left (active_of q) ys) k).active ≡ padded (eliminate s (take (done + 1) ks)).active = ap padded (agree.active ∙ ap (λ (s : State). s.active) (sym next)) in
        record {
          within = omega arith;
          left = t.left z ∙ rw (made, fewer, numbers, closed);
          count = ap (λ (s : State). length s.active + (done + 1)) next ∙ omega (arith, length-remove now k now-rises m, h.count);
          shows = rw next (agree-shows (remove (state_in left (active_of q) ys) k) (remove now k) zs agree (t.shows z));
          rest =
              h.rest ∙ ap (λ (l : List ℕ). take done ks ++ carried_out now l) on
              ∙ rw yes (sym (ap₂ (λ (a b : List ℕ). a ++ b) one (ap₂ carried_out next tail) ∙ append_assoc (take done ks) (k ∷ []) (carried_out (remove now k) (drop (suc done) ks))));
          stops = h.stops ∙ ap (stopped_by now) on ∙ rw yes (sym (ap₂ stopped_by next tail));
        }

    -- and the slice that it leaves
    pub ongoing-left : answer ≡ Ok tt → (ys₀ : List Float) → ys ≡ left_by s ys₀ (take done ks) → length zs ≡ length ys → 2 * (left * left) ≤ length ys → zs ≡ left_by s ys₀ (take (done + 1) ks)
    unfolding left_by
    ongoing-left z ys₀ e long fits =
        let yes : accepts now k ≡ true = carried-out z in
        let m : k is_one_of now.active = accepted-active now k (rw yes tt) in
        let agree = agree-remove (state_in left (active_of q) ys) now k seen (rw (now-active) m) in
        let shown = agree-shows (remove (state_in left (active_of q) ys) k) (remove now k) zs agree (t.shows z) in
        let count = length-remove now k now-rises m in
        let fewer : length (remove now k).active ≡ left - 1 = omega (arith, now-length, count) in
        let one : take (done + 1) ks ≡ take done ks ++ (k ∷ []) = rw add-one (take-suc ks done 0 l) in
        over-front (remove now k) (left - 1) ys zs fewer shown long (le_trans (mul-le-mul_left 2 (mul-le-mul (omega arith) (omega arith))) fits) (t.behind z)
        ∙ ap (λ (l : List Float). rows (remove now k).entries (remove now k).active (remove now k).active ++ drop (2 * (length (remove now k).active * length (remove now k).active)) l) e
        ∙ sym (left-append s ys₀ (take done ks) (k ∷ []))
        ∙ ap (left_by s ys₀) (sym one)

-- how a list of removals ends
module _ (r : KronReducer) (ys : List Float) (h : Holds r ys) (ks : List ℕ) where
  abbrev first : State
  first = state_in r.n_buses (active_of r) ys

  pub took-so-far : (done : ℕ) (answer : Result (Unit {0}) Refusal) (q : KronReducer) (zs : List Float) → Ongoing r first ks done q zs → carried_out first ks ≡ take done ks
      → answer ≡ outcome (stopped_by first ks) → zs ≡ left_by first ys (take done ks) → RemovedAll r ys ks (record { answer = answer; removed = done }) q zs
  took-so-far done answer q zs o e f slice = record {
    says = f;
    count = sym (ap length e ∙ length-take-le done ks o.within);
    within = omega (arith, o.count, holds-long r ys h);
    left = o.left ∙ ap (λ (ts : List ℕ). reducer_of r.made (r.n_buses - done) (padded (eliminate first ts).active) r.numbers) (sym e);
    shows = rw e o.shows;
    slice = slice ∙ ap (left_by first ys) (sym e);
  }

  pub took-all : (done all : ℕ) (q : KronReducer) (zs : List Float) → Ongoing r first ks done q zs → done ≡ all → length ks ≤ done
      → zs ≡ left_by first ys (take done ks) → RemovedAll r ys ks (record { answer = Ok tt; removed = all }) q zs
  unfolding carried_out stopped_by
  took-all done all q zs o same l slice =
      let nothing : drop done ks ≡ [] = drop_of_length-le ks l in
      rw (← same)
      (took-so-far done (Ok tt) q zs o
      (o.rest ∙ ap (λ (l : List ℕ). take done ks ++ carried_out (eliminate first (take done ks)) l) nothing ∙ append-nil (take done ks))
      (none (tt {0}) _ (o.stops ∙ ap (stopped_by (eliminate first (take done ks))) nothing))
      slice)
