-- What a run leaves has room: the making is accepted and the record is one that removals leave, so its buses are few, and the text of every run fits the output.
use Rattle.prelude.proofs.Prelude.{◌≡◌, refl, sym, ap, ◌∙◌, subst, ◌⊎◌, inl, inr, Bool, true, false, cond, List, [], ◌∷◌, ◌++◌, ℕ, zero, suc, ◌+◌, ◌-◌, ◌*◌, ◌≤◌, ◌<◌, arith, T, length, get_or, replicate, Float, ◌^◌, map, mul-le-mul, le_trans, le_of_eq, leb, lit≤, leb→le, length-append}
use Rattle.std.specs.Prelude.{Option, Some, None, Result, Ok, Err}
use Rattle.reduce_text.specs.declared.read.Trouble.TheVariants.{RefusedDrop, BadLine}
use Rattle.binary64.specs.Values.{all_finite}
use Rattle.complex.specs.{entry_at}
use Rattle.complex.proofs.Finite.{none, all_more, all_join}
use Rattle.refusals.specs.declared.Refusal.{Refusal}
use Rattle.refusals.specs.Refusals.{limit, not_active, small_entry, computed_not_finite, outcome, number, number_of as answer_number, answered}
use Rattle.kron_reduction.specs.declared.KronReducer.{KronReducer}
use Rattle.kron_reduction.specs.Kron.{State, start, eliminate, carried_out, stopped_by}
use Rattle.lists.specs.Buses.{mem, rising, repeats, rows_in}
use Rattle.kron_reduction.specs.Reducer.{padded, reducer_input_of, making_refusal, record_of, active_of, sound, made, ReducerState, reducer_state_of, stored, leaves, removed_rows, removals_refusal, after_bus}
use Rattle.kron_reduction.specs.Reading.{active_numbers}
use Rattle.kron_reduction.proofs.States.{FromState, stop-cases, FiniteIn, finite-eliminate, Regular, regular-start, regular-eliminate, taken-accepted}
use Rattle.lists.proofs.Naming.{repeats-more}
use Rattle.kron_reduction.proofs.Making.{making-none}
use Rattle.kron_reduction.proofs.FiniteAnswers.{finite-start}
use Rattle.kron_reduction.proofs.Reducer.{sound-record_of, active-room, length-stored, row_major-all, removed-stored, refusal-stored, leaves-stored}
use Rattle.text_numbers.specs.Bytes.{Bytes}
use Rattle.text_numbers.proofs.WordSizes.{decimal-below}
use Rattle.reduce_text.specs.Lines.{lines, buses_of, number_of, drop_of, entry_of}
use Rattle.reduce_text.proofs.LineLaws.{entry-finite}
use Rattle.reduce_text.specs.Reading.{most, End, Run, ended, no_reducer, Onward, of_word, on_number, on_outcome, on_entry, after_drop, drops, finish, entries, bad_at, named, first, run_of}

-- `reduce` reads no more buses than the library takes
pub most-limit : most ≤ limit
unfolding most
most-limit = lit≤ tt

-- ---- the numbers of the buses

-- each is below 2^32
abbrev pub Small : List ℕ → Type 0
Small ks = (i : ℕ) → get_or ks i 0 < 2 ^ 32

pub small-append : (ks ls : List ℕ) → Small ks → Small ls → Small (ks ++ ls)
small-append [] ls f g i = g i
small-append (k ∷ ks) ls f g zero = f zero
small-append (k ∷ ks) ls f g (suc i) = small-append ks ls (λ j. f (suc j)) g i

small-zeros : (m : ℕ) → Small (replicate m 0)
small-zeros zero i = lit≤ tt
small-zeros (suc m) zero = lit≤ tt
small-zeros (suc m) (suc i) = small-zeros m i

small_one : (k : ℕ) → k < 2 ^ 32 → Small (k ∷ [])
small_one k h zero = h
small_one k h (suc i) = lit≤ tt

small-map : (ns : List ℕ) → Small ns → (xs : List ℕ) → Small (map (λ (i : ℕ). get_or ns i 0) xs)
small-map ns f [] i = lit≤ tt
small-map ns f (x ∷ xs) zero = f x
small-map ns f (x ∷ xs) (suc i) = small-map ns f xs i

-- so many numbers, as they are read: none stands twice
pub record Names (k : ℕ) (ns : List ℕ) : Type 0 where
  pub many : length ns ≡ k
  pub distinct : repeats ns ≡ false
  pub small : Small ns

pub names-none : Names 0 []
unfolding repeats
names-none = record { many = refl; distinct = refl; small = λ i. lit≤ tt }

pub names_more : (k : ℕ) (ns : List ℕ) (b : ℕ) → Names k ns → b < 2 ^ 32 → mem b ns ≡ false → Names (k + 1) (ns ++ (b ∷ []))
names_more k ns b h l m = record {
  many = omega (arith, length-append ns (b ∷ []), h.many);
  distinct = repeats-more ns b h.distinct m;
  small = small-append ns (b ∷ []) h.small (small_one b l);
}

-- ---- the numbers of entry lines are finite

pub finite-more : (ys : List Float) (l : Bytes) (a b : ℕ) → T (all_finite ys) → entry_of l ≡ Some (a, b) → T (all_finite (ys ++ (of_word a ∷ of_word b ∷ [])))
finite-more ys l a b h e =
    let (x, y) = entry-finite l a b e in
    all_join ys (of_word a ∷ of_word b ∷ []) h (all_more (of_word a) (of_word b ∷ []) x (all_more (of_word b) [] y none))

-- ---- record and matrix are the layout of a state

pub record StoredRun (n : ℕ) (ns : List ℕ) (r : KronReducer) (ys : List Float) : Type 0 where
  pub state : State
  pub small : n ≤ most
  pub names : Names n ns
  pub regular : Regular n state
  pub fine : FiniteIn state
  pub stored_is : reducer_state_of r ys ≡ stored n ns state

pub making-accepted : (n : ℕ) (ns : List ℕ) (ys : List Float) → n ≤ most → Names n ns → length ys ≡ 2 * (n * n) → T (all_finite ys) → making_refusal (reducer_input_of n ys ns) ≡ 0
making-accepted n ns ys h m e f =
    sym (making-none n ys ns (le_trans h most-limit) (le_trans (le_of_eq m.many) (le_trans h most-limit)) e m.many m.distinct f)

pub fresh : (n : ℕ) (ns : List ℕ) (ys : List Float) → n ≤ most → Names n ns → length ys ≡ 2 * (n * n) → T (all_finite ys) → reducer_state_of (made (reducer_input_of n ys ns)) ys ≡ stored n ns (start n (entry_at n ys))
unfolding made stored
fresh n ns ys h m e f = rw (making-accepted n ns ys h m e f, row_major-all n ys e)

pub stored-new : (n : ℕ) (ns : List ℕ) (ys : List Float) → n ≤ most → Names n ns → length ys ≡ 2 * (n * n) → T (all_finite ys) → StoredRun n ns (made (reducer_input_of n ys ns)) ys
stored-new n ns ys h m e f = record {
  state = start n (entry_at n ys);
  small = h;
  names = m;
  regular = regular-start n (entry_at n ys);
  fine = finite-start n ys e f;
  stored_is = fresh n ns ys h m e f;
}

module _ (n : ℕ) (ns : List ℕ) (r : KronReducer) (ys : List Float) (k : ℕ) (h : StoredRun n ns r ys) where
  abbrev pub within : n ≤ limit
  within = le_trans h.small most-limit

  -- what the removal leaves
  abbrev pub left : State
  left = eliminate h.state (carried_out h.state (rows_in ns (k ∷ [])))

  pub left_is : reducer_state_of (after_bus r ys k).out.rec (after_bus r ys k).slice ≡ stored n ns left
  unfolding after_bus
  left_is =
      let s = h.state in
      let ts = carried_out s (rows_in ns (k ∷ [])) in
      ap (λ (x : ReducerState). leaves x.rec x.slice (removed_rows x.rec x.slice (k ∷ []))) h.stored_is
      ∙ ap (leaves (stored n ns s).rec (stored n ns s).slice) (removed-stored n ns s within h.names.many h.names.distinct h.regular h.fine (k ∷ []) (lit≤ tt))
      ∙ leaves-stored n ns s within h.names.many h.names.distinct h.regular ts (taken-accepted s (rows_in ns (k ∷ [])))

  pub stored-bus : StoredRun n ns (after_bus r ys k).out.rec (after_bus r ys k).slice
  stored-bus = record {
    state = left;
    small = h.small;
    names = h.names;
    regular = regular-eliminate n h.state (carried_out h.state (rows_in ns (k ∷ []))) h.regular;
    fine = finite-eliminate h.state (carried_out h.state (rows_in ns (k ∷ []))) h.fine (taken-accepted h.state (rows_in ns (k ∷ [])));
    stored_is = left_is;
  }

-- ---- a sound record of few buses, their numbers below 2^32, and the entries between them are there

pub record Fit (r : KronReducer) (ys : List Float) : Type 0 where
  pub size : r.made ≤ most
  pub is-sound : T (sound r)
  pub few : r.n_buses ≤ most
  pub entries : 2 * (r.n_buses * r.n_buses) ≤ length ys
  pub below : Small (active_numbers r)

none-sound : T (sound no_reducer)
none-sound = sound-record_of 0 [] [] (omega arith) (unfold rising in tt) tt refl (unfold repeats in refl)

pub fit_none : (ys : List Float) → Fit no_reducer ys
fit_none ys = record { size = omega arith; is-sound = none-sound; few = omega arith; entries = omega arith; below = λ i. lit≤ tt }

pub fit-stored : (n : ℕ) (ns : List ℕ) (r : KronReducer) (ys : List Float) → StoredRun n ns r ys → Fit r ys
unfolding stored
fit-stored n ns r ys h =
    let s = h.state in
    let small' = le_trans h.small most-limit in
    let m = h.names in
    let room : length s.active ≤ n = active-room n ns s small' m.many m.distinct h.regular in
    let rec : r ≡ record_of n ns s.active = ap (λ (x : ReducerState). x.rec) h.stored_is in
    let len : length ys ≡ 2 * (n * n) = ap (λ (x : ReducerState). length x.slice) h.stored_is ∙ length-stored n ns s small' m.many m.distinct h.regular in
    rw rec
    (record {
      size = h.small;
      is-sound = sound-record_of n ns s.active (le_trans room small') h.regular.rises h.regular.below m.many m.distinct;
      few = le_trans room h.small;
      entries = let sq : length s.active * length s.active ≤ n * n = mul-le-mul room room in omega (arith, sq, len);
      below = small-map (padded ns) (small-append ns (replicate (limit - length ns) 0) m.small (small-zeros (limit - length ns))) (active_of (record_of n ns s.active));
    })

-- ---- a drop that is refused: 11, 12 or 20, since the record is sound and the entries are finite

abbrev pub DropTold : End → Type 0
DropTold (Ok u) = Unit {0}
DropTold (Err (RefusedDrop f k)) = (number f ≡ not_active) ⊎ ((number f ≡ small_entry) ⊎ (number f ≡ computed_not_finite))
DropTold (Err (BadLine p)) = Unit {0}

told-number : (x : ℕ) (f : Refusal) → Err f ≡ outcome x → FromState x → (number f ≡ not_active) ⊎ ((number f ≡ small_entry) ⊎ (number f ≡ computed_not_finite))
unfolding answered
told-number zero f e c = cc
told-number (suc x) f e (inl z) = absurd (omega arith)
told-number (suc x) f e (inr (inl z)) = inl (ap answer_number (e ∙ ap outcome z))
told-number (suc x) f e (inr (inr (inl z))) = inr (inl (ap answer_number (e ∙ ap outcome z)))
told-number (suc x) f e (inr (inr (inr z))) = inr (inr (ap answer_number (e ∙ ap outcome z)))

drop-told : (n : ℕ) (ns : List ℕ) (r : KronReducer) (ys : List Float) (k : ℕ) (f : Refusal) → StoredRun n ns r ys → (after_bus r ys k).out.answer ≡ Err f → DropTold (Err (RefusedDrop f k))
unfolding after_bus
drop-told n ns r ys k f h e =
    let s = h.state in
    let met : removals_refusal r ys (k ∷ []) ≡ stopped_by s (rows_in ns (k ∷ [])) =
    ap (λ (x : ReducerState). removals_refusal x.rec x.slice (k ∷ [])) h.stored_is
    ∙ refusal-stored n ns s (within n ns r ys k h) h.names.many h.names.distinct h.regular h.fine (k ∷ []) (lit≤ tt) in
    told-number (stopped_by s (rows_in ns (k ∷ []))) f (sym e ∙ ap outcome met) (stop-cases s (rows_in ns (k ∷ [])))

-- ---- every run

pub record FitRun (R : Run) : Type 0 where
  pub fit : Fit R.reading.rec R.numbers
  pub told : DropTold R.reading.end

none-run : (p : ℕ) (ys : List Float) → FitRun (ended (Err (BadLine p)) no_reducer ys)
none-run p ys = record { fit = fit_none ys; told = tt }

-- what follows the lines that are read
abbrev pub FitOnward : ℕ → List ℕ → Onward → Type 0
FitOnward n ns go = (p : ℕ) (r : KronReducer) (ys : List Float) (ls : List Bytes) → StoredRun n ns r ys → FitRun (go p r ys ls)

pub finish-fit : (n : ℕ) (ns : List ℕ) → FitOnward n ns finish
unfolding finish
finish-fit n ns p r ys [] h = record { fit = fit-stored n ns r ys h; told = tt }
finish-fit n ns p r ys (l ∷ ls) h = record { fit = fit-stored n ns r ys h; told = tt }

pub drops-fit : (n : ℕ) (ns : List ℕ) → FitOnward n ns (drops finish)
unfolding drops
drops-fit n ns p r ys [] h = finish-fit n ns p r ys [] h
drops-fit n ns p r ys (l ∷ ls) h = number (drop_of l) (λ r' ys' h'. drops-fit n ns (p + 1) r' ys' ls h')
  where
    ending : (o : Result (Unit {0}) Refusal) (k : ℕ) (r' : KronReducer) (ys' : List Float) → (after_bus r ys k).out.answer ≡ o → StoredRun n ns r' ys'
        → ((r'' : KronReducer) (ys'' : List Float) → StoredRun n ns r'' ys'' → FitRun (drops finish (p + 1) r'' ys'' ls))
        → FitRun (on_outcome o k r' ys' (λ r'' ys''. drops finish (p + 1) r'' ys'' ls))
    ending (Ok u) k r' ys' e h' f = f r' ys' h'
    ending (Err x) k r' ys' e h' f = record { fit = fit-stored n ns r' ys' h'; told = drop-told n ns r ys k x h e }

    number : (w : Option ℕ) → ((r'' : KronReducer) (ys'' : List Float) → StoredRun n ns r'' ys'' → FitRun (drops finish (p + 1) r'' ys'' ls))
        → FitRun (on_number w (λ k. after_drop k (after_bus r ys k) (λ r' ys'. drops finish (p + 1) r' ys' ls)) (finish p r ys (l ∷ ls)))
    number (Some k) f =
        ending (after_bus r ys k).out.answer k (after_bus r ys k).out.rec (after_bus r ys k).slice refl (stored-bus n ns r ys k h) f
    number None f = finish-fit n ns p r ys (l ∷ ls) h

pub entries_fit : (n : ℕ) (ns : List ℕ) (k p : ℕ) (ys : List Float) (ls : List Bytes) → n ≤ most → Names n ns → length ys + 2 * k ≡ 2 * (n * n) → T (all_finite ys)
    → FitRun (entries (drops finish) n ns k p ys ls)
unfolding entries
entries_fit n ns zero p ys ls h m e g = drops-fit n ns p (made (reducer_input_of n ys ns)) ys ls (stored-new n ns ys h m (omega arith) g)
entries_fit n ns (suc k) p ys [] h m e g = none-run p ys
entries_fit n ns (suc k) p ys (l ∷ ls) h m e g = found (entry_of l) refl (λ zs f i. entries_fit n ns k (p + 1) zs ls h m f i)
  where
    found : (w : Option (ℕ × ℕ)) → entry_of l ≡ w → ((zs : List Float) → length zs + 2 * k ≡ 2 * (n * n) → T (all_finite zs) → FitRun (entries (drops finish) n ns k (p + 1) zs ls))
        → FitRun (on_entry w (λ a b. entries (drops finish) n ns k (p + 1) (ys ++ (of_word a ∷ of_word b ∷ [])) ls) (ended (Err (BadLine p)) no_reducer ys))
    found (Some (a, b)) q f = f (ys ++ (of_word a ∷ of_word b ∷ [])) (omega (arith, length-append ys (of_word a ∷ of_word b ∷ []))) (finite-more ys l a b g q)
    found None q f = none-run p ys

pub named-fit : (n k j p : ℕ) (ns : List ℕ) (ls : List Bytes) → n ≤ most → Names j ns → j + k ≡ n → FitRun (named (drops finish) n k p ns ls)
unfolding named
named-fit n zero j p ns ls h m e = entries_fit n ns (n * n) p [] ls h (subst (λ (i : ℕ). Names i ns) (let z : j ≡ n = omega arith in z) m) (omega arith) none
named-fit n (suc k) j p ns [] h m e = none-run p []
named-fit n (suc k) j p ns (l ∷ ls) h m e = number (number_of l) refl (λ ms g. named-fit n k (j + 1) (p + 1) ms ls h g (omega arith))
  where
    fresh-one : (b : ℕ) → b < 2 ^ 32 → (t : Bool) → mem b ns ≡ t → ((ms : List ℕ) → Names (j + 1) ms → FitRun (named (drops finish) n k (p + 1) ms ls))
        → FitRun (cond t (bad_at p) (named (drops finish) n k (p + 1) (ns ++ (b ∷ [])) ls))
    fresh-one b l true q f = none-run p []
    fresh-one b l false q f = f (ns ++ (b ∷ [])) (names_more j ns b m l q)

    number : (w : Option ℕ) → number_of l ≡ w → ((ms : List ℕ) → Names (j + 1) ms → FitRun (named (drops finish) n k (p + 1) ms ls))
        → FitRun (on_number w (λ b. cond (mem b ns) (bad_at p) (named (drops finish) n k (p + 1) (ns ++ (b ∷ [])) ls)) (bad_at p))
    number (Some b) q f = fresh-one b (decimal-below l b q) (mem b ns) refl f
    number None q f = none-run p []

pub run-fit : (input : Bytes) → FitRun (run_of input)
unfolding run_of first
run-fit input = go (lines input)
  where
    size : (n : ℕ) (b : Bool) → (T b → n ≤ most) → (ls : List Bytes) → FitRun (cond b (named (drops finish) n n 2 [] ls) (bad_at 1))
    size n true f ls = named-fit n n 0 2 [] ls (f tt) names-none (omega arith)
    size n false f ls = none-run 1 []

    number : (w : Option ℕ) (ls : List Bytes) → FitRun (on_number w (λ n. cond (leb n most) (named (drops finish) n n 2 [] ls) (bad_at 1)) (bad_at 1))
    number (Some n) ls = size n (leb n most) (leb→le n most) ls
    number None ls = none-run 1 []

    go : (ls : List Bytes) → FitRun (first (drops finish) ls)
    go [] = none-run 1 []
    go (l ∷ ls) = number (buses_of l) ls

-- a drop is refused by 11, 12 or 20 alone: the record's refusals, and 19, never come
pub drops-told : (input : Bytes) (f : Refusal) (k : ℕ) → (run_of input).reading.end ≡ Err (RefusedDrop f k) → (number f ≡ not_active) ⊎ ((number f ≡ small_entry) ⊎ (number f ≡ computed_not_finite))
drops-told input f k e = subst DropTold e (run-fit input).told
