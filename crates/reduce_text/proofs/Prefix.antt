-- The program reads no further than its buffer: what it prints for an input is what it prints for the first so many bytes of it.
use Rattle.prelude.proofs.Prelude.{◌≡◌, refl, sym, ap, ◌∙◌, subst, Bool, true, false, cond, List, [], ◌∷◌, ◌++◌, ℕ, zero, suc, ◌+◌, ◌-◌, ◌*◌, ◌≤◌, ◌<◌, arith, T, eqb, length, take, drop, Float, le_trans, mul-le-mul, eq-eqb, ne_eqb, leb, lit≤, leb→le, length-append, length-take, length-drop, length-take-le, is_true}
use Rattle.std.specs.Prelude.{Option, Some, None, Result, Ok, Err}
use Rattle.reduce_text.specs.declared.read.Trouble.TheVariants.{BadLine}
use native.Mathlib.Decide.{dec_lt, ℕ_discrete}
use lib.Seq.{take-nil}
use Rattle.lists.proofs.Order.{length-up_to}
use Rattle.binary64.specs.Values.{all_finite}
use Rattle.complex.proofs.Finite.{none}
use Rattle.refusals.specs.declared.Refusal.{Refusal}
use Rattle.refusals.specs.Refusals.{outcome, answered}
use Rattle.kron_reduction.specs.declared.KronReducer.{KronReducer}
use Rattle.lists.specs.Buses.{mem, ◌is_one_of◌, others, place, rows_in}
use Rattle.kron_reduction.specs.Kron.{State, accepts, removal_refusal, eliminate, carried_out, stopped_by}
use Rattle.kron_reduction.specs.Reducer.{reducer_input_of, removals_refusal, made, after_bus, ReducerState, stored}
use Rattle.lists.proofs.Buses.{others-one, place-lt}
use Rattle.kron_reduction.proofs.States.{Regular, accepted-active, eliminate-active}
use Rattle.kron_reduction.proofs.Reducer.{refusal-stored}
use Rattle.text_numbers.specs.Bytes.{Bytes, ascii}
use Rattle.text_numbers.proofs.WordSizes.{decimal-below}
use Rattle.reduce_text.specs.Lines.{lines, span, buses_of, number_of, drop_of, entry_of}
use Rattle.reduce_text.specs.Reading.{most, ended, no_reducer, of_word, on_number, on_outcome, on_entry, after_drop, drops, finish, entries, bad_at, named, first, run_of}
use Rattle.reduce_text.specs.Printing.{text}
use Rattle.reduce_text.specs.Reduce.{printed, input_length}
use Rattle.reduce_text.proofs.LineLaws.{span-le, entry_length}
use Rattle.reduce_text.proofs.ReadLaws.{first-and-rest, entry-33}
use Rattle.reduce_text.proofs.NumberSizes.{number_size, number-below, number-long, word_size, word-long}
use Rattle.reduce_text.proofs.Cutting.{first_line, behind, cut-same, cut-long}
use Rattle.reduce_text.proofs.Fit.{Names, names-none, names_more, finite-more, StoredRun, stored-new, fresh, within, left_is, stored-bus}

-- ---- a drop that is carried out: one bus fewer is left

outcome-done : (f : ℕ) → outcome f ≡ Ok tt → f ≡ 0
unfolding answered
outcome-done zero e = refl
outcome-done (suc f) e = cc

none-refused : (x : ℕ) → cond (eqb x 0) 0 x ≡ 0 → T (eqb x 0)
none-refused x e = go (ℕ_discrete x 0)
  where
    go : Dec (x ≡ 0) → T (eqb x 0)
    go (yes p) = subst T (sym (eq-eqb x 0 p)) tt
    go (no n) = absurd (n (rw (ne_eqb x 0 n) at e))

stop-accepts : (s : State) (i : ℕ) → stopped_by s (i ∷ []) ≡ 0 → T (accepts s i)
unfolding stopped_by
stop-accepts s i e = none-refused (removal_refusal s i) e

taken-one : (s : State) (i : ℕ) → T (accepts s i) → carried_out s (i ∷ []) ≡ i ∷ []
unfolding carried_out
taken-one s i t = rw (is_true (accepts s i) t)

length-less : (i : ℕ) (s : State) (n : ℕ) → Regular n s → i is_one_of s.active → length (others (i ∷ []) s.active) < length s.active
length-less i s n g m =
    let xs = s.active in
    let p = place i xs in
    let l : p < length xs = place-lt i xs m in
    omega
    (arith, ap length (others-one i xs g.rises m), length-append (take p xs) (drop (suc p) xs), length-take-le p xs (omega arith), length-drop (suc p) xs)

module _ (n : ℕ) (ns : List ℕ) (r : KronReducer) (ys : List Float) (k : ℕ) (h : StoredRun n ns r ys) (e : (after_bus r ys k).out.answer ≡ Ok tt) where
  no-refusal : removals_refusal r ys (k ∷ []) ≡ 0
  unfolding after_bus
  no-refusal = outcome-done (removals_refusal r ys (k ∷ [])) e

  accepted : T (accepts h.state (place k ns))
  unfolding rows_in
  accepted =
      stop-accepts h.state (place k ns)
      (sym (refusal-stored n ns h.state (within n ns r ys k h) h.names.many h.names.distinct h.regular h.fine (k ∷ []) (lit≤ tt))
      ∙ sym (ap (λ (x : ReducerState). removals_refusal x.rec x.slice (k ∷ [])) h.stored_is)
      ∙ no-refusal)

  pub bus-fewer : (after_bus r ys k).out.rec.n_buses < r.n_buses
  unfolding stored rows_in
  bus-fewer =
      let s = h.state in
      let i = place k ns in
      omega
      (arith, ap (λ (x : ReducerState). x.rec.n_buses) (left_is n ns r ys k h), ap (λ (x : ReducerState). x.rec.n_buses) h.stored_is, ap (λ (ks : List ℕ). length (eliminate s ks).active) (taken-one s i accepted), ap length (eliminate-active s (i ∷ [])), length-less i s n h.regular (accepted-active s i accepted))

-- ---- the drop lines

-- so many bytes are enough for the drops of c buses, each number with ten digits, and one line more
abbrev enough : ℕ → ℕ → Type 0
enough c m = 16 * c + 34 ≤ m

abbrev Same : ℕ → KronReducer → List Float → Bytes → ℕ → Type 0
Same p r ys d m = drops finish p r ys (lines d) ≡ drops finish p r ys (lines (take m d))

module _ (n : ℕ) (ns : List ℕ) (p : ℕ) (r : KronReducer) (ys : List Float) (h : StoredRun n ns r ys)
    (rest : (r' : KronReducer) (ys' : List Float) (d : Bytes) (m : ℕ) → StoredRun n ns r' ys' → r'.n_buses < r.n_buses → enough r'.n_buses m → Same (p + 1) r' ys' d m) where
  -- a line within the cut
  short : (d : Bytes) (m : ℕ) → 0 < length d → span d < 34 → enough r.n_buses m → Same p r ys d m
  unfolding drops finish
  short d m nonempty l room =
      ap (drops finish p r ys) (first-and-rest d nonempty)
      ∙ number (drop_of (first_line d)) refl
      ∙ sym (ap (drops finish p r ys) (cut-same m d nonempty (omega arith)))
    where
      ls : List Bytes
      ls = lines (behind d)

      ls' : List Bytes
      ls' = lines (take (m - suc (span d)) (behind d))

      done : (k : ℕ) → drop_of (first_line d) ≡ Some k → (o : Result (Unit {0}) Refusal) → (after_bus r ys k).out.answer ≡ o
          → on_outcome o k (after_bus r ys k).out.rec (after_bus r ys k).slice (λ r' ys'. drops finish (p + 1) r' ys' (lines (behind d)))
          ≡ on_outcome o k (after_bus r ys k).out.rec (after_bus r ys k).slice (λ r' ys'. drops finish (p + 1) r' ys' (lines (take (m - suc (span d)) (behind d))))
      done k e (Ok u) a =
          let fewer : (after_bus r ys k).out.rec.n_buses < r.n_buses = bus-fewer n ns r ys k h a in
          let size : length (first_line d) ≤ 15 = number_size (ascii "drop ") (first_line d) k 10 e (le_trans (number-below (ascii "drop ") (first_line d) k e) (lit≤ tt)) (lit≤ tt) in
          rest (after_bus r ys k).out.rec (after_bus r ys k).slice (behind d) (m - suc (span d)) (stored-bus n ns r ys k h) fewer
          (omega (arith, length-take (span d) d, span-le d, size, fewer, room))
      done k e (Err f) a = refl

      number : (w : Option ℕ) → drop_of (first_line d) ≡ w
          → on_number (drop_of (first_line d)) (λ k. after_drop k (after_bus r ys k) (λ r' ys'. drops finish (p + 1) r' ys' (lines (behind d)))) (finish p r ys (first_line d ∷ lines (behind d)))
          ≡ on_number (drop_of (first_line d)) (λ k. after_drop k (after_bus r ys k) (λ r' ys'. drops finish (p + 1) r' ys' (lines (take (m - suc (span d)) (behind d))))) (finish p r ys (first_line d ∷ lines (take (m - suc (span d)) (behind d))))
      number (Some k) e = rw e (done k e (after_bus r ys k).out.answer refl)
      number None e = rw e

  -- a line that the cut may go through
  long : (d : Bytes) (m : ℕ) → 34 ≤ span d → enough r.n_buses m → Same p r ys d m
  unfolding drops finish
  long d m l room =
      let c = cut-long m d l (omega arith) in
      ap (drops finish p r ys) (first-and-rest d (omega (arith, span-le d)))
      ∙ rw (number-long (ascii "drop ") (first_line d) (lit≤ tt) (omega (arith, length-take (span d) d, span-le d)))
      (sym (ap (drops finish p r ys) c.cut-is ∙ rw (number-long (ascii "drop ") c.line (lit≤ tt) c.long)))

  pub one_line : (d : Bytes) (m : ℕ) → enough r.n_buses m → Same p r ys d m
  one_line [] m room = ap (λ (d : Bytes). drops finish p r ys (lines d)) (sym (take-nil m))
  one_line (b ∷ bs) m room = go (dec_lt (span (b ∷ bs)) 34)
    where
      go : Dec (span (b ∷ bs) < 34) → Same p r ys (b ∷ bs) m
      go (yes l) = short (b ∷ bs) m (omega arith) l room
      go (no l) = long (b ∷ bs) m (omega arith) room

pub drops-cut : (c n : ℕ) (ns : List ℕ) (p : ℕ) (r : KronReducer) (ys : List Float) (d : Bytes) (m : ℕ) → StoredRun n ns r ys → r.n_buses ≤ c → enough r.n_buses m → Same p r ys d m
drops-cut zero n ns p r ys d m h few room = one_line n ns p r ys h (λ r' ys' d' m' h' l e. absurd (omega arith)) d m room
drops-cut (suc c) n ns p r ys d m h few room =
    one_line n ns p r ys h (λ r' ys' d' m' h' l e. drops-cut c n ns (p + 1) r' ys' d' m' h' (omega arith) e) d m room

-- ---- the entry lines

abbrev SameEntries : ℕ → List ℕ → ℕ → ℕ → List Float → Bytes → ℕ → Type 0
SameEntries n ns k p ys d m = entries (drops finish) n ns k p ys (lines d) ≡ entries (drops finish) n ns k p ys (lines (take m d))

module _ (n : ℕ) (ns : List ℕ) (k p : ℕ) (ys : List Float)
    (fine : T (all_finite ys)) (rest : (zs : List Float) (d : Bytes) (m : ℕ) → length zs + 2 * k ≡ 2 * (n * n) → T (all_finite zs) → 34 * k + 16 * n + 34 ≤ m → SameEntries n ns k (p + 1) zs d m) where
  entry-short : (d : Bytes) (m : ℕ) → 0 < length d → span d < 34 → length ys + 2 * suc k ≡ 2 * (n * n) → 34 * suc k + 16 * n + 34 ≤ m → SameEntries n ns (suc k) p ys d m
  unfolding entries
  entry-short d m nonempty l e room =
      ap (entries (drops finish) n ns (suc k) p ys) (first-and-rest d nonempty)
      ∙ found (entry_of (first_line d)) refl
      ∙ sym (ap (entries (drops finish) n ns (suc k) p ys) (cut-same m d nonempty (omega arith)))
    where
      found : (w : Option (ℕ × ℕ)) → entry_of (first_line d) ≡ w
          → on_entry (entry_of (first_line d)) (λ a b. entries (drops finish) n ns k (p + 1) (ys ++ (of_word a ∷ of_word b ∷ [])) (lines (behind d))) (ended (Err (BadLine p)) no_reducer ys)
          ≡ on_entry (entry_of (first_line d)) (λ a b. entries (drops finish) n ns k (p + 1) (ys ++ (of_word a ∷ of_word b ∷ [])) (lines (take (m - suc (span d)) (behind d)))) (ended (Err (BadLine p)) no_reducer ys)
      found (Some (a, b)) f =
          rw f
          (rest (ys ++ (of_word a ∷ of_word b ∷ [])) (behind d) (m - suc (span d)) (omega (arith, length-append ys (of_word a ∷ of_word b ∷ []))) (finite-more ys (first_line d) a b fine f)
          (omega (arith, entry-33 (first_line d) a b f, length-take (span d) d, span-le d, room)))
      found None f = rw f

  entry-long : (d : Bytes) (m : ℕ) → 34 ≤ span d → 34 ≤ m → SameEntries n ns (suc k) p ys d m
  unfolding entries
  entry-long d m l room =
      let c = cut-long m d l room in
      ap (entries (drops finish) n ns (suc k) p ys) (first-and-rest d (omega (arith, span-le d)))
      ∙ rw (entry_length (first_line d) (omega (arith, length-take (span d) d, span-le d)))
      (sym (ap (entries (drops finish) n ns (suc k) p ys) c.cut-is ∙ rw (entry_length c.line (omega (arith, c.long)))))

  one_entry : (d : Bytes) (m : ℕ) → length ys + 2 * suc k ≡ 2 * (n * n) → 34 * suc k + 16 * n + 34 ≤ m → SameEntries n ns (suc k) p ys d m
  one_entry [] m e room = ap (λ (d : Bytes). entries (drops finish) n ns (suc k) p ys (lines d)) (sym (take-nil m))
  one_entry (b ∷ bs) m e room = go (dec_lt (span (b ∷ bs)) 34)
    where
      go : Dec (span (b ∷ bs) < 34) → SameEntries n ns (suc k) p ys (b ∷ bs) m
      go (yes l) = entry-short (b ∷ bs) m (omega arith) l e room
      go (no l) = entry-long (b ∷ bs) m (omega arith) (omega arith)

made-buses : (n : ℕ) (ns : List ℕ) (ys : List Float) → n ≤ most → Names n ns → length ys ≡ 2 * (n * n) → T (all_finite ys) → (made (reducer_input_of n ys ns)).n_buses ≡ n
unfolding stored
made-buses n ns ys h g e f = ap (λ (x : ReducerState). x.rec.n_buses) (fresh n ns ys h g e f) ∙ length-up_to n

pub entries-cut : (n : ℕ) (ns : List ℕ) (k p : ℕ) (ys : List Float) (d : Bytes) (m : ℕ) → n ≤ most → Names n ns → length ys + 2 * k ≡ 2 * (n * n) → T (all_finite ys) → 34 * k + 16 * n + 34 ≤ m → SameEntries n ns k p ys d m
unfolding entries
entries-cut n ns zero p ys d m h g e fine room =
    let b : (made (reducer_input_of n ys ns)).n_buses ≡ n = made-buses n ns ys h g (omega arith) fine in
    drops-cut n n ns p (made (reducer_input_of n ys ns)) ys d m (stored-new n ns ys h g (omega arith) fine) (omega arith) (omega arith)
entries-cut n ns (suc k) p ys d m h g e fine room =
    one_entry n ns k p ys fine (λ zs d' m' e' fine' room'. entries-cut n ns k (p + 1) zs d' m' h g e' fine' room') d m e room

-- ---- the number lines

-- so many bytes are enough for k numbers of n, each of ten digits, and the lines behind them
abbrev EnoughNames : ℕ → ℕ → ℕ → Type 0
EnoughNames n k m = 11 * k + 34 * (n * n) + 16 * n + 34 ≤ m

abbrev SameNames : ℕ → ℕ → ℕ → List ℕ → Bytes → ℕ → Type 0
SameNames n k p ns d m = named (drops finish) n k p ns (lines d) ≡ named (drops finish) n k p ns (lines (take m d))

module _ (n k j p : ℕ) (ns : List ℕ) (g : Names j ns)
    (rest : (ms : List ℕ) (d : Bytes) (m : ℕ) → Names (j + 1) ms → EnoughNames n k m → SameNames n k (p + 1) ms d m) where
  name-short : (d : Bytes) (m : ℕ) → 0 < length d → span d < 34 → EnoughNames n (suc k) m → SameNames n (suc k) p ns d m
  unfolding named
  name-short d m nonempty l room =
      ap (named (drops finish) n (suc k) p ns) (first-and-rest d nonempty)
      ∙ number (number_of (first_line d)) refl
      ∙ sym (ap (named (drops finish) n (suc k) p ns) (cut-same m d nonempty (omega arith)))
    where
      one : (b : ℕ) → number_of (first_line d) ≡ Some b → (t : Bool) → mem b ns ≡ t
          → cond t (bad_at p) (named (drops finish) n k (p + 1) (ns ++ (b ∷ [])) (lines (behind d)))
          ≡ cond t (bad_at p) (named (drops finish) n k (p + 1) (ns ++ (b ∷ [])) (lines (take (m - suc (span d)) (behind d))))
      one b e true q = refl
      one b e false q =
          rest (ns ++ (b ∷ [])) (behind d) (m - suc (span d)) (names_more j ns b g (decimal-below (first_line d) b e) q)
          (omega (arith, word_size (first_line d) b e, length-take (span d) d, span-le d, room))

      number : (w : Option ℕ) → number_of (first_line d) ≡ w
          → on_number (number_of (first_line d)) (λ b. cond (mem b ns) (bad_at p) (named (drops finish) n k (p + 1) (ns ++ (b ∷ [])) (lines (behind d)))) (bad_at p)
          ≡ on_number (number_of (first_line d)) (λ b. cond (mem b ns) (bad_at p) (named (drops finish) n k (p + 1) (ns ++ (b ∷ [])) (lines (take (m - suc (span d)) (behind d))))) (bad_at p)
      number (Some b) e = rw e (one b e (mem b ns) refl)
      number None e = rw e

  name-long : (d : Bytes) (m : ℕ) → 34 ≤ span d → 34 ≤ m → SameNames n (suc k) p ns d m
  unfolding named
  name-long d m l room =
      let c = cut-long m d l room in
      ap (named (drops finish) n (suc k) p ns) (first-and-rest d (omega (arith, span-le d)))
      ∙ rw (word-long (first_line d) (omega (arith, length-take (span d) d, span-le d)))
      (sym (ap (named (drops finish) n (suc k) p ns) c.cut-is ∙ rw (word-long c.line c.long)))

  one_name : (d : Bytes) (m : ℕ) → EnoughNames n (suc k) m → SameNames n (suc k) p ns d m
  one_name [] m room = ap (λ (d : Bytes). named (drops finish) n (suc k) p ns (lines d)) (sym (take-nil m))
  one_name (b ∷ bs) m room = go (dec_lt (span (b ∷ bs)) 34)
    where
      go : Dec (span (b ∷ bs) < 34) → SameNames n (suc k) p ns (b ∷ bs) m
      go (yes l) = name-short (b ∷ bs) m (omega arith) l room
      go (no l) = name-long (b ∷ bs) m (omega arith) (omega arith)

pub named-cut : (n k j p : ℕ) (ns : List ℕ) (d : Bytes) (m : ℕ) → n ≤ most → Names j ns → j + k ≡ n → EnoughNames n k m → SameNames n k p ns d m
unfolding named
named-cut n zero j p ns d m h g e room =
    entries-cut n ns (n * n) p [] d m h (subst (λ (i : ℕ). Names i ns) (let z : j ≡ n = omega arith in z) g) (omega arith) none (omega arith)
named-cut n (suc k) j p ns d m h g e room =
    one_name n k j p ns g (λ ms d' m' g' room'. named-cut n k (j + 1) (p + 1) ms d' m' h g' (omega arith) room') d m room

-- ---- the first line, and the whole

first_short : (d : Bytes) → 0 < length d → span d < 34 → run_of d ≡ run_of (take input_length d)
unfolding run_of first input_length most
first_short d nonempty l =
    ap (first (drops finish)) (first-and-rest d nonempty)
    ∙ number (buses_of (first_line d)) refl
    ∙ sym (ap (first (drops finish)) (cut-same input_length d nonempty (omega arith)))
  where
    size : (n : ℕ) → buses_of (first_line d) ≡ Some n → (b : Bool) → (T b → n ≤ most)
        → cond b (named (drops finish) n n 2 [] (lines (behind d))) (bad_at 1) ≡ cond b (named (drops finish) n n 2 [] (lines (take (input_length - suc (span d)) (behind d)))) (bad_at 1)
    size n e true f =
        let few : n ≤ most = f tt in
        let sq : n * n ≤ most * most = mul-le-mul few few in
        let len : length (first_line d) ≤ 8 = number_size (ascii "buses ") (first_line d) n 2 e (let z : n < 100 = omega arith in z) (lit≤ tt) in
        named-cut n n 0 2 [] (behind d) (input_length - suc (span d)) few names-none (omega arith) (omega (arith, length-take (span d) d, span-le d, len, sq, few))
    size n e false f = refl

    number : (w : Option ℕ) → buses_of (first_line d) ≡ w
        → on_number (buses_of (first_line d)) (λ n. cond (leb n most) (named (drops finish) n n 2 [] (lines (behind d))) (bad_at 1)) (bad_at 1)
        ≡ on_number (buses_of (first_line d)) (λ n. cond (leb n most) (named (drops finish) n n 2 [] (lines (take (input_length - suc (span d)) (behind d)))) (bad_at 1)) (bad_at 1)
    number (Some n) e = rw e (size n e (leb n most) (leb→le n most))
    number None e = rw e

first-long : (d : Bytes) → 34 ≤ span d → run_of d ≡ run_of (take input_length d)
unfolding run_of first input_length most
first-long d l =
    let c = cut-long input_length d l (lit≤ tt) in
    ap (first (drops finish)) (first-and-rest d (omega (arith, span-le d)))
    ∙ rw (number-long (ascii "buses ") (first_line d) (lit≤ tt) (omega (arith, length-take (span d) d, span-le d)))
    (sym (ap (first (drops finish)) c.cut-is ∙ rw (number-long (ascii "buses ") c.line (lit≤ tt) c.long)))

pub run-prefix : (input : Bytes) → run_of input ≡ run_of (take input_length input)
run-prefix [] = ap run_of (sym (take-nil input_length))
run-prefix (b ∷ bs) = go (dec_lt (span (b ∷ bs)) 34)
  where
    go : Dec (span (b ∷ bs) < 34) → run_of (b ∷ bs) ≡ run_of (take input_length (b ∷ bs))
    go (yes l) = first_short (b ∷ bs) (omega arith) l
    go (no l) = first-long (b ∷ bs) (omega arith)

-- what is printed for an input is what is printed for the bytes that the buffer holds
pub printed-prefix : (input : Bytes) → printed input ≡ printed (take input_length input)
unfolding printed
printed-prefix input = ap text (run-prefix input)
