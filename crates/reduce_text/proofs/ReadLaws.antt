-- Laws of reading: what the line at an index does to a run.
use Rattle.prelude.proofs.Prelude.{◌≡◌, refl, sym, ap, ◌∙◌, true, false, cond, List, [], ◌∷◌, ◌++◌, ℕ, suc, ◌+◌, ◌-◌, ◌*◌, ◌≤◌, ◌<◌, add-one, arith, mul-le-mul, length, take, drop, Float, sub-zero, leb, le-leb, lt-leb, lt-ltb, le-ltb, set, length-drop, drop_of_length-le, length-take, length-set, take-append-drop, drop-drop, length-take-le, take-append_seam}
use Rattle.std.specs.Prelude.{Option, Some, None, Result, Ok, Err, ok_or, IsErrAnd}
use Rattle.reduce_text.specs.declared.read.Trouble.{Trouble}
use Rattle.reduce_text.specs.declared.read.Trouble.TheVariants.{RefusedDrop, BadLine}
use native.Mathlib.Decide.{dec_lt, ℕ_discrete}
use lib.Seq.{take-suc-set, drop-set-lt, append_snoc, drop-append_seam}
use Rattle.complex.specs.{Complex, put}
use Rattle.refusals.specs.declared.Refusal.{Refusal}
use Rattle.lists.specs.Buses.{mem}
use Rattle.kron_reduction.specs.declared.KronReducer.{KronReducer}
use Rattle.kron_reduction.specs.declared.AfterRemoval.{AfterRemoval}
use Rattle.kron_reduction.specs.Reducer.{reducer_input_of, made, after_bus}
use Rattle.reduce_text.specs.declared.read.Reading.{Reading}
use Rattle.reduce_text.specs.declared.read.Start.{Start}
use Rattle.text_numbers.specs.Bytes.{Bytes}
use Rattle.text_numbers.specs.Words.{decimal_of, spare}
use Rattle.reduce_text.specs.Lines.{lines, span, line_at, starts_with, number_after, buses_of, number_of, drop_of, entry_of}
use Rattle.reduce_text.specs.Reading.{most, Run, End, ended, no_reducer, Onward, on_outcome, of_word, after_drop, drops, finish, entries, bad_at, named, first}
use Rattle.reduce_text.specs.Inner.Steps.{behind, Begun, on_answer, end_of, Ended, RanIn}
use Rattle.reduce_text.proofs.LineLaws.{lines-first, span-le, span-behind, entry_length}

-- a number of buses, and its square
pub few-fits : (n : ℕ) → n ≤ most → n ≤ 64
unfolding most
few-fits n h = h

pub square : (n : ℕ) → n ≤ most → n * n ≤ most * most
square n h = mul-le-mul h h

pub square-fits : (n : ℕ) → n ≤ most → n * n ≤ 4096
unfolding most
square-fits n h = square n h

-- where the next line starts
abbrev pub next : Bytes → ℕ → ℕ
next s at = at + span (drop at s) + 1

pub first-and-rest : (d : Bytes) → 0 < length d → lines d ≡ take (span d) d ∷ lines (drop (suc (span d)) d)
first-and-rest [] h = absurd (omega arith)
first-and-rest (b ∷ bs) h = lines-first b bs

pub lines_at : (s : Bytes) (at : ℕ) → at < length s → lines (drop at s) ≡ line_at s at ∷ lines (drop (next s at) s)
unfolding line_at
lines_at s at h =
    let e : at + suc (span (drop at s)) ≡ next s at = omega arith in
    first-and-rest (drop at s) (omega (arith, length-drop at s))
    ∙ ap (λ (d : Bytes). take (span (drop at s)) (drop at s) ∷ lines d) (drop-drop (suc (span (drop at s))) at s)
    ∙ ap (λ (k : ℕ). take (span (drop at s)) (drop at s) ∷ lines (drop k s)) e

pub lines-over : (s : Bytes) (at : ℕ) → length s ≤ at → lines (drop at s) ≡ []
unfolding lines
lines-over s at h = ap lines (drop_of_length-le s h)

pub no-number : number_of [] ≡ None
unfolding decimal_of spare
no-number = refl

pub no-entry : entry_of [] ≡ None
unfolding entry_of
no-entry = refl

pub no-drop : drop_of [] ≡ None
unfolding number_after starts_with
no-drop = refl

pub no-buses : buses_of [] ≡ None
unfolding number_after starts_with
no-buses = refl

-- a `?` on an answer that is none tells the trouble
pub told-none : {A B : Type 0} (r : Result A Trouble) (o : Option B) (x y : Trouble) → o ≡ None → Err x ≡ ok_or o y → IsErrAnd r (λ t. t ≡ x) → r ≡ Err y
told-none (Ok a) o x y e f g = absurd g
told-none (Err z) o x y e f g = let h = rw e at f in cc

-- a `?` on an answer hands its trouble on
pub err-is : {A : Type 0} (r : Result A Trouble) (x : Trouble) → IsErrAnd r (λ t. t ≡ x) → r ≡ Err x
err-is (Ok a) x h = absurd h
err-is (Err z) x h = rw h refl

-- ---- a line that is there

-- the line behind the text has no byte
pub line-over : (s : Bytes) (at : ℕ) → length s ≤ at → line_at s at ≡ []
unfolding line_at span
line-over s at h = ap (λ (d : Bytes). take (span d) d) (drop_of_length-le s h)

pub length-line : (s : Bytes) (at : ℕ) → length (line_at s at) ≡ span (drop at s)
unfolding line_at
length-line s at = length-take-le (span (drop at s)) (drop at s) (span-le (drop at s))

-- where the next line starts, from the line's length
pub next_is : (s : Bytes) (at : ℕ) → at + (length (line_at s at) + 1) ≡ next s at
next_is s at = omega (arith, length-line s at)

-- a line that says something is in the text, and so is its end
module _ {A : Type 0} (f : Bytes → Option A) (none : f [] ≡ None) (s : Bytes) (at : ℕ) (x : A) (e : f (line_at s at) ≡ Some x) where
  pub line-inside : at < length s
  line-inside = go (dec_lt at (length s))
    where
      go : Dec (at < length s) → at < length s
      go (yes h) = h
      go (no n) = let z = ap f (line-over s at (omega arith)) in cc

  pub line-ends : next s at ≤ length s + 1
  line-ends = omega (arith, line-inside, span-behind s at)

-- ---- drops

module _ (rest : Onward) (s : Bytes) (at p : ℕ) (r : KronReducer) (ys : List Float) where
  -- a line that is no drop, or none
  pub drops-stop : drop_of (line_at s at) ≡ None → drops rest p r ys (behind s at) ≡ rest p r ys (behind s at)
  unfolding drops
  drops-stop e = go (dec_lt at (length s))
    where
      go : Dec (at < length s) → drops rest p r ys (behind s at) ≡ rest p r ys (behind s at)
      go (yes h) = ap (drops rest p r ys) (lines_at s at h) ∙ rw e (sym (ap (rest p r ys) (lines_at s at h)))
      go (no h) = ap (drops rest p r ys) (lines-over s at (omega arith)) ∙ sym (ap (rest p r ys) (lines-over s at (omega arith)))

  module _ (h : at < length s) where
    drops-bus : (k : ℕ) → drop_of (line_at s at) ≡ Some k
        → drops rest p r ys (behind s at) ≡ after_drop k (after_bus r ys k) (λ r' ys'. drops rest (p + 1) r' ys' (behind s (next s at)))
    unfolding drops
    drops-bus k e =
        ap (drops rest p r ys) (lines_at s at h) ∙ rw e

    -- what the removal answered and left
    module _ (k : ℕ) (e : drop_of (line_at s at) ≡ Some k) (o : AfterRemoval) (ys' : List Float) (eo : o ≡ (after_bus r ys k).out) (ey : ys' ≡ (after_bus r ys k).slice) where
      taken-bus : drops rest p r ys (behind s at) ≡ on_outcome o.answer k o.rec ys' (λ r' ys''. drops rest (p + 1) r' ys'' (behind s (next s at)))
      taken-bus =
          drops-bus k e
          ∙ ap (λ (t : AfterRemoval). on_outcome t.answer k t.rec (after_bus r ys k).slice (λ r' ys''. drops rest (p + 1) r' ys'' (behind s (next s at)))) (sym eo)
          ∙ ap (λ (zs : List Float). on_outcome o.answer k o.rec zs (λ r' ys''. drops rest (p + 1) r' ys'' (behind s (next s at)))) (sym ey)

      pub drops-refused : (f : Refusal) → o.answer ≡ Err f → drops rest p r ys (behind s at) ≡ ended (Err (RefusedDrop f k)) o.rec ys'
      drops-refused f d =
          taken-bus ∙ ap (λ (a : Result (Unit {0}) Refusal). on_outcome a k o.rec ys' (λ r' ys''. drops rest (p + 1) r' ys'' (behind s (next s at)))) d

      pub drops-done : o.answer ≡ Ok tt → drops rest p r ys (behind s at) ≡ drops rest (p + 1) o.rec ys' (behind s (next s at))
      drops-done d =
          taken-bus ∙ ap (λ (a : Result (Unit {0}) Refusal). on_outcome a k o.rec ys' (λ r' ys''. drops rest (p + 1) r' ys'' (behind s (next s at)))) d

-- where the drops stopped the run ends
pub stopped : (s : Bytes) (o : Result (ℕ × ℕ) Trouble) (r : KronReducer) (ys : List Float)
    → on_answer o (λ q. finish q.1 r ys (behind s q.0)) r ys ≡ ended (end_of (length s) o) r ys
unfolding finish
stopped s (Ok q) r ys = go (dec_lt q.0 (length s))
  where
    go : Dec (q.0 < length s) → finish q.1 r ys (behind s q.0) ≡ ended (end_of (length s) (Ok q)) r ys
    go (yes h) = ap (finish q.1 r ys) (lines_at s q.0 h) ∙ simp (lt-ltb q.0 (length s) h)
    go (no h) = ap (finish q.1 r ys) (lines-over s q.0 (omega arith)) ∙ simp (le-ltb q.0 (length s) (omega arith))
stopped s (Err t) r ys = refl

-- ---- numbers

pub named-bad : (go : Onward) (s : Bytes) (at n k p : ℕ) (ns : List ℕ) → number_of (line_at s at) ≡ None → named go n (suc k) p ns (behind s at) ≡ bad_at p
unfolding named
named-bad go s at n k p ns e = cases (dec_lt at (length s))
  where
    cases : Dec (at < length s) → named go n (suc k) p ns (behind s at) ≡ bad_at p
    cases (yes h) =
        ap (named go n (suc k) p ns) (lines_at s at h) ∙ rw e
    cases (no h) = ap (named go n (suc k) p ns) (lines-over s at (omega arith))

module _ (s : Bytes) (at b : ℕ) (e : number_of (line_at s at) ≡ Some b) where
  number_at : at < length s
  number_at = line-inside number_of no-number s at b e

  named-number : (go : Onward) (n k p : ℕ) (ns : List ℕ)
      → named go n (suc k) p ns (behind s at) ≡ cond (mem b ns) (bad_at p) (named go n k (p + 1) (ns ++ (b ∷ [])) (behind s (next s at)))
  unfolding named
  named-number go n k p ns =
      ap (named go n (suc k) p ns) (lines_at s at number_at) ∙ rw e

  pub named-twice : (go : Onward) (n k p : ℕ) (ns : List ℕ) → mem b ns ≡ true → named go n (suc k) p ns (behind s at) ≡ bad_at p
  named-twice go n k p ns m = named-number go n k p ns ∙ rw m

  pub named_more : (go : Onward) (n k p : ℕ) (ns : List ℕ) → mem b ns ≡ false → named go n (suc k) p ns (behind s at) ≡ named go n k (p + 1) (ns ++ (b ∷ [])) (behind s (next s at))
  named_more go n k p ns m = named-number go n k p ns ∙ rw m

pub named_none : (go : Onward) (n p : ℕ) (ns : List ℕ) (ls : List Bytes) → named go n 0 p ns ls ≡ entries go n ns (n * n) p [] ls
unfolding named
named_none go n p ns ls = refl

-- ---- entries

pub entry-33 : (l : Bytes) (a b : ℕ) → entry_of l ≡ Some (a, b) → length l ≡ 33
entry-33 l a b e = go (ℕ_discrete (length l) 33)
  where
    go : Dec (length l ≡ 33) → length l ≡ 33
    go (yes p) = p
    go (no n) = let z = sym (entry_length l n) ∙ e in cc

pub entries-bad : (go : Onward) (ns : List ℕ) (s : Bytes) (at n k p : ℕ) (ys : List Float) → entry_of (line_at s at) ≡ None → entries go n ns (suc k) p ys (behind s at) ≡ ended (Err (BadLine p)) no_reducer ys
unfolding entries
entries-bad go ns s at n k p ys e = cases (dec_lt at (length s))
  where
    cases : Dec (at < length s) → entries go n ns (suc k) p ys (behind s at) ≡ ended (Err (BadLine p)) no_reducer ys
    cases (yes h) =
        ap (entries go n ns (suc k) p ys) (lines_at s at h) ∙ rw e
    cases (no h) = ap (entries go n ns (suc k) p ys) (lines-over s at (omega arith))

module _ (s : Bytes) (at a b : ℕ) (e : entry_of (line_at s at) ≡ Some (a, b)) where
  entry-span : span (drop at s) ≡ 33
  unfolding line_at
  entry-span =
      let d = drop at s in
      omega (arith, entry-33 (take (span d) d) a b e, length-take (span d) d, span-le d)

  pub entry-fits : at + 34 ≤ length s + 1
  entry-fits = omega (arith, entry-span, span-behind s at, line-inside entry_of no-entry s at (a, b) e)

  pub entries-more : (go : Onward) (ns : List ℕ) (n k p : ℕ) (ys : List Float)
      → entries go n ns (suc k) p ys (behind s at) ≡ entries go n ns k (p + 1) (ys ++ (of_word a ∷ of_word b ∷ [])) (behind s (at + 34))
  unfolding entries
  entries-more go ns n k p ys =
      let f : next s at ≡ at + 34 = omega (arith, entry-span) in
      ap (entries go n ns (suc k) p ys) (lines_at s at (line-inside entry_of no-entry s at (a, b) e))
      ∙ rw e
      (ap (λ (j : ℕ). entries go n ns k (p + 1) (ys ++ (of_word a ∷ of_word b ∷ [])) (behind s j)) f)

-- ---- the numbers at the front of the matrix

module _ (ms : List Float) (i : ℕ) (c : Complex) (h : 2 * i + 1 < length ms) where
  pub take_put : take (2 * (i + 1)) (put ms i c) ≡ take (2 * i) ms ++ (c.re ∷ c.im ∷ [])
  unfolding put
  take_put =
      let l = set ms (2 * i) c.re in
      let e : 2 * (i + 1) ≡ suc (2 * i + 1) = omega arith in
      ap (λ (k : ℕ). take k (set l (2 * i + 1) c.im)) e
      ∙ take-suc-set l (2 * i + 1) c.im (simp length-set h)
      ∙ ap (λ (k : ℕ). take k l ++ (c.im ∷ [])) (add-one (2 * i))
      ∙ ap (λ (xs : List Float). xs ++ (c.im ∷ [])) (take-suc-set ms (2 * i) c.re (omega arith))
      ∙ append_snoc (take (2 * i) ms) c.re (c.im ∷ [])

  pub drop-put : drop (2 * (i + 1)) (put ms i c) ≡ drop (2 * (i + 1)) ms
  unfolding put
  drop-put =
      drop-set-lt (2 * (i + 1)) (set ms (2 * i) c.re) (2 * i + 1) c.im (omega arith) ∙ drop-set-lt (2 * (i + 1)) ms (2 * i) c.re (omega arith)

pub drop_more : (k j : ℕ) (xs zs : List Float) → k ≤ j → drop k xs ≡ drop k zs → drop j xs ≡ drop j zs
drop_more k j xs zs h e =
    let f : k + (j - k) ≡ j = omega arith in
    rw (← f) (sym (drop-drop (j - k) k xs) ∙ ap (drop (j - k)) e ∙ drop-drop (j - k) k zs)

-- the first k numbers are new, the others as they were
pub at_front : (k : ℕ) (xs zs : List Float) → k ≤ length xs → drop k xs ≡ drop k zs → xs ≡ take k xs ++ drop (length (take k xs)) zs
at_front k xs zs h e =
    sym (take-append-drop k xs)
    ∙ ap (λ (l : List Float). take k xs ++ l) (e ∙ ap (λ (j : ℕ). drop j zs) (sym (length-take-le k xs h)))

pub entries_none : (go : Onward) (ns : List ℕ) (n p : ℕ) (ys : List Float) (ls : List Bytes) → entries go n ns 0 p ys ls ≡ go p (made (reducer_input_of n ys ns)) ys ls
unfolding entries
entries_none go ns n p ys ls = refl

-- ---- the first line

-- no reducer is made of the run
pub unbegun : {R : Onward → Run} {before : List Float} {input : Bytes} (t : Trouble) → ((go : Onward) → R go ≡ ended (Err t) no_reducer [])
    → Begun R before input (Err t) before
unbegun t f = record { ys = []; leaves = refl; fits = tt; goes = f }

pub begun-as : {R R' : Onward → Run} {before left : List Float} {input : Bytes} {o : Result Start Trouble} → ((go : Onward) → R go ≡ R' go) → Begun R' before input o left → Begun R before input o left
begun-as f w = record { ys = w.ys; leaves = w.leaves; fits = w.fits; goes = λ go. f go ∙ w.goes go }

module _ (s : Bytes) (go : Onward) where
  -- the first line says no number, or there is none
  pub first-bad : buses_of (line_at s 0) ≡ None → first go (lines s) ≡ bad_at 1
  unfolding first
  first-bad e = cases (dec_lt 0 (length s))
    where
      cases : Dec (0 < length s) → first go (lines s) ≡ bad_at 1
      cases (yes h) = ap (first go) (lines_at s 0 h) ∙ rw e
      cases (no h) = ap (first go) (lines-over s 0 (omega arith))

  module _ (n : ℕ) (e : buses_of (line_at s 0) ≡ Some n) (h : 0 < length s) where
    first-number : first go (lines s) ≡ cond (leb n most) (named go n n 2 [] (behind s (next s 0))) (bad_at 1)
    unfolding first
    first-number = ap (first go) (lines_at s 0 h) ∙ rw e

    pub first-over : most < n → first go (lines s) ≡ bad_at 1
    first-over m = first-number ∙ simp (lt-leb n most m)

    pub first-go : n ≤ most → first go (lines s) ≡ named go n n 2 [] (behind s (next s 0))
    first-go m = first-number ∙ simp (le-leb n most m)

-- ---- the end

pub ran-in : {before left : List Float} {R : Run} {e : End} {r : KronReducer} {ys : List Float} → R ≡ ended e r ys → left ≡ ys ++ drop (length ys) before
    → RanIn before R (record { end = e; rec = r }) left
ran-in {before} {left} p q =
    record {
      says = sym (ap (λ (R : Run). R.reading) p);
      leaves = q ∙ sym (ap (λ (R : Run). R.numbers ++ drop (length R.numbers) before) p);
    }

-- numbers at the front of a slice: they are its first so many, and the others stand behind them
module _ {A : Type 0} (ys zs : List A) (m : ℕ) (e : length ys ≡ m) where
  pub front-is' : take m (ys ++ zs) ≡ ys
  front-is' = ap (λ (j : ℕ). take j (ys ++ zs)) (sym e) ∙ take-append_seam ys zs

  pub front-is : take (m - 0) (ys ++ zs) ≡ ys
  front-is = ap (λ (j : ℕ). take j (ys ++ zs)) (sub-zero m) ∙ front-is'

  pub back_is : drop m (ys ++ zs) ≡ zs
  back_is = ap (λ (j : ℕ). drop j (ys ++ zs)) (sym e) ∙ drop-append_seam ys zs

-- what ended in the front of a slice that a reducer was made in
pub ran_on : {before left : List Float} {R R' : Run} {o : Reading} (ys : List Float) (m : ℕ) → length ys ≡ m → R ≡ R' → Ended (ys ++ drop (length ys) before) m R' o left → RanIn before R o left
ran_on {before} {left} {R} {R'} ys m e f w =
    record {
      says = w.says ∙ sym (ap (λ (q : Run). q.reading) f);
      leaves =
          w.leaves
          ∙ ap (λ (zs : List Float). R'.numbers ++ zs) (back_is ys (drop (length ys) before) m e ∙ ap (λ (j : ℕ). drop j before) (e ∙ sym w.whole))
          ∙ sym (ap (λ (q : Run). q.numbers ++ drop (length q.numbers) before) f);
    }
