-- The drops of a run that is kept are the calls, and its numbers and entries those of the making.
use Rattle.std.proofs.Common.{Option, Some, None, Result, Ok, Err}
use Rattle.prelude.proofs.Prelude.{◌≡◌, refl, sym, ap, subst, Bool, true, false, cond, List, [], ◌∷◌, ◌++◌, ℕ, zero, suc, ◌+◌, ◌*◌, ◌≤◌, ◌<◌, arith, T, length, take, drop, Float, ◌^◌, map, append_assoc, append-nil, leb, leb→le, binary64}
use lib.Ieee.Fits.{nan-fits}
use lib.Ieee.Bits.{of_bits-fits}
use Rattle.binary64.specs.Values.{all_finite, F64s}
use Rattle.complex.proofs.Finite.{none, all_more}
use Rattle.refusals.specs.declared.Refusal.{Refusal}
use Rattle.lists.specs.Buses.{mem}
use Rattle.kron_reduction.specs.declared.KronReducer.{KronReducer}
use Rattle.kron_reduction.specs.Reducer.{reducer_input_of, made as record_made, after_bus, ReducerState, reducer_state_of}
use Rattle.claims.specs.Accounts.{bus, after_call, left_from}
use Rattle.reduce_text.specs.Reading.{End}
use Rattle.reduce_text.specs.declared.read.Trouble.TheVariants.{RefusedDrop, BadLine}
use Rattle.text_numbers.specs.Bytes.{Bytes}
use Rattle.text_numbers.proofs.WordSizes.{decimal-below}
use Rattle.reduce_text.specs.Lines.{buses_of, number_of, drop_of, entry_of}
use Rattle.reduce_text.specs.Reading.{most, Run, ended, no_reducer, of_word, on_number, on_outcome, on_entry, after_drop, drops, finish, entries, bad_at, named, first}
use Rattle.reduce_text.proofs.LineLaws.{entry-finite}
use Rattle.reduce_text.proofs.Fit.{Names, names-none, names_more}
use Rattle.program_claims.specs.Inputs.{entry_parts, entries_of, bus_in, names_of, dropped, calls_of, or_none}

-- ---- a run that ended otherwise is not kept

abbrev pub AtEnd : End → Type 0
AtEnd (Ok u) = Unit {0}
AtEnd (Err (RefusedDrop f k)) = ⊥
AtEnd (Err (BadLine p)) = ⊥

pub at-end : (e : End) → e ≡ Ok tt → AtEnd e
at-end e h = subst AtEnd (sym h) tt

abbrev pub end_of : Run → End
end_of R = R.reading.end

abbrev pub held_of : Run → ReducerState
held_of R = reducer_state_of R.reading.rec R.numbers

-- ---- the drops

pub record AsCalls (R : Run) (h : ReducerState) (ls : List Bytes) : Type 0 where
  pub ends : held_of R ≡ left_from h (calls_of ls)
  pub all_lines : length (calls_of ls) ≡ length ls

module _ (p : ℕ) (r : KronReducer) (ys : List Float) (l : Bytes) (ls : List Bytes)
    (rest : (r' : KronReducer) (ys' : List Float) → end_of (drops finish (p + 1) r' ys' ls) ≡ Ok tt → AsCalls (drops finish (p + 1) r' ys' ls) (reducer_state_of r' ys') ls) where
  abbrev next : KronReducer → List Float → Run
  next r' ys' = drops finish (p + 1) r' ys' ls

  abbrev Line : Run → Option ℕ → Type 0
  Line R w = (held_of R ≡ left_from (reducer_state_of r ys) (map bus (bus_in w ++ dropped ls))) × (length (map bus (bus_in w ++ dropped ls)) ≡ suc (length ls))

  after : (k : ℕ) (o : Result (Unit {0}) Refusal) → let R = on_outcome o k (after_bus r ys k).out.rec (after_bus r ys k).slice next in end_of R ≡ Ok tt → Line R (Some k)
  unfolding left_from after_call calls_of
  after k (Ok u) h = let c = rest (after_bus r ys k).out.rec (after_bus r ys k).slice h in (c.ends, ap suc c.all_lines)
  after k (Err f) h = absurd (at-end (Err (RefusedDrop f k)) h)

  line : (w : Option ℕ) → let R = on_number w (λ k. after_drop k (after_bus r ys k) next) (finish p r ys (l ∷ ls)) in end_of R ≡ Ok tt → Line R w
  unfolding finish
  line (Some k) h = after k (after_bus r ys k).out.answer h
  line None h = absurd (at-end (Err (BadLine p)) h)

pub drops-calls : (p : ℕ) (r : KronReducer) (ys : List Float) (ls : List Bytes) → end_of (drops finish p r ys ls) ≡ Ok tt → AsCalls (drops finish p r ys ls) (reducer_state_of r ys) ls
unfolding drops finish dropped calls_of left_from
drops-calls p r ys [] h = record { ends = refl; all_lines = refl }
drops-calls p r ys (l ∷ ls) h =
    let c = line p r ys l ls (λ r' ys'. drops-calls (p + 1) r' ys' ls) (drop_of l) h in
    record { ends = c.0; all_lines = c.1 }

-- ---- the entries

-- k entry lines, where the numbers ys were read before, and then the drops on what they make
pub record AsMade (n : ℕ) (ns : List ℕ) (k : ℕ) (ys : List Float) (R : Run) (ls : List Bytes) : Type 0 where
  pub there : k ≤ length ls
  pub numbers : length (entries_of (take k ls)) ≡ 2 * k
  pub place : ℕ
  pub then : let zs = ys ++ entries_of (take k ls) in R ≡ drops finish place (record_made (reducer_input_of n zs ns)) zs (drop k ls)

module _ (n : ℕ) (ns : List ℕ) (k p : ℕ) (ys : List Float) (l : Bytes) (ls : List Bytes)
    (rest : (zs : List Float) → end_of (entries (drops finish) n ns k (p + 1) zs ls) ≡ Ok tt → AsMade n ns k zs (entries (drops finish) n ns k (p + 1) zs ls) ls) where
  entry : (w : Option (ℕ × ℕ))
      → let R = on_entry w (λ a b. entries (drops finish) n ns k (p + 1) (ys ++ (of_word a ∷ of_word b ∷ [])) ls) (ended (Err (BadLine p)) no_reducer ys) in
      let zs = ys ++ (entry_parts w ++ entries_of (take k ls)) in
      end_of R ≡ Ok tt
      → (k ≤ length ls) × (length (entry_parts w ++ entries_of (take k ls)) ≡ 2 * suc k) × (at : ℕ) × (R ≡ drops finish at (record_made (reducer_input_of n zs ns)) zs (drop k ls))
  entry (Some (a, b)) h =
      let c = rest (ys ++ (of_word a ∷ of_word b ∷ [])) h in (
        c.there,
        omega (arith, c.numbers),
        c.place,
        subst
            (λ (zs : List Float). entries (drops finish) n ns k (p + 1) (ys ++ (of_word a ∷ of_word b ∷ [])) ls ≡ drops finish c.place (record_made (reducer_input_of n zs ns)) zs (drop k ls))
            (append_assoc ys (of_word a ∷ of_word b ∷ []) (entries_of (take k ls)))
            c.then,
      )
  entry None h = absurd (at-end (Err (BadLine p)) h)

pub entries-made : (n : ℕ) (ns : List ℕ) (k p : ℕ) (ys : List Float) (ls : List Bytes) → end_of (entries (drops finish) n ns k p ys ls) ≡ Ok tt → AsMade n ns k ys (entries (drops finish) n ns k p ys ls) ls
unfolding entries entries_of
entries-made n ns zero p ys ls h = record { there = omega arith; numbers = refl; place = p; then = simp append-nil }
entries-made n ns (suc k) p ys [] h = absurd (at-end (Err (BadLine p)) h)
entries-made n ns (suc k) p ys (l ∷ ls) h =
    let c = entry n ns k p ys l ls (λ zs. entries-made n ns k (p + 1) zs ls) (entry_of l) h in
    record { there = omega (arith, c.0); numbers = c.1; place = c.2; then = c.3 }

-- ---- the number lines

-- k number lines, where the numbers ns were read before, and then the entries
pub record AsNamed (n k : ℕ) (ns : List ℕ) (R : Run) (ls : List Bytes) : Type 0 where
  pub there : k ≤ length ls
  pub names : Names n (ns ++ names_of (take k ls))
  pub made : AsMade n (ns ++ names_of (take k ls)) (n * n) [] R (drop k ls)

module _ (n k j p : ℕ) (ns : List ℕ) (l : Bytes) (ls : List Bytes) (g : Names j ns)
    (rest : (ms : List ℕ) → Names (j + 1) ms → end_of (named (drops finish) n k (p + 1) ms ls) ≡ Ok tt → AsNamed n k ms (named (drops finish) n k (p + 1) ms ls) ls) where
  abbrev Line' : Run → Option ℕ → Type 0
  Line' R w =
      (k ≤ length ls)
      × Names n (ns ++ (bus_in w ++ names_of (take k ls)))
      × AsMade n (ns ++ (bus_in w ++ names_of (take k ls))) (n * n) [] R (drop k ls)

  one : (b : ℕ) → b < 2 ^ 32 → (t : Bool) → mem b ns ≡ t
      → let R = cond t (bad_at p) (named (drops finish) n k (p + 1) (ns ++ (b ∷ [])) ls) in end_of R ≡ Ok tt → Line' R (Some b)
  one b q true m h = absurd (at-end (Err (BadLine p)) h)
  one b q false m h =
      let c = rest (ns ++ (b ∷ [])) (names_more j ns b g q m) h in
      let R = named (drops finish) n k (p + 1) (ns ++ (b ∷ [])) ls in
      let e = append_assoc ns (b ∷ []) (names_of (take k ls)) in
      (c.there, subst (Names n) e c.names, subst (λ (ms : List ℕ). AsMade n ms (n * n) [] R (drop k ls)) e c.made)

  number : (w : Option ℕ) → number_of l ≡ w
      → let R = on_number w (λ b. cond (mem b ns) (bad_at p) (named (drops finish) n k (p + 1) (ns ++ (b ∷ [])) ls)) (bad_at p) in end_of R ≡ Ok tt → Line' R w
  number (Some b) e h = one b (decimal-below l b e) (mem b ns) refl h
  number None e h = absurd (at-end (Err (BadLine p)) h)

pub named-made : (n k j p : ℕ) (ns : List ℕ) (ls : List Bytes) → Names j ns → j + k ≡ n → end_of (named (drops finish) n k p ns ls) ≡ Ok tt → AsNamed n k ns (named (drops finish) n k p ns ls) ls
unfolding named names_of
named-made n zero j p ns ls g e h =
    let c = entries-made n ns (n * n) p [] ls h in
    let R = entries (drops finish) n ns (n * n) p [] ls in
    let a : ns ≡ ns ++ [] = sym (append-nil ns) in
    record {
      there = omega arith;
      names = subst (Names n) a (subst (λ (i : ℕ). Names i ns) (let z : j ≡ n = omega arith in z) g);
      made = subst (λ (ms : List ℕ). AsMade n ms (n * n) [] R ls) a c;
    }
named-made n (suc k) j p ns [] g e h = absurd (at-end (Err (BadLine p)) h)
named-made n (suc k) j p ns (l ∷ ls) g e h =
    let c = number n k j p ns l ls g (λ ms q. named-made n k (j + 1) (p + 1) ms ls q (omega arith)) (number_of l) refl h in
    record { there = omega (arith, c.0); names = c.1; made = c.2 }

-- ---- the first line

-- the numbers of entry lines fit binary64, whatever their bits
pub f64s : (ls : List Bytes) → F64s (entries_of ls)
unfolding entries_of
f64s [] i = nan-fits binary64
f64s (l ∷ ls) i = entry-fits (entry_of l) (f64s ls) i
  where
    entry-fits : (w : Option (ℕ × ℕ)) → F64s (entries_of ls) → F64s (entry_parts w ++ entries_of ls)
    entry-fits (Some (a, b)) f zero = of_bits-fits binary64 a
    entry-fits (Some (a, b)) f (suc zero) = of_bits-fits binary64 b
    entry-fits (Some (a, b)) f (suc (suc i)) = f i
    entry-fits None f i = f i

-- and they are finite
pub all-finite : (ls : List Bytes) → T (all_finite (entries_of ls))
unfolding entries_of
all-finite [] = none
all-finite (l ∷ ls) = entry-all (entry_of l) refl (all-finite ls)
  where
    entry-all : (w : Option (ℕ × ℕ)) → entry_of l ≡ w → T (all_finite (entries_of ls)) → T (all_finite (entry_parts w ++ entries_of ls))
    entry-all (Some (a, b)) e h =
        let (x, y) = entry-finite l a b e in
        all_more (of_word a) (of_word b ∷ entries_of ls) x (all_more (of_word b) (entries_of ls) y h)
    entry-all None e h = h

-- a first line with so many buses, numbers, entries and drops behind it
pub record AsInput (l : Bytes) (ls : List Bytes) (R : Run) (n : ℕ) : Type 0 where
  pub size : buses_of l ≡ Some n
  pub small : n ≤ most
  pub named : AsNamed n n [] R ls

pub first-buses : (l : Bytes) (ls : List Bytes) → end_of (first (drops finish) (l ∷ ls)) ≡ Ok tt → AsInput l ls (first (drops finish) (l ∷ ls)) (or_none (buses_of l))
unfolding first
first-buses l ls h = number' (buses_of l) refl h
  where
    within : (n : ℕ) → buses_of l ≡ Some n → (b : Bool) → (T b → n ≤ most)
        → let R = cond b (named (drops finish) n n 2 [] ls) (bad_at 1) in end_of R ≡ Ok tt → AsInput l ls R n
    within n e true f h = record { size = e; small = f tt; named = named-made n n 0 2 [] ls names-none (omega arith) h }
    within n e false f h = absurd (at-end (Err (BadLine 1)) h)

    number' : (w : Option ℕ) → buses_of l ≡ w
        → let R = on_number w (λ n. cond (leb n most) (named (drops finish) n n 2 [] ls) (bad_at 1)) (bad_at 1) in end_of R ≡ Ok tt → AsInput l ls R (or_none w)
    number' (Some n) e h = within n e (leb n most) (leb→le n most) h
    number' None e h = absurd (at-end (Err (BadLine 1)) h)
