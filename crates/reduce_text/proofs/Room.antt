-- The text of every run fits the output: how long numbers, bus lines and the whole can get.
use Rattle.prelude.proofs.Prelude.{◌≡◌, refl, ap, Bool, true, false, cond, List, ◌++◌, ℕ, zero, suc, ◌*◌, ◌≤◌, ◌<◌, arith, ltb, length, get_or, Float, ◌/◌, ◌^◌, ap₂, mul-le-mul, le_trans, lit≤, length-append}
use Rattle.std.specs.Prelude.{Ok, Err}
use Rattle.reduce_text.specs.declared.read.Trouble.TheVariants.{RefusedDrop, BadLine}
use native.Mathlib.Nat.{pow-succ'}
use native.Mathlib.Decide.{dec_lt}
use Rattle.complex.proofs.Entries.{entry-append-left}
use Rattle.kron_reduction.specs.declared.KronReducer.{KronReducer}
use Rattle.kron_reduction.specs.Reading.{active_numbers}
use Rattle.refusals.specs.Refusals.{number}
use Rattle.text_numbers.specs.Bytes.{Bytes, ascii}
use Rattle.text_numbers.specs.Words.{places, decimal}
use Rattle.reduce_text.specs.Reading.{most, End, Run}
use Rattle.reduce_text.specs.Printing.{number_line, bus_lines, entry_line, entry_lines, kept_text, bad_text, text_of, text}
use Rattle.reduce_text.specs.Reduce.{output_length}
use Rattle.text_numbers.proofs.WordLaws.{places-stop, places-more, length-decimal}
use Rattle.reduce_text.proofs.PrintLaws.{length-number-line, length-refused, length-kept}
use Rattle.reduce_text.proofs.Fit.{Small, Fit, FitRun}

places-upto : (k n : ℕ) → places k n ≤ k
unfolding places
places-upto zero n = omega arith
places-upto (suc k) n = go (ltb n 10) (places-upto k (n / 10))
  where
    go : (t : Bool) → places k (n / 10) ≤ k → cond t 1 (suc (places k (n / 10))) ≤ suc k
    go true h = omega arith
    go false h = omega arith

pub decimal-twenty : (n : ℕ) → length (decimal n) ≤ 20
decimal-twenty n = omega (arith, length-decimal n, places-upto 20 n)

pub decimal-two : (n : ℕ) → n < 100 → length (decimal n) ≤ 2
decimal-two n h = go (dec_lt n 10)
  where
    go : Dec (n < 10) → length (decimal n) ≤ 2
    go (yes l) = omega (arith, length-decimal n, places-stop 19 n l)
    go (no l) =
        let m : 10 ≤ n = omega arith in
        omega (arith, length-decimal n, places-more 19 n m, places-stop 18 (n / 10) (omega arith))

places-size : (k j n : ℕ) → n < 10 ^ suc j → places k n ≤ suc j
unfolding places
places-size zero j n h = omega arith
places-size (suc k) zero n h = omega (arith, places-stop k n h)
places-size (suc k) (suc j) n h = go (dec_lt n 10) (places-size k j (n / 10) (omega (arith, pow-succ' 10 (suc j))))
  where
    go : Dec (n < 10) → places k (n / 10) ≤ suc j → places (suc k) n ≤ suc (suc j)
    go (yes l) r = omega (arith, places-stop k n l)
    go (no l) r = omega (arith, r, places-more k n (omega arith))

pub decimal-ten : (n : ℕ) → n < 2 ^ 32 → length (decimal n) ≤ 10
decimal-ten n h = omega (arith, length-decimal n, places-size 20 9 n (le_trans h (lit≤ tt)))

bus-lines-short : (ks : List ℕ) (n : ℕ) → Small ks → length (bus_lines n ks) ≤ 15 * n
unfolding bus_lines
bus-lines-short ks zero f = omega arith
bus-lines-short ks (suc n) f =
    let line = number_line (ascii "bus ") (get_or ks n 0) in
    let h : length (bus_lines n ks) ≤ 15 * n = bus-lines-short ks n f in
    omega (arith, h, length-append (bus_lines n ks) line, length-number-line (ascii "bus ") (get_or ks n 0), decimal-ten (get_or ks n 0) (f n))

-- the numbers of a run print alike from a longer slice
pub entry-lines-front : (k : ℕ) (ys zs : List Float) → 2 * k ≤ length ys → entry_lines k (ys ++ zs) ≡ entry_lines k ys
unfolding entry_lines
entry-lines-front zero ys zs h = refl
entry-lines-front (suc k) ys zs h =
    ap₂ (λ (a : Bytes) (b : Bytes). a ++ b) (entry-lines-front k ys zs (omega arith)) (ap entry_line (entry-append-left ys zs k (omega arith)))

pub text-front : (e : End) (r : KronReducer) (ys zs : List Float) → 2 * (r.n_buses * r.n_buses) ≤ length ys → text_of e r (ys ++ zs) ≡ text_of e r ys
unfolding text_of kept_text
text-front (Ok u) r ys zs h =
    ap
    (λ (b : Bytes). number_line (ascii "kept ") r.n_buses ++ bus_lines r.n_buses (active_numbers r) ++ b)
    (entry-lines-front (r.n_buses * r.n_buses) ys zs h)
text-front (Err (RefusedDrop f k)) r ys zs h = refl
text-front (Err (BadLine p)) r ys zs h = refl

kept-room : (r : KronReducer) (ys : List Float) → Fit r ys → length (kept_text r ys) ≤ output_length
unfolding most output_length
kept-room r ys f =
    let n = r.n_buses in
    let few : n ≤ 64 = f.few in
    let sq : n * n ≤ 64 * 64 = mul-le-mul few few in
    omega
    (arith, few, sq, length-kept r ys, length-number-line (ascii "kept ") n, decimal-two n (omega (arith, few)), bus-lines-short (active_numbers r) n f.below)

text-of-room : (e : End) (r : KronReducer) (ys : List Float) → Fit r ys → length (text_of e r ys) ≤ output_length
unfolding text_of output_length most bad_text
text-of-room (Ok u) r ys f = kept-room r ys f
text-of-room (Err (RefusedDrop x k)) r ys f = omega (arith, length-refused (number x) k, decimal-twenty (number x), decimal-twenty k)
text-of-room (Err (BadLine p)) r ys f = omega (arith, length-number-line (ascii "bad line ") p, decimal-twenty p)

pub text-room : (R : Run) → FitRun R → length (text R) ≤ output_length
unfolding text
text-room R f = text-of-room R.reading.end R.reading.rec R.numbers f.fit
