-- Laws of printing: how long the lines are, and one line more.
use Rattle.prelude.proofs.Prelude.{◌≡◌, refl, ap, ◌∙◌, List, ◌++◌, ℕ, zero, suc, ◌+◌, ◌-◌, ◌*◌, ◌≤◌, ◌<◌, add-one, arith, length, get_or, take, replicate, Float, ap₂, ⊎_elim, le_of_eq, le_trans, eq-or-lt_of_le, length-map, length-append, List·getD-append, length-take-le, take_at}
use native.Mathlib.Nat.{le_of_suc-le-suc}
use Rattle.complex.specs.{Complex, entry}
use Rattle.kron_reduction.specs.declared.KronReducer.{KronReducer}
use Rattle.refusals.specs.Refusals.{limit}
use Rattle.kron_reduction.specs.Reducer.{padded}
use Rattle.kron_reduction.specs.Reading.{active_numbers}
use Rattle.text_numbers.specs.Bytes.{Bytes, ascii}
use Rattle.text_numbers.specs.Words.{decimal}
use Rattle.reduce_text.specs.Printing.{number_line, bus_lines, entry_line, entry_lines, kept_text, refused_text}
use Rattle.text_numbers.specs.Inner.Writing.{HasRoom, Wrote}
use Rattle.text_numbers.proofs.WordLaws.{length-hex}
use Rattle.text_numbers.proofs.Writing.{then}

pub length-number-line : (key : Bytes) (n : ℕ) → length (number_line key n) ≡ length key + length (decimal n) + 1
unfolding number_line
length-number-line key n = simp length-append

pub length-refused : (f k : ℕ) → length (refused_text f k) ≡ 8 + length (decimal f) + 1 + length (decimal k) + 1
unfolding refused_text
length-refused f k = simp (length-append, length-number-line) (omega arith)

pub bus-lines-upto : (ks : List ℕ) (i n : ℕ) → i ≤ n → length (bus_lines i ks) ≤ length (bus_lines n ks)
unfolding bus_lines
bus-lines-upto ks i zero h = le_of_eq (ap (λ (k : ℕ). length (bus_lines k ks)) (let e : i ≡ 0 = omega arith in e))
bus-lines-upto ks i (suc n) h =
    ⊎_elim
    (λ e. le_of_eq (ap (λ (k : ℕ). length (bus_lines k ks)) e))
    (λ l. le_trans (bus-lines-upto ks i n (le_of_suc-le-suc l)) (omega (arith, length-append (bus_lines n ks) (number_line (ascii "bus ") (get_or ks n 0)))))
    (eq-or-lt_of_le h)

pub length-entry-line : (c : Complex) → length (entry_line c) ≡ 34
unfolding entry_line
length-entry-line c = simp (length-append, length-hex)

pub length-entry-lines : (n : ℕ) (ys : List Float) → length (entry_lines n ys) ≡ 34 * n
unfolding entry_lines
length-entry-lines zero ys = refl
length-entry-lines (suc n) ys =
    let e : length (entry_lines n ys ++ entry_line (entry ys n)) ≡ length (entry_lines n ys) + 34 =
    length-append (entry_lines n ys) (entry_line (entry ys n)) ∙ ap (λ (k : ℕ). length (entry_lines n ys) + k) (length-entry-line (entry ys n)) in
    let h : length (entry_lines n ys) ≡ 34 * n = length-entry-lines n ys in
    omega arith

pub length-kept : (r : KronReducer) (ys : List Float)
    → length (kept_text r ys) ≡ length (number_line (ascii "kept ") r.n_buses) + length (bus_lines r.n_buses (active_numbers r)) + 34 * (r.n_buses * r.n_buses)
unfolding kept_text
length-kept r ys =
    let n = r.n_buses in
    let a = number_line (ascii "kept ") n in
    let b = bus_lines n (active_numbers r) in
    omega (arith, length-append (a ++ b) (entry_lines (n * n) ys), length-append a b, length-entry-lines (n * n) ys)

-- what stands behind the first n buses does not print
pub bus-lines-front : (ks zs : List ℕ) (n : ℕ) → n ≤ length ks → bus_lines n (ks ++ zs) ≡ bus_lines n ks
unfolding bus_lines
bus-lines-front ks zs zero h = refl
bus-lines-front ks zs (suc n) h =
    ap₂ (λ (a : Bytes) (k : ℕ). a ++ number_line (ascii "bus ") k) (bus-lines-front ks zs n (omega arith)) (List·getD-append ks zs 0 n h)

-- the list of the active buses' numbers begins with them
pub kept-lines : (r : KronReducer) (list : List ℕ) → list ≡ padded (active_numbers r) → r.n_buses ≤ length r.active_buses
    → bus_lines (length (take r.n_buses list)) (take r.n_buses list) ≡ bus_lines r.n_buses (active_numbers r)
kept-lines r list e h =
    let n = r.n_buses in
    let ks = active_numbers r in
    let many : length ks ≡ n = length-map (take n r.active_buses) (λ (i : ℕ). get_or r.numbers i 0) ∙ length-take-le n r.active_buses h in
    let front : take n list ≡ ks = ap (take n) e ∙ take_at ks (replicate (limit - length ks) 0) n many in
    ap₂ bus_lines (ap length front ∙ many) front

-- ---- one line more

module _ (out left : Bytes) (at p : ℕ) (ks : List ℕ) (i n : ℕ) (room : HasRoom out at (bus_lines n ks)) (h : i < n) (w : Wrote out at (bus_lines i ks) p left) where
  bus-within : length (bus_lines i ks) + length (number_line (ascii "bus ") (get_or ks i 0)) ≤ length (bus_lines n ks)
  unfolding bus_lines
  bus-within = omega (arith, bus-lines-upto ks (suc i) n h, length-append (bus_lines i ks) (number_line (ascii "bus ") (get_or ks i 0)))

  pub bus-room : length left ≡ length out → HasRoom left p (number_line (ascii "bus ") (get_or ks i 0))
  bus-room e = omega (arith, bus-within, w.here)

  pub bus-more : {next : ℕ} {left' : Bytes} → Wrote left p (number_line (ascii "bus ") (get_or ks i 0)) next left' → Wrote out at (bus_lines (i + 1) ks) next left'
  unfolding bus_lines
  bus-more v =
      rw add-one
      (then (omega (arith, bus-within, length-append (bus_lines i ks) (number_line (ascii "bus ") (get_or ks i 0)))) w v)

module _ (out left : Bytes) (at p : ℕ) (ys : List Float) (i n : ℕ) (room : HasRoom out at (entry_lines n ys)) (h : i < n) (w : Wrote out at (entry_lines i ys) p left) where
  pub entry-room : length left ≡ length out → HasRoom left p (entry_line (entry ys i))
  entry-room e = omega (arith, length-entry-lines i ys, length-entry-lines n ys, length-entry-line (entry ys i), w.here)

  pub entry_more : {next : ℕ} {left' : Bytes} → Wrote left p (entry_line (entry ys i)) next left' → Wrote out at (entry_lines (i + 1) ys) next left'
  unfolding entry_lines
  entry_more v =
      rw add-one
      (then
      (omega (arith, length-entry-lines i ys, length-entry-lines n ys, length-entry-line (entry ys i), length-append (entry_lines i ys) (entry_line (entry ys i))))
      w
      v)
