-- A record and its bytes undo each other.
use Rattle.prelude.proofs.Prelude.{◌≡◌, refl, sym, ap, ◌∙◌, List, ◌++◌, ℕ, ◌+◌, ◌<◌, arith, length, take, drop, ap₂, append_assoc, append-nil, ◌^◌, eq-eqb, length-append, length-drop, take-append-drop, get_or-drop, take_at, drop-drop}
use lib.Seq.{take-add, drop_at}
use Rattle.refusals.specs.Refusals.{limit}
use Rattle.kron_reduction.specs.declared.KronReducer.{KronReducer}
use Rattle.number_bytes.specs.Bytes.{word, words, bytes_of, of_words}
use Rattle.number_bytes.specs.RoundTrip.{Below}
use Rattle.number_bytes.proofs.BytesLaws.{length-bytes_of, length-of_words}
use Rattle.number_bytes.proofs.RoundTrip.{word-front, word-behind, bytes-of-word, round_trip}
use Rattle.entries.specs.Records.{front_bytes, record_bytes, active_in, numbers_in, record_in, sizes_of, front_of, in_bytes}
use Rattle.entries.specs.RecordBack.{RecordBack}
use Rattle.entries.proofs.RecordsLaws.{length_front, record-read}

-- ---- from the bytes

-- the sizes m and n, and bytes behind them
module _ (m n : ℕ) (bs : List ℕ) where
  second : n < 256 ^ 8 → word 8 (bytes_of 8 m ++ (bytes_of 8 n ++ bs)) 8 ≡ n
  second k =
      let at : 8 ≡ length (bytes_of 8 m) + 0 = rw length-bytes_of refl in
      ap (word 8 (bytes_of 8 m ++ (bytes_of 8 n ++ bs))) at ∙ word-behind 8 (bytes_of 8 m) (bytes_of 8 n ++ bs) 0 ∙ word-front 8 n bs k

  behind : drop 16 (bytes_of 8 m ++ (bytes_of 8 n ++ bs)) ≡ bs
  behind =
      sym (drop-drop 8 8 (bytes_of 8 m ++ (bytes_of 8 n ++ bs)))
      ∙ ap (drop 8) (drop_at (bytes_of 8 m) (bytes_of 8 n ++ bs) 8 (length-bytes_of 8 m))
      ∙ drop_at (bytes_of 8 n) bs 8 (length-bytes_of 8 n)

-- the bytes of a record one after the other
spread : (r : KronReducer) → in_bytes r ≡ bytes_of 8 r.made ++ (bytes_of 8 r.n_buses ++ (r.active_buses ++ of_words 4 r.numbers))
unfolding of_words
spread r = simp append_assoc

record-back : (r : KronReducer) → length r.active_buses ≡ limit → length r.numbers ≡ limit → Below (256 ^ 8) (sizes_of r) → Below (256 ^ 4) r.numbers → record_in (in_bytes r) ≡ r
unfolding active_in numbers_in
record-back r full many s t =
    let m = r.made in let n = r.n_buses in let xs = r.active_buses in let ns = r.numbers in
    let ends = of_words 4 ns in
    let short = length-of_words 4 ns in
    let fronts = length_front r full in
    let whole : length (in_bytes r) ≡ record_bytes = length-append (front_of r) ends ∙ omega (arith, fronts, short, many) in
    let made : word 8 (in_bytes r) 0 ≡ m = rw (spread r) (word-front 8 m (bytes_of 8 n ++ (xs ++ ends)) (s 0)) in
    let present : word 8 (in_bytes r) 8 ≡ n = rw (spread r) (second m n (xs ++ ends) (s 1)) in
    let active : take limit (drop 16 (in_bytes r)) ≡ xs = rw (spread r, behind m n (xs ++ ends)) (take_at xs ends limit full) in
    let numbers : words 4 limit (drop front_bytes (in_bytes r)) ≡ ns =
    ap (words 4 limit) (drop_at (front_of r) ends front_bytes fronts) ∙ ap (λ (l : ℕ). words 4 l ends) (sym many) ∙ round_trip.words_back 4 ns t in
    sym (record-read (in_bytes r) m n xs ns whole (sym made) (sym present) (sym active) (sym numbers))

-- ---- from the record

bytes_back : (bs : List ℕ) → Below 256 bs → length bs ≡ record_bytes → in_bytes (record_in bs) ≡ bs
unfolding record_in active_in numbers_in of_words
bytes_back bs s l =
    let later : (k : ℕ) → Below 256 (drop k bs) = λ (k i : ℕ). rw (get_or-drop k bs i 0) (s (k + i)) in
    let e = length-drop front_bytes bs in
    let present = append-nil (bytes_of 8 (word 8 bs 8)) ∙ bytes-of-word 8 bs 8 s (omega (arith, l)) in
    let sizes = ap₂ (λ (x y : List ℕ). x ++ y) (bytes-of-word 8 bs 0 s (omega (arith, l))) present ∙ sym (take-add 8 8 bs) in
    let fronts = ap (λ (t : List ℕ). t ++ take limit (drop 16 bs)) sizes ∙ sym (take-add 16 limit bs) in
    rw (eq-eqb (length bs) record_bytes l)
    (ap₂ (λ (x y : List ℕ). x ++ y) fronts (round_trip.bytes_back 4 limit (drop front_bytes bs) (later front_bytes) (omega (arith, e, l)))
    ∙ take-append-drop front_bytes bs)

pub record-back-claims : RecordBack
record-back-claims = record { record-back = record-back; bytes_back = bytes_back }
