-- Laws of a record in a byte slice: what is read of one, and what its words are once written.
use Rattle.prelude.proofs.Prelude.{◌≡◌, refl, sym, ap, ◌∙◌, List, [], ◌∷◌, ◌++◌, ℕ, ◌*◌, arith, rules, length, take, drop, replicate, append-nil, eq-eqb, ne_eqb, length-append, length-drop, drop_of_length-le, take_at, length-take-le}
use lib.Seq.{drop_at}
use Rattle.refusals.specs.Refusals.{limit}
use Rattle.kron_reduction.specs.declared.KronReducer.{KronReducer}
use Rattle.number_bytes.specs.Bytes.{word, words, put_word, of_words}
use Rattle.number_bytes.proofs.BytesLaws.{words_take, length-of_words, length-put_word, written-more}
use Rattle.entries.specs.Records.{front_bytes, record_bytes, active_in, numbers_in, record_in, sizes_of, front_of, in_bytes}

-- ---- reading

pub numbers-read : (bs xs : List ℕ) (m : ℕ) → m ≡ limit → xs ≡ words 4 m (take (4 * limit) (drop front_bytes bs)) → xs ≡ numbers_in bs
unfolding numbers_in
numbers-read bs xs m e g = g ∙ ap (λ (k : ℕ). words 4 k (take (4 * limit) (drop front_bytes bs))) e ∙ words_take 4 limit (4 * limit) (drop front_bytes bs) (omega arith)

pub no_record : (bs : List ℕ) → (length bs ≡ record_bytes → ⊥) → record { made = 0; n_buses = 0; active_buses = replicate limit 0; numbers = replicate limit 0 } ≡ record_in bs
unfolding record_in
no_record bs n = sym (rw (ne_eqb (length bs) record_bytes n) refl)

pub record-read : (bs : List ℕ) (m n : ℕ) (xs ns : List ℕ) → length bs ≡ record_bytes → m ≡ word 8 bs 0 → n ≡ word 8 bs 8 → xs ≡ active_in bs → ns ≡ numbers_in bs
    → record { made = m; n_buses = n; active_buses = xs; numbers = ns } ≡ record_in bs
unfolding record_in
record-read bs m n xs ns l p q e g = rw (eq-eqb (length bs) record_bytes l) cc

-- ---- writing

-- what the sizes leave of the front
behind : (bs : List ℕ) → length bs ≡ front_bytes → length (drop 16 bs) ≡ limit
behind bs l = let d = length-drop 16 bs in omega (arith, d, l)

sizes : (bs : List ℕ) (m n : ℕ) → length bs ≡ front_bytes → take 16 (put_word 8 (put_word 8 bs 0 m) 8 n) ≡ of_words 8 (m ∷ n ∷ [])
unfolding of_words
sizes bs m n l =
    let long = length-put_word 8 bs 0 m in
    written-more 8 (put_word 8 bs 0 m) (m ∷ n ∷ []) 1 (omega (arith, long, l)) (omega arith)
    (written-more 8 bs (m ∷ n ∷ []) 0 (omega (arith, l)) (omega arith) refl)

-- the two sizes put in place, and the places written behind them
pub front-written : (bs cs ds part : List ℕ) (r : KronReducer) → length bs ≡ front_bytes → cs ≡ put_word 8 bs 0 r.made → ds ≡ put_word 8 cs 8 r.n_buses → part ≡ r.active_buses
    → take 16 ds ++ (part ++ drop limit (drop 16 ds)) ≡ front_of r
front-written bs cs ds part r l p q e =
    let two : ds ≡ put_word 8 (put_word 8 bs 0 r.made) 8 r.n_buses = cc in
    let front : take 16 ds ≡ of_words 8 (sizes_of r) = ap (take 16) two ∙ sizes bs r.made r.n_buses l in
    let d = behind ds (rw (q, length-put_word, p, length-put_word) l) in
    rw (front, drop_of_length-le (drop 16 ds) {i = limit} (omega (arith, d)), append-nil, e)

-- ---- the front written, and the numbers behind it

pub length_front : (r : KronReducer) → length r.active_buses ≡ limit → length (front_of r) ≡ front_bytes
length_front r full =
    let long = length-of_words 8 (sizes_of r) in
    length-append (of_words 8 (sizes_of r)) r.active_buses ∙ omega (arith, long, full)

module _ (bs front : List ℕ) (r : KronReducer) (l : length bs ≡ record_bytes) (full : length r.active_buses ≡ limit) (e : front ≡ front_of r) where
  beyond : drop front_bytes (front ++ drop front_bytes bs) ≡ drop front_bytes bs
  beyond = drop_at front (drop front_bytes bs) front_bytes (ap length e ∙ length_front r full)

  -- the room that the front leaves is as long as the numbers
  pub length-beyond : length r.numbers ≡ limit → length (take (4 * limit) (drop front_bytes (front ++ drop front_bytes bs))) ≡ 4 * length r.numbers
  length-beyond many =
      let d = length-drop front_bytes bs in
      rw (beyond, length-take-le (4 * limit) (drop front_bytes bs) (omega (arith, d, l)), many)

  pub record-written : (part : List ℕ) → part ≡ of_words 4 r.numbers
      → take front_bytes (front ++ drop front_bytes bs) ++ (part ++ drop (4 * limit) (drop front_bytes (front ++ drop front_bytes bs))) ≡ in_bytes r
  record-written part g =
      let d = length-drop front_bytes bs in
      let first = take_at front (drop front_bytes bs) front_bytes (ap length e ∙ length_front r full) in
      rw (first, beyond, drop_of_length-le (drop front_bytes bs) {i = 4 * limit} (omega (arith, d, l)), append-nil, e, g)

-- what the functions on records ask and return
pub ruleset recording = (no_record, record-read, front-written, length-beyond, record-written, rules)
