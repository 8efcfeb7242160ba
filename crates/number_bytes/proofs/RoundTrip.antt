-- Numbers and their bytes undo each other.
use Rattle.prelude.proofs.Prelude.{◌≡◌, refl, sym, ap, ◌∙◌, List, [], ◌∷◌, ◌++◌, ℕ, zero, suc, ◌+◌, ◌*◌, ◌≤◌, ◌<◌, add-one, arith, length, get_or, take, drop, Float, ap₂, map, ◌/◌, ◌%◌, ◌^◌, zero-add, length-map, take_all, drop-cons, ext_get_or, binary64, of_bits, to_bits}
use native.Mathlib.Numerals.{unary_clauses}
use lib.Seq.{take-add}
use lib.Ieee.Bits.{of_bits-to_bits, to_bits-lt}
use Rattle.binary64.specs.Values.{F64s}
use Rattle.lists.specs.Buses.{up_to}
use Rattle.number_bytes.specs.Bytes.{word, bytes_of, words, floats, of_words, of_floats}
use Rattle.number_bytes.specs.RoundTrip.{Below, RoundTrip}
use Rattle.number_bytes.proofs.BytesLaws.{words-suc, get_or_words, length-words, length-bytes_of, of_words-snoc}

-- ---- a number

word-cons : (k b : ℕ) (bs : List ℕ) (a : ℕ) → word k (b ∷ bs) (suc a) ≡ word k bs a
unfolding word
word-cons zero b bs a = refl
word-cons (suc k) b bs a = ap (λ (v : ℕ). get_or bs a 0 + 256 * v) (word-cons k b bs (suc a))

pub word-behind : (k : ℕ) (us bs : List ℕ) (a : ℕ) → word k (us ++ bs) (length us + a) ≡ word k bs a
word-behind k [] bs a = ap (word k bs) (zero-add a)
word-behind k (u ∷ us) bs a =
    let e : length (u ∷ us) + a ≡ suc (length us + a) = omega arith in
    ap (word k (u ∷ us ++ bs)) e ∙ word-cons k u (us ++ bs) (length us + a) ∙ word-behind k us bs a

pub word-front : (k w : ℕ) (bs : List ℕ) → w < 256 ^ k → word k (bytes_of k w ++ bs) 0 ≡ w
unfolding word bytes_of
word-front zero w bs h = omega (arith, h)
word-front (suc k) w bs h =
    let less : w / 256 < 256 ^ k = let g : w < 256 ^ k * 256 = simp unary_clauses at h in omega (arith, g) in
    let rest = word-cons k (w % 256) (bytes_of k (w / 256) ++ bs) 0 ∙ word-front k (w / 256) bs less in
    ap (λ (v : ℕ). w % 256 + 256 * v) rest ∙ omega arith

pub bytes-of-word : (k : ℕ) (bs : List ℕ) (a : ℕ) → Below 256 bs → a + k ≤ length bs → bytes_of k (word k bs a) ≡ take k (drop a bs)
unfolding word bytes_of
bytes-of-word zero bs a s h = refl
bytes-of-word (suc k) bs a s h =
    let b = s a in
    let v = word k bs (suc a) in
    let low : (get_or bs a 0 + 256 * v) % 256 ≡ get_or bs a 0 = omega (arith, b) in
    let high : (get_or bs a 0 + 256 * v) / 256 ≡ v = omega (arith, b) in
    ap₂ (λ (x : ℕ) (l : List ℕ). x ∷ l) low (ap (bytes_of k) high ∙ bytes-of-word k bs (suc a) s (omega (arith, h)))
    ∙ ap (take (suc k)) (sym (drop-cons bs a 0 (omega (arith, h))))

-- ---- many

word_of : (k : ℕ) (ws : List ℕ) (i : ℕ) → Below (256 ^ k) ws → i < length ws → word k (of_words k ws) (k * i) ≡ get_or ws i 0
unfolding of_words
word_of k [] i s h = absurd (omega (arith, h))
word_of k (w ∷ ws) zero s h = simp unary_clauses (word-front k w (of_words k ws) (s 0))
word_of k (w ∷ ws) (suc i) s h =
    let far : k * suc i ≡ length (bytes_of k w) + k * i = rw length-bytes_of (simp unary_clauses (omega arith)) in
    ap (word k (bytes_of k w ++ of_words k ws)) far ∙ word-behind k (bytes_of k w) (of_words k ws) (k * i) ∙ word_of k ws i (λ (j : ℕ). s (suc j)) (omega (arith, h))

words_back : (k : ℕ) (ws : List ℕ) → Below (256 ^ k) ws → words k (length ws) (of_words k ws) ≡ ws
words_back k ws s =
    let long = length-words k (length ws) (of_words k ws) in
    ext_get_or 0 (words k (length ws) (of_words k ws)) ws long λ (i : ℕ) (h : i < length (words k (length ws) (of_words k ws))).
    let l : i < length ws = omega (arith, h, long) in get_or_words k (length ws) (of_words k ws) i l ∙ word_of k ws i s l

pub front : (k n : ℕ) (bs : List ℕ) → Below 256 bs → k * n ≤ length bs → of_words k (words k n bs) ≡ take (k * n) bs
unfolding words up_to of_words
front k zero bs s h = simp unary_clauses refl
front k (suc n) bs s h =
    let far : k * suc n ≡ k * n + k = simp unary_clauses (omega arith) in
    ap (λ (m : ℕ). of_words k (words k m bs)) (sym (add-one n))
    ∙ ap (of_words k) (words-suc k n bs)
    ∙ of_words-snoc k (words k n bs) (word k bs (k * n))
    ∙ ap₂ (λ (x y : List ℕ). x ++ y) (front k n bs s (omega (arith, h, far))) (bytes-of-word k bs (k * n) s (omega (arith, h, far)))
    ∙ sym (take-add (k * n) k bs)
    ∙ ap (λ (m : ℕ). take m bs) (sym far)

bytes_back : (k n : ℕ) (bs : List ℕ) → Below 256 bs → length bs ≡ k * n → of_words k (words k n bs) ≡ bs
bytes_back k n bs s e = front k n bs s (omega (arith, e)) ∙ take_all (k * n) bs (omega (arith, e))

-- ---- binary64

words-below : (xs : List Float) → F64s xs → Below (256 ^ 8) (map (to_bits binary64) xs)
words-below [] f i = omega arith
words-below (x ∷ xs) f zero = to_bits-lt binary64 x (f 0)
words-below (x ∷ xs) f (suc i) = words-below xs (λ (j : ℕ). f (suc j)) i

bits_back : (xs : List Float) → F64s xs → map (of_bits binary64) (map (to_bits binary64) xs) ≡ xs
bits_back [] f = refl
bits_back (x ∷ xs) f = ap₂ (λ (y : Float) (l : List Float). y ∷ l) (of_bits-to_bits binary64 x (f 0)) (bits_back xs (λ (j : ℕ). f (suc j)))

floats-back : (xs : List Float) → F64s xs → floats (length xs) (of_floats xs) ≡ xs
floats-back xs f =
    let ws = map (to_bits binary64) xs in
    ap (λ (n : ℕ). map (of_bits binary64) (words 8 n (of_words 8 ws))) (sym (length-map xs (to_bits binary64)))
    ∙ ap (map (of_bits binary64)) (words_back 8 ws (words-below xs f))
    ∙ bits_back xs f

pub round_trip : RoundTrip
round_trip = record { words_back = words_back; floats-back = floats-back; bytes_back = bytes_back }
