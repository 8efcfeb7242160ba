-- Laws of numbers read and written: one more of them, how many there are, and a number in its place.
use Rattle.prelude.proofs.Prelude.{get_or-drop, drop-drop, add-zero, ◌^◌, ◌≡◌, refl, sym, ap, ◌∙◌, List, [], ◌∷◌, ◌++◌, ℕ, zero, suc, ◌+◌, ◌*◌, ◌≤◌, ◌<◌, add-one, arith, length, get_or, take, drop, ap₂, map, append_assoc, append-nil, ◌/◌, ◌%◌, set, length-append, length-map, sets, take_all, take_at, take-suc, get_or-take, length-take-le, mul-le-mul_left}
use native.Mathlib.Numerals.{towards_suc, unary_clauses}
use lib.Seq.{sets-eq, length-sets, take-suc-set}
use Rattle.lists.specs.Buses.{up_to}
use Rattle.lists.proofs.Order.{length-up_to, get_or-up_to}
use Rattle.lists.proofs.Lookups.{get_or_map}
use Rattle.lists.proofs.Fronts.{Filling, filling-start, filling-more, filling-whole}
use Rattle.number_bytes.specs.Bytes.{word, bytes_of, put_word, words, of_words}

map-append : {A B : Type 0} (f : A → B) (xs ys : List A) → map f (xs ++ ys) ≡ map f xs ++ map f ys
map-append f [] ys = refl
map-append f (x ∷ xs) ys = ap (λ l. f x ∷ l) (map-append f xs ys)

-- ---- reading

-- A slice that is filled with the elements of a growing list: one more of them.
pub filled_more : {A : Type 0} (seq : ℕ → List A) (out : List A) (i : ℕ) (v : A) → i < length out → take i out ≡ seq i → seq (i + 1) ≡ seq i ++ (v ∷ []) → take (i + 1) (set out i v) ≡ seq (i + 1)
filled_more seq out i v h e g = rw add-one (take-suc-set out i v h) ∙ ap (λ f. f ++ (v ∷ [])) e ∙ sym g

pub words-suc : (k n : ℕ) (bs : List ℕ) → words k (n + 1) bs ≡ words k n bs ++ (word k bs (k * n) ∷ [])
unfolding words up_to
words-suc k n bs = rw add-one (map-append (λ (i : ℕ). word k bs (k * i)) (up_to n) (n ∷ []))

word-take : (k m : ℕ) (bs : List ℕ) (a : ℕ) → a + k ≤ m → word k (take m bs) a ≡ word k bs a
unfolding word
word-take zero m bs a h = refl
word-take (suc k) m bs a h = ap₂ (λ (x v : ℕ). x + 256 * v) (get_or-take m bs a 0 (omega (arith, h))) (word-take k m bs (suc a) (omega (arith, h)))

-- what stands behind the numbers is not read
pub words_take : (k n m : ℕ) (bs : List ℕ) → k * n ≤ m → words k n (take m bs) ≡ words k n bs
unfolding words up_to
words_take k zero m bs h = refl
words_take k (suc n) m bs h =
    let far : k * suc n ≡ k * n + k = simp unary_clauses (omega arith) in
    ap (λ (j : ℕ). words k j (take m bs)) (sym (add-one n))
    ∙ words-suc k n (take m bs)
    ∙ ap₂ (λ (ws : List ℕ) (w : ℕ). ws ++ (w ∷ [])) (words_take k n m bs (omega (arith, h, far))) (word-take k m bs (k * n) (omega (arith, h, far)))
    ∙ sym (words-suc k n bs)
    ∙ ap (λ (j : ℕ). words k j bs) (add-one n)

pub length-words : (k n : ℕ) (bs : List ℕ) → length (words k n bs) ≡ n
unfolding words
length-words k n bs = length-map (up_to n) (λ (i : ℕ). word k bs (k * i)) ∙ length-up_to n

pub get_or_words : (k n : ℕ) (bs : List ℕ) (i : ℕ) → i < n → get_or (words k n bs) i 0 ≡ word k bs (k * i)
unfolding words
get_or_words k n bs i h = get_or_map (λ (j : ℕ). word k bs (k * j)) 0 0 (up_to n) i (rw length-up_to h) ∙ ap (λ (j : ℕ). word k bs (k * j)) (get_or-up_to n i 0 h)

-- A slice that is filled with what the numbers in bs stand for: one more is read, or all are.
module _ {A : Type 0} (k : ℕ) (of : ℕ → A) (bs : List ℕ) (old out : List A) (i : ℕ) (s : Filling (map of (words k (length old) bs)) old out i) where
  count : length (map of (words k (length old) bs)) ≡ length old
  count = length-map (words k (length old) bs) of ∙ length-words k (length old) bs

  pub read_more : (v : A) → i < length out → v ≡ of (word k bs (k * i)) → Filling (map of (words k (length old) bs)) old (set out i v) (i + 1)
  read_more v h e =
      let l : i < length old = omega (arith, s.long) in
      filling-more (map of (words k (length old) bs)) old out i s v v (rw count l) h
      (e ∙ ap of (sym (get_or_words k (length old) bs i l)) ∙ sym (get_or_map of 0 v (words k (length old) bs) i (rw length-words l)))

  pub read_all : length out ≤ i → out ≡ map of (words k (length old) bs)
  read_all = filling-whole (map of (words k (length old) bs)) old out i s count

pub ruleset reading = (filling-start, read_more, read_all)

-- a number by its bytes, which stand alone or as a part of more
word-drop : (k : ℕ) (bs : List ℕ) (a b : ℕ) → word k (drop a bs) b ≡ word k bs (a + b)
unfolding word
word-drop zero bs a b = refl
word-drop (suc k) bs a b = ap₂ (λ (x v : ℕ). x + 256 * v) (get_or-drop a bs b 0) (word-drop k bs a (suc b) ∙ (let e : a + suc b ≡ suc (a + b) = omega arith in ap (word k bs) e))

word-part : (k n : ℕ) (bs part : List ℕ) (a : ℕ) → k ≤ n → part ≡ take n (drop a bs) → word k part 0 ≡ word k bs a
word-part k n bs part a h e = ap (λ (l : List ℕ). word k l 0) e ∙ word-take k n (drop a bs) 0 (omega (arith, h)) ∙ word-drop k bs a 0 ∙ ap (word k bs) (add-zero a)

pub word-4 : (bs part : List ℕ) (a n : ℕ) → n ≡ 4 → part ≡ take n (drop a bs)
    → get_or part 0 0 + get_or part 1 0 * 256 + get_or part 2 0 * 65536 + get_or part 3 0 * 16777216 ≡ word 4 bs a
unfolding word
word-4 bs part a n m e = omega (arith, word-part 4 n bs part a (omega arith) e)

pub word-8 : (bs part : List ℕ) (a n : ℕ) → n ≡ 8 → part ≡ take n (drop a bs)
    → get_or part 0 0 + get_or part 1 0 * 256 + get_or part 2 0 * 256 ^ 2 + get_or part 3 0 * 256 ^ 3 + get_or part 4 0 * 256 ^ 4 + get_or part 5 0 * 256 ^ 5 + get_or part 6 0 * 256 ^ 6 + get_or part 7 0 * 256 ^ 7 ≡ word 8 bs a
unfolding word
word-8 bs part a n m e = omega (arith, word-part 8 n bs part a (omega arith) e)

-- a word is its two halves
pub word-halves : (bs : List ℕ) (a : ℕ) → word 4 bs a + 0x1_0000_0000 * word 4 bs (a + 4) ≡ word 8 bs a
unfolding word
word-halves bs a = simp towards_suc (omega arith)

-- ---- writing

pub length-bytes_of : (k w : ℕ) → length (bytes_of k w) ≡ k
unfolding bytes_of
length-bytes_of zero w = refl
length-bytes_of (suc k) w = ap suc (length-bytes_of k (w / 256))

pub length-of_words : (k : ℕ) (ws : List ℕ) → length (of_words k ws) ≡ k * length ws
unfolding of_words
length-of_words k [] = simp unary_clauses refl
length-of_words k (w ∷ ws) = let e = length-of_words k ws in simp unary_clauses (rw (length-append, length-bytes_of) (omega (arith, e)))

of_words-append : (k : ℕ) (us ws : List ℕ) → of_words k (us ++ ws) ≡ of_words k us ++ of_words k ws
unfolding of_words
of_words-append k [] ws = refl
of_words-append k (u ∷ us) ws = rw (of_words-append k us ws) (sym (append_assoc (bytes_of k u) (of_words k us) (of_words k ws)))

pub of_words-snoc : (k : ℕ) (us : List ℕ) (w : ℕ) → of_words k (us ++ (w ∷ [])) ≡ of_words k us ++ bytes_of k w
unfolding of_words
of_words-snoc k us w = of_words-append k us (w ∷ []) ∙ ap (λ (l : List ℕ). of_words k us ++ l) (append-nil (bytes_of k w))

pub bytes-4 : (w : ℕ) → w % 256 ∷ w / 256 % 256 ∷ w / 65536 % 256 ∷ w / 16777216 % 256 ∷ [] ≡ bytes_of 4 w
unfolding bytes_of
bytes-4 w =
    let d2 : w / 65536 ≡ w / 256 / 256 = omega arith in
    let d3 : w / 16777216 ≡ w / 256 / 256 / 256 = omega (arith, d2) in
    rw (d2, d3) refl

pub bytes-8 : (w : ℕ) → w % 256 ∷ w / 256 % 256 ∷ w / 65536 % 256 ∷ w / 16777216 % 256 ∷ w / 256 ^ 4 % 256 ∷ w / 256 ^ 5 % 256 ∷ w / 256 ^ 6 % 256 ∷ w / 256 ^ 7 % 256 ∷ [] ≡ bytes_of 8 w
unfolding bytes_of
bytes-8 w =
    let d2 : w / 65536 ≡ w / 256 / 256 = omega arith in
    let d3 : w / 16777216 ≡ w / 256 / 256 / 256 = omega (arith, d2) in
    let d4 : w / 256 ^ 4 ≡ w / 256 / 256 / 256 / 256 = omega (arith, d3) in
    let d5 : w / 256 ^ 5 ≡ w / 256 / 256 / 256 / 256 / 256 = omega (arith, d4) in
    let d6 : w / 256 ^ 6 ≡ w / 256 / 256 / 256 / 256 / 256 / 256 = omega (arith, d5) in
    let d7 : w / 256 ^ 7 ≡ w / 256 / 256 / 256 / 256 / 256 / 256 / 256 = omega (arith, d6) in
    rw (d2, d3, d4, d5, d6, d7) refl

low_same : (x q y : ℕ) → x ≡ 256 * q + y → x % 256 ≡ y % 256
low_same x q y e = omega (arith, e)

-- a word's bytes are those of its two halves
pub bytes_halves : (w : ℕ) → bytes_of 8 w ≡ bytes_of 4 (w % 0x1_0000_0000) ++ bytes_of 4 (w / 0x1_0000_0000)
unfolding bytes_of
bytes_halves w =
    let d1 : w / 256 ≡ 0x100_0000 * (w / 0x1_0000_0000) + w % 0x1_0000_0000 / 256 = omega arith in
    let d2 : w / 256 / 256 ≡ 0x1_0000 * (w / 0x1_0000_0000) + w % 0x1_0000_0000 / 256 / 256 = omega (arith, d1) in
    let d3 : w / 256 / 256 / 256 ≡ 0x100 * (w / 0x1_0000_0000) + w % 0x1_0000_0000 / 256 / 256 / 256 = omega (arith, d2) in
    let e0 : w % 256 ≡ w % 0x1_0000_0000 % 256 = omega arith in
    let e1 : w / 256 % 256 ≡ w % 0x1_0000_0000 / 256 % 256 = omega (arith, d1) in
    let e2 : w / 256 / 256 % 256 ≡ w % 0x1_0000_0000 / 256 / 256 % 256 = omega (arith, d2) in
    let e3 : w / 256 / 256 / 256 % 256 ≡ w % 0x1_0000_0000 / 256 / 256 / 256 % 256 = low_same (w / 256 / 256 / 256) (w / 0x1_0000_0000) (w % 0x1_0000_0000 / 256 / 256 / 256) d3 in
    let e4 : w / 256 / 256 / 256 / 256 ≡ w / 0x1_0000_0000 = omega (arith, d3) in
    rw (e4, ← e0, ← e1, ← e2, ← e3) refl

pub put-halves : (bs : List ℕ) (a w : ℕ) → put_word 4 (put_word 4 bs a (w % 0x1_0000_0000)) (a + 4) (w / 0x1_0000_0000) ≡ put_word 8 bs a w
unfolding put_word bytes_of
put-halves bs a w = simp towards_suc (ap (sets bs a) (sym (bytes_halves w)))

-- a part that is lent to be written, and comes back
pub put-part : (k : ℕ) (bs part : List ℕ) (a n w : ℕ) → n ≡ k → a + k ≤ length bs → part ≡ bytes_of k w → take a bs ++ (part ++ drop n (drop a bs)) ≡ put_word k bs a w
unfolding put_word
put-part k bs part a n w m h e =
    rw (e, m, drop-drop, ← append_assoc)
    (ap (λ (j : ℕ). take a bs ++ bytes_of k w ++ drop (a + j) bs) (sym (length-bytes_of k w)) ∙ sym (sets-eq (bytes_of k w) bs a (rw length-bytes_of h)))

pub length-put_word : (k : ℕ) (bs : List ℕ) (a w : ℕ) → length (put_word k bs a w) ≡ length bs
unfolding put_word
length-put_word k bs a w = length-sets bs a (bytes_of k w)

-- what stands before the next place, once the number is written
front-put_word : (k : ℕ) (bs : List ℕ) (a w : ℕ) → a + k ≤ length bs → take (a + k) (put_word k bs a w) ≡ take a bs ++ bytes_of k w
unfolding put_word
front-put_word k bs a w h =
    ap (take (a + k)) (sets-eq (bytes_of k w) bs a (rw length-bytes_of h))
    ∙ take_at (take a bs ++ bytes_of k w) (drop (a + length (bytes_of k w)) bs) (a + k)
    (length-append (take a bs) (bytes_of k w) ∙ ap (λ (n : ℕ). n + length (bytes_of k w)) (length-take-le a bs (omega arith)) ∙ ap (λ (n : ℕ). a + n) (length-bytes_of k w))

-- One more number written: the loops' step, over the list of numbers that are to be written.
pub written-more : (k : ℕ) (bs ws : List ℕ) (i : ℕ) → k * (i + 1) ≤ length bs → i < length ws → take (k * i) bs ≡ of_words k (take i ws)
    → take (k * (i + 1)) (put_word k bs (k * i) (get_or ws i 0)) ≡ of_words k (take (i + 1) ws)
written-more k bs ws i h l e =
    let n : k * (i + 1) ≡ k * i + k = simp (add-one, unary_clauses) (omega arith) in
    ap (λ (j : ℕ). take j (put_word k bs (k * i) (get_or ws i 0))) n
    ∙ front-put_word k bs (k * i) (get_or ws i 0) (omega (arith, h, n))
    ∙ ap (λ (f : List ℕ). f ++ bytes_of k (get_or ws i 0)) e
    ∙ sym (of_words-snoc k (take i ws) (get_or ws i 0))
    ∙ ap (of_words k) (sym (take-suc ws i 0 l))
    ∙ ap (λ (j : ℕ). of_words k (take j ws)) (sym (add-one i))

-- the first i of the numbers ws are written, k bytes each
pub record Writing (k : ℕ) (ws old now : List ℕ) (i : ℕ) : Type 0 where
  pub long : length now ≡ length old
  pub most : i ≤ length ws
  pub front : take (k * i) now ≡ of_words k (take i ws)

pub writing_start : (k : ℕ) (ws old : List ℕ) → Writing k ws old old 0
unfolding of_words
writing_start k ws old = record { long = refl; most = omega arith; front = simp unary_clauses refl }

module _ (k : ℕ) (ws old now : List ℕ) (i : ℕ) (s : Writing k ws old now i) (e : length old ≡ k * length ws) where
  pub writing_more : (then : List ℕ) → i < length ws → then ≡ put_word k now (k * i) (get_or ws i 0) → Writing k ws old then (i + 1)
  writing_more then h g =
      let m : k * (i + 1) ≤ k * length ws = mul-le-mul_left k (omega arith) in
      record {
        long = ap length g ∙ length-put_word k now (k * i) (get_or ws i 0) ∙ s.long;
        most = omega arith;
        front = rw g (written-more k now ws i (omega (arith, s.long)) h s.front);
      }

  pub writing-all : length ws ≤ i → now ≡ of_words k ws
  writing-all h =
      let m = mul-le-mul_left k h in
      sym (take_all (k * i) now (omega (arith, s.long))) ∙ s.front ∙ ap (of_words k) (take_all i ws h)

-- The loop's step, over the numbers that the whole numbers stand for.
pub written_of : {A : Type 0} (k : ℕ) (to : A → ℕ) (xs : List A) (old now : List ℕ) (i : ℕ) (x : A) → Writing k (map to xs) old now i → length old ≡ k * length xs
    → (then : List ℕ) → i < length xs → x ≡ get_or xs i x → then ≡ put_word k now (k * i) (to x) → Writing k (map to xs) old then (i + 1)
written_of k to xs old now i x s e then h q p =
    writing_more k (map to xs) old now i s (rw length-map e) then (rw length-map h)
    (p ∙ ap (λ (y : _). put_word k now (k * i) (to y)) q ∙ ap (put_word k now (k * i)) (sym (get_or_map to x 0 xs i h)))

pub all_written : {A : Type 0} (k : ℕ) (to : A → ℕ) (xs : List A) (old now : List ℕ) (i : ℕ) → Writing k (map to xs) old now i → length old ≡ k * length xs
    → length xs ≤ i → now ≡ of_words k (map to xs)
all_written k to xs old now i s e h = writing-all k (map to xs) old now i s (rw length-map e) (rw length-map h)

pub ruleset writing = (writing_start, written_of, all_written)
