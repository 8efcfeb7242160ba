-- A list that is filled from the front, one store a turn: what is written so far stands before what was there.
use Rattle.prelude.proofs.Prelude.{◌≡◌, refl, sym, ap, ◌∙◌, List, [], ◌∷◌, ◌++◌, ℕ, zero, suc, ◌+◌, ◌-◌, ◌≤◌, ◌<◌, add-one, arith, length, get_or, take, drop, replicate, append_assoc, sub-zero, set, length-replicate, length-set, length-take-le, drop_of_length-le, drop-cons, take_all, take_at, take-suc, drop-drop, get_or-drop, add-zero}
use native.Mathlib.Nat.{zero-sub, suc-sub-suc}
use lib.ListN.{replicate-append-replicate}
use lib.Seq.{set_at, drop_at, get_or-append-add}

module _ {ℓ} {A : Type ℓ} where
  -- the next place is written
  pub front-next : (xs d : List A) (k : ℕ) (v : A) → length xs ≡ k → k < length d
      → set (xs ++ drop k d) k v ≡ (xs ++ (v ∷ [])) ++ drop (k + 1) d
  front-next xs d k v e h =
      ap (λ (l : List A). set (xs ++ l) k v) (drop-cons d k v h)
      ∙ set_at xs (get_or d k v) (drop (suc k) d) v k e
      ∙ rw (add-one, append_assoc)

  -- a row of k is written, as a part that was lent and came back
  pub front-row : (xs ys d s : List A) (a k : ℕ) → s ≡ xs ++ drop a d → length xs ≡ a
      → take a s ++ (ys ++ drop (a + k - a) (drop a s)) ≡ (xs ++ ys) ++ drop (a + k) d
  front-row xs ys d s a k e l =
      let h : a + (a + k - a) ≡ a + k = omega arith in
      rw (e, take_at xs (drop a d) a l, drop_at xs (drop a d) a l, drop-drop, h, append_assoc)

  append-nil : (l : List A) → l ++ [] ≡ l
  append-nil [] = refl
  append-nil (x ∷ l) = ap (λ (t : List A). x ∷ t) (append-nil l)

  -- all of it is written
  pub front-end : (xs d : List A) (k : ℕ) → length d ≤ k → xs ++ drop k d ≡ xs
  front-end xs d k h = rw (drop_of_length-le d h) (append-nil xs)

  -- n times v, and one more
  pub replicate_next : (n : ℕ) (v : A) → replicate (n + 1) v ≡ replicate n v ++ (v ∷ [])
  replicate_next n v = sym (replicate-append-replicate n 1 v)

  pub drop-replicate : (n k : ℕ) (v : A) → drop k (replicate n v) ≡ replicate (n - k) v
  drop-replicate n zero v = rw sub-zero
  drop-replicate zero (suc k) v = rw zero-sub
  drop-replicate (suc n) (suc k) v = drop-replicate n k v ∙ rw suc-sub-suc

  -- a fill with one value
  pub fill-next : (n : ℕ) (v : A) (d : List A) → n < length d → set (replicate n v ++ drop n d) n v ≡ replicate (n + 1) v ++ drop (n + 1) d
  fill-next n v d h =
      front-next (replicate n v) d n v (length-replicate n v) h ∙ ap (λ (l : List A). l ++ drop (n + 1) d) (sym (replicate_next n v))

  pub fill-all : (n : ℕ) (v : A) (d : List A) → length d ≤ n → replicate n v ++ drop n d ≡ replicate n v
  fill-all n v d h = front-end (replicate n v) d n h

-- ---- a loop that fills a list from the front: the first i of xs stand in it, then what was there

module _ {A : Type 0} where
  pub record Filling (xs old now : List A) (i : ℕ) : Type 0 where
    pub long : length now ≡ length old
    pub room : i ≤ length old
    pub most : i ≤ length xs
    pub holds : now ≡ take i xs ++ drop i old

  pub filling-start : (xs old : List A) → Filling xs old old 0
  filling-start xs old = record { long = refl; room = omega arith; most = omega arith; holds = refl }

  module _ (xs old now : List A) (i : ℕ) (s : Filling xs old now i) where
    pub filling-more : (d v : A) → i < length xs → i < length now → v ≡ get_or xs i d → Filling xs old (set now i v) (i + 1)
    filling-more d v h l e =
        let within : i < length old = omega (arith, s.long) in
        record {
          long = length-set now i v ∙ s.long;
          room = omega arith;
          most = omega arith;
          holds = rw (s.holds, front-next (take i xs) old i v (length-take-le i xs s.most) within, e, add-one, take-suc xs i d h);
        }

    -- the next place is as it was
    pub filling-ahead : (d : A) → get_or now i d ≡ get_or old i d
    filling-ahead d =
        let e : length (take i xs) ≡ i = length-take-le i xs s.most in
        let at : get_or (take i xs ++ drop i old) (length (take i xs) + 0) d ≡ get_or old (i + 0) d = get_or-append-add (take i xs) (drop i old) 0 d ∙ get_or-drop i old 0 d in
        rw s.holds (rw (e, add-zero) at at)

    -- every place is filled
    pub filling-front : length now ≤ i → now ≡ take (length old) xs
    filling-front h =
        let e : i ≡ length old = omega (arith, s.long, s.room) in
        s.holds ∙ rw (e, front-end (take (length old) xs) old (length old) (omega arith))

    pub filling-whole : length xs ≡ length old → length now ≤ i → now ≡ xs
    filling-whole e h = filling-front h ∙ take_all (length old) xs (omega arith)

    -- all of xs stands there
    pub filling-end : length xs ≤ i → now ≡ xs ++ drop (length xs) old
    filling-end h =
        let e : i ≡ length xs = omega (arith, s.most) in
        s.holds ∙ rw (e, take_all (length xs) xs (omega arith))
