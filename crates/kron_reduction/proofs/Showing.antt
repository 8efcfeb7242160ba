-- A state whose matrix stands at a slice's front, and what is left of it when a row and a column drop out.
use Rattle.prelude.proofs.Prelude.{◌≡◌, refl, sym, ap, ◌∙◌, inl, inr, List, [], ◌∷◌, ◌++◌, ℕ, zero, suc, ◌+◌, ◌-◌, ◌*◌, ◌≤◌, ◌<◌, arith, T, length, get_or, take, drop, replicate, set, Float, ap₂, length-append, length-drop, length-replicate, List·getD-append, length-take-le, get_or-take, get_or-drop, ext_get_or}
use lib.Seq.{get_or-append-add}
use Rattle.complex.specs.{Matrix, entry_at, rows}
use Rattle.complex.proofs.Entries.{entry-take}
use Rattle.complex.proofs.Matrices.{rows_ext, entry-within}
use Rattle.refusals.specs.Refusals.{limit}
use Rattle.lists.specs.Buses.{◌is_one_of◌, place, others, rising}
use Rattle.kron_reduction.specs.Kron.{new_entry, kron, State, remove}
use Rattle.kron_reduction.specs.Inner.Removal.{old_row, StandsIn}
use Rattle.kron_reduction.specs.Reducer.{padded, state_in}
use Rattle.lists.proofs.Buses.{get_or-in, place-lt, get_or-place, place-get_or, others-one}
use Rattle.lists.proofs.Fronts.{Filling, filling-more, filling-end, drop-replicate}
use Rattle.kron_reduction.proofs.States.{Agree}
use Rattle.lists.proofs.Order.{lt-or-ge}
use Rattle.kron_reduction.proofs.Positions.{kept-before, kept-after, kept-lt}

-- ---- the places of a record

pub get_or-zeros : (n i : ℕ) → get_or {A = ℕ} (replicate n 0) i 0 ≡ 0
get_or-zeros zero i = refl
get_or-zeros (suc n) zero = refl
get_or-zeros (suc n) (suc i) = get_or-zeros n i

pub length-padded : (xs : List ℕ) → length xs ≤ limit → length (padded xs) ≡ limit
length-padded xs h = simp (length-append, length-replicate) (omega arith)

pub get_or-padded : (xs : List ℕ) (p : ℕ) → p < length xs → get_or (padded xs) p 0 ≡ get_or xs p 0
get_or-padded xs p h = List·getD-append xs (replicate (limit - length xs) 0) 0 p h

pub get_or-behind : (xs : List ℕ) (p : ℕ) → length xs ≤ p → get_or (padded xs) p 0 ≡ 0
get_or-behind xs p h =
    let e : p ≡ length xs + (p - length xs) = omega arith in
    ap (λ (i : ℕ). get_or (padded xs) i 0) e ∙ get_or-append-add xs (replicate (limit - length xs) 0) (p - length xs) 0 ∙ get_or-zeros (limit - length xs) (p - length xs)

-- a loop that writes the n of xs into zeros: the first i are written
abbrev pub Places : List ℕ → List ℕ → ℕ → Type 0
Places xs now i = Filling xs (replicate limit 0) now i

module _ (xs now : List ℕ) (n i : ℕ) (e : length xs ≡ n) (s : Places xs now i) where
  pub places-more : (v : ℕ) → n ≤ limit → i < n → v ≡ get_or xs i 0 → Places xs (set now i v) (i + 1)
  places-more v small h g = filling-more xs (replicate limit 0) now i s 0 v (omega arith) (rw (s.long, length-replicate) (omega arith)) g

  pub places-end : n ≤ i → now ≡ padded xs
  places-end h = filling-end xs (replicate limit 0) now i s (omega arith) ∙ rw drop-replicate

-- ---- one bus drops out

module _ (k : ℕ) (xs : List ℕ) (r : T (rising xs)) (m : k is_one_of xs) where
  pub length-others-one : length (others (k ∷ []) xs) ≡ length xs - 1
  length-others-one =
      let h = place-lt k xs m in
      ap length (others-one k xs r m) ∙ simp (length-append, length-take-le (place k xs) xs (omega arith), length-drop) (omega arith)

  pub get_or-others-one : (p : ℕ) → p < length xs - 1 → get_or (others (k ∷ []) xs) p 0 ≡ get_or xs (old_row (place k xs) p) 0
  get_or-others-one p h = ap (λ (l : List ℕ). get_or l p 0) (others-one k xs r m) ∙ elim (lt-or-ge p at) [ inl l ↦ before l | inr l ↦ after l ]
    where
      at : ℕ
      at = place k xs

      long : length (take at xs) ≡ at
      long = let h = place-lt k xs m in length-take-le at xs (omega arith)

      before : p < at → get_or (take at xs ++ drop (suc at) xs) p 0 ≡ get_or xs (old_row at p) 0
      before l = List·getD-append (take at xs) (drop (suc at) xs) 0 p (rw long l) ∙ get_or-take at xs p 0 l ∙ ap (λ (i : ℕ). get_or xs i 0) (sym (kept-before at p l))

      after : at ≤ p → get_or (take at xs ++ drop (suc at) xs) p 0 ≡ get_or xs (old_row at p) 0
      after l =
          let e : p ≡ length (take at xs) + (p - at) = rw long (omega arith) in
          let f : suc at + (p - at) ≡ suc p = omega arith in
          ap (λ (i : ℕ). get_or (take at xs ++ drop (suc at) xs) i 0) e
          ∙ get_or-append-add (take at xs) (drop (suc at) xs) (p - at) 0
          ∙ get_or-drop (suc at) xs (p - at) 0
          ∙ ap (λ (i : ℕ). get_or xs i 0) (f ∙ sym (kept-after at p l))

  pub place-others-one : (p : ℕ) → p < length xs - 1 → place (get_or (others (k ∷ []) xs) p 0) xs ≡ old_row (place k xs) p
  place-others-one p h = ap (λ (x : ℕ). place x xs) (get_or-others-one p h) ∙ place-get_or xs (old_row (place k xs) p) r (kept-lt (place k xs) p (length xs) h)

  -- the places as the code closes them up
  pub places-closed : (bs cs : List ℕ) → length xs ≤ limit → bs ≡ padded xs → length cs ≡ length bs
      → ((p : ℕ) → p < length xs - 1 → get_or cs p 0 ≡ get_or bs (old_row (place k xs) p) 0) → get_or cs (length xs - 1) 0 ≡ 0
      → ((p : ℕ) → length xs ≤ p → get_or cs p 0 ≡ get_or bs p 0) → cs ≡ padded (others (k ∷ []) xs)
  places-closed bs cs small e long moved last rest = ext_get_or 0 cs (padded left) (long ∙ ap length e ∙ length-padded xs small ∙ sym (length-padded left fewer)) λ (p : ℕ) (_ : p < length cs). at p
    where
      left : List ℕ
      left = others (k ∷ []) xs

      some : 0 < length xs
      some = let h = place-lt k xs m in omega arith

      fewer : length left ≤ limit
      fewer = rw length-others-one (omega arith)

      behind : (p : ℕ) → length xs - 1 ≤ p → get_or cs p 0 ≡ 0
      behind p l = elim (lt-or-ge p (length xs)) [
        | inl u ↦ let f : p ≡ length xs - 1 = omega arith in rw f last
        | inr u ↦ rest p u ∙ ap (λ (l : List ℕ). get_or l p 0) e ∙ get_or-behind xs p u
      ]

      at : (p : ℕ) → get_or cs p 0 ≡ get_or (padded left) p 0
      at p = elim (lt-or-ge p (length xs - 1)) [
        | inl l ↦ moved p l ∙ ap (λ (l : List ℕ). get_or l (old_row (place k xs) p) 0) e ∙ get_or-padded xs (old_row (place k xs) p) (kept-lt (place k xs) p (length xs) l) ∙ sym (get_or-others-one p l) ∙ sym (get_or-padded left p (rw length-others-one l))
        | inr l ↦ behind p l ∙ sym (get_or-behind left p (rw length-others-one l))
      ]

  -- the rows as the code closes them up
  pub shows-removed : (n : ℕ) (ys zs : List Float) → length xs ≡ n
      → ((p q : ℕ) → p < n - 1 → q < n - 1 → entry_at (n - 1) zs p q ≡ kron (place k xs) (entry_at n ys) (old_row (place k xs) p) (old_row (place k xs) q))
      → StandsIn (remove (state_in n xs ys) k) zs
  unfolding kron
  shows-removed n ys zs long h p q u v =
      let e : length (others (k ∷ []) xs) ≡ n - 1 = length-others-one ∙ ap (λ (i : ℕ). i - 1) long in
      let u' : p < n - 1 = rw e at u in
      let v' : q < n - 1 = rw e at v in
      let P = place-others-one p (rw long u') in
      let Q = place-others-one q (rw long v') in
      let Y : Matrix = entry_at n ys in
      let K = place k xs in
      ap (λ (w : ℕ). entry_at w zs p q) e ∙ h p q u' v' ∙ sym (ap₂ (λ (a b : ℕ). new_entry (Y a b) (Y a K) (Y K b) (Y K K)) P Q)

-- ---- the slice's own state, and others that agree with it

pub shown-shows : (n : ℕ) (xs : List ℕ) (ys : List Float) → T (rising xs) → length xs ≡ n → StandsIn (state_in n xs ys) ys
shown-shows n xs ys r e p q u v = ap (λ (w : ℕ). entry_at w ys p q) e ∙ sym (ap₂ (entry_at n ys) (place-get_or xs p r u) (place-get_or xs q r v))

pub shows-agree : (s : State) (n : ℕ) (ys : List Float) → length s.active ≡ n → StandsIn s ys → Agree (state_in n s.active ys) s
shows-agree s n ys e h = record {
  active = refl;
  entries = λ (i j : ℕ). λ x y.
      ap (λ (w : ℕ). entry_at w ys (place i s.active) (place j s.active)) (sym e)
      ∙ h (place i s.active) (place j s.active) (place-lt i s.active x) (place-lt j s.active y)
      ∙ ap₂ s.entries (get_or-place i s.active x) (get_or-place j s.active y);
}

pub agree-shows : (s t : State) (ys : List Float) → Agree s t → StandsIn s ys → StandsIn t ys
agree-shows s t ys a h p q u v =
    let e = a.active in
    let u' : p < length s.active = rw e u in
    let v' : q < length s.active = rw e v in
    ap (λ (xs : List ℕ). entry_at (length xs) ys p q) (sym e)
    ∙ h p q u' v'
    ∙ a.entries (get_or s.active p 0) (get_or s.active q 0) (get_or-in s.active p u') (get_or-in s.active q v')
    ∙ ap₂ t.entries (ap (λ (xs : List ℕ). get_or xs p 0) e) (ap (λ (xs : List ℕ). get_or xs q 0) e)

-- ---- the rows at the front of a slice

pub entry_at-take : (w n : ℕ) (ys : List Float) (p q : ℕ) → p * w + q < n → entry_at w (take (2 * n) ys) p q ≡ entry_at w ys p q
unfolding entry_at
entry_at-take w n ys p q h = entry-take n ys (p * w + q) h

pub front-rows : (s : State) (m : ℕ) (ys : List Float) → length s.active ≡ m → StandsIn s ys → 2 * (m * m) ≤ length ys → take (2 * (m * m)) ys ≡ rows s.entries s.active s.active
front-rows s m ys e shows fits =
    rows_ext s.entries s.active s.active (take (2 * (m * m)) ys)
    (length-take-le (2 * (m * m)) ys fits ∙ ap (λ (k : ℕ). 2 * (k * k)) (sym e))
    λ (p q : ℕ) (u : p < length s.active) (v : q < length s.active).
    entry_at-take (length s.active) (m * m) ys p q (rw (← e) (entry-within (length s.active) (length s.active) p q u v)) ∙ shows p q u v
