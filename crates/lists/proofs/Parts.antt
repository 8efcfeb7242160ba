-- A slice whose part from a on, k elements long, was lent and came back as ys: what stands at each index.
use Rattle.prelude.proofs.Prelude.{◌≡◌, sym, ap, ◌∙◌, List, ◌++◌, ℕ, ◌+◌, ◌≤◌, ◌<◌, arith, length, get_or, take, drop, add_assoc, length-append, length-drop, List·getD-append, length-take-le, get_or-take, get_or-drop, drop-drop}
use lib.Seq.{get_or-append-add}

abbrev pub back {ℓ} : {A : Type ℓ} → ℕ → ℕ → List A → List A → List A
back a k xs ys = take a xs ++ (ys ++ drop k (drop a xs))

module _ {ℓ} {A : Type ℓ} (a k : ℕ) (xs ys : List A) (d : A) where
  pub length_back : a + k ≤ length xs → length ys ≡ k → length (back a k xs ys) ≡ length xs
  length_back h e = simp (length-append, length-take-le a xs (omega arith), length-drop) (omega arith)

  pub get_or-back-before : a ≤ length xs → (j : ℕ) → j < a → get_or (back a k xs ys) j d ≡ get_or xs j d
  get_or-back-before h j l =
      List·getD-append (take a xs) (ys ++ drop k (drop a xs)) d j (rw (length-take-le a xs h) l) ∙ get_or-take a xs j d l

  pub get_or-back-in : a ≤ length xs → (j : ℕ) → j < length ys → get_or (back a k xs ys) (a + j) d ≡ get_or ys j d
  get_or-back-in h j l =
      ap (λ (n : ℕ). get_or (back a k xs ys) (n + j) d) (sym (length-take-le a xs h))
      ∙ get_or-append-add (take a xs) (ys ++ drop k (drop a xs)) j d
      ∙ List·getD-append ys (drop k (drop a xs)) d j l

  pub get_or-back-after : a ≤ length xs → length ys ≡ k → (j : ℕ) → get_or (back a k xs ys) (a + (k + j)) d ≡ get_or xs (a + (k + j)) d
  get_or-back-after h e j =
      ap (λ (n : ℕ). get_or (back a k xs ys) (n + (k + j)) d) (sym (length-take-le a xs h))
      ∙ get_or-append-add (take a xs) (ys ++ drop k (drop a xs)) (k + j) d
      ∙ ap (λ (n : ℕ). get_or (ys ++ drop k (drop a xs)) (n + j) d) (sym e)
      ∙ get_or-append-add ys (drop k (drop a xs)) j d
      ∙ ap (λ (l : List A). get_or l j d) (drop-drop k a xs)
      ∙ get_or-drop (a + k) xs j d
      ∙ ap (λ (n : ℕ). get_or xs n d) (add_assoc a k j)
