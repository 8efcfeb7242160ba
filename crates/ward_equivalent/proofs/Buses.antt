-- A list of rows without a repeated one is at most as long as the matrix. A list of external, internal and boundary buses, cut into the three.
use Rattle.prelude.proofs.Prelude.{◌≡◌, refl, sym, ap, ◌∙◌, subst, Bool, true, false, ◌||◌, inl, inr, List, [], ◌∷◌, ◌++◌, ℕ, zero, suc, ◌+◌, ◌-◌, ◌≤◌, ◌<◌, arith, T, eqb, ltb, length, take, drop, Float, ltb→lt, take-append_seam, and_l, eqb-true}
use lib.Seq.{drop-append_seam, drop-append-add}
use Rattle.lists.specs.Buses.{mem, ◌is_one_of◌, others, all_below, repeats}
use Rattle.ward_equivalent.specs.Calls.{study_of}
use Rattle.ward_equivalent.specs.Inner.Listed.{cut}
use Rattle.lists.proofs.Buses.{in_head, in-cases, stays, others-none, below_all, all-below}

-- ---- a list that repeats none

no : true ≡ false → ⊥
no e = subst T e tt

pub none_of : (a b : Bool) → a || b ≡ false → (a ≡ false) × (b ≡ false)
none_of true b h = absurd (no h)
none_of false b h = (refl, h)

-- the list without k is one shorter at most, and repeats none either
mem-others : (ks : List ℕ) (x : ℕ) (xs : List ℕ) → mem x xs ≡ false → mem x (others ks xs) ≡ false
mem-others ks x xs h = pick (mem x (others ks xs)) refl
  where
    pick : (b : Bool) → mem x (others ks xs) ≡ b → mem x (others ks xs) ≡ false
    pick false e = e
    pick true e = absurd (subst T h (stays x ks xs (subst T (sym e) tt)).0)

record Shorter (k : ℕ) (xs : List ℕ) : Type 0 where
  distinct : repeats (others (k ∷ []) xs) ≡ false
  long : length xs ≤ suc (length (others (k ∷ []) xs))

shorter : (k : ℕ) (xs : List ℕ) → repeats xs ≡ false → Shorter k xs
unfolding repeats others
shorter k [] h = record { distinct = refl; long = omega arith }
shorter k (x ∷ xs) h = pick (eqb x k) refl (none_of (mem x xs) (repeats xs) h) (shorter k xs)
  where
    pick : (b : Bool) → eqb x k ≡ b → (mem x xs ≡ false) × (repeats xs ≡ false) → (repeats xs ≡ false → Shorter k xs) → Shorter k (x ∷ xs)
    pick true e m ih =
        let same : others (k ∷ []) xs ≡ xs = others-none (k ∷ []) xs (λ (a : ℕ) (p : a is_one_of xs) (q : a is_one_of k ∷ []).
        elim (in-cases a k [] q) [ inl r ↦ subst T m.0 (subst (λ (z : ℕ). T (mem z xs)) (r ∙ sym (eqb-true x k e)) p) | inr r ↦ r ]) in
        record { distinct = rw e (ih m.1).distinct; long = rw (e, same) (omega arith) }
    pick false e m ih =
        let s = ih m.1 in
        record { distinct = rw (e, mem-others (k ∷ []) x xs m.0) s.distinct; long = rw e (let l = s.long in omega arith) }

below-others : (n : ℕ) (xs : List ℕ) → T (all_below (suc n) xs) → T (all_below n (others (n ∷ []) xs))
below-others n xs h = all-below n (others (n ∷ []) xs) λ (k : ℕ) (m : k is_one_of others (n ∷ []) xs).
    let s = stays k (n ∷ []) xs m in
    let l : k < suc n = below_all (suc n) xs h k s.0 in
    let other : k ≡ n → ⊥ = λ (e : k ≡ n). s.1 (subst (λ (z : ℕ). k is_one_of z ∷ []) e (in_head k [])) in
    omega arith

pub distinct-length : (n : ℕ) (xs : List ℕ) → T (all_below n xs) → repeats xs ≡ false → length xs ≤ n
distinct-length zero [] h d = omega arith
distinct-length zero (x ∷ xs) h d = absurd (let l : x < 0 = ltb→lt x 0 (and_l (ltb x 0) (all_below 0 xs) h) in omega arith)
distinct-length (suc n) xs h d =
    let s = shorter n xs d in
    let l = distinct-length n (others (n ∷ []) xs) (below-others n xs h) s.distinct in
    let m = s.long in
    omega arith

-- ---- cut

pub cut-joined : (n : ℕ) (ys : List Float) (E I B : List ℕ) (base : Float) (ps qs : List Float)
    → cut n ys (E ++ (I ++ B)) (length E) (length E + length I) base ps qs ≡ study_of n ys I E B base ps qs
cut-joined n ys E I B base ps qs =
    let r : length E + length I - length E ≡ length I = omega arith in
    let internal : take (length E + length I - length E) (drop (length E) (E ++ (I ++ B))) ≡ I =
    ap (take (length E + length I - length E)) (drop-append_seam E (I ++ B)) ∙ ap (λ (k : ℕ). take k (I ++ B)) r ∙ take-append_seam I B in
    let external : take (length E) (E ++ (I ++ B)) ≡ E = take-append_seam E (I ++ B) in
    let boundary : drop (length E + length I) (E ++ (I ++ B)) ≡ B = drop-append-add E (I ++ B) (length I) ∙ drop-append_seam I B in
    λ i. study_of n ys (internal i) (external i) (boundary i) base ps qs
