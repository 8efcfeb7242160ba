-- Below, or not; and the list 0, 1, .. n - 1.
use Rattle.prelude.proofs.Prelude.{◌≡◌, refl, ap, ◌∙◌, ◌⊎◌, inl, inr, [], ◌∷◌, ◌++◌, ℕ, zero, suc, ◌+◌, ◌≤◌, ◌<◌, arith, length, get_or, length-append, List·getD-append}
use lib.Seq.{get_or_at}
use Rattle.lists.specs.Buses.{up_to}

pub lt-or-ge : (a b : ℕ) → (a < b) ⊎ (b ≤ a)
lt-or-ge a zero = inr (omega arith)
lt-or-ge zero (suc b) = inl (omega arith)
lt-or-ge (suc a) (suc b) = elim (lt-or-ge a b) [ inl l ↦ inl (omega arith) | inr l ↦ inr (omega arith) ]

pub length-up_to : (n : ℕ) → length (up_to n) ≡ n
unfolding up_to
length-up_to zero = refl
length-up_to (suc n) = length-append (up_to n) (n ∷ []) ∙ ap (λ (k : ℕ). k + 1) (length-up_to n) ∙ omega arith

pub get_or-up_to : (n k d : ℕ) → k < n → get_or (up_to n) k d ≡ k
unfolding up_to
get_or-up_to zero k d h = absurd (omega arith)
get_or-up_to (suc n) k d h = pick (get_or-up_to n k d) (lt-or-ge k n)
  where
    pick : (k < n → get_or (up_to n) k d ≡ k) → (k < n) ⊎ (n ≤ k) → get_or (up_to n ++ (n ∷ [])) k d ≡ k
    pick ih (inl l) = List·getD-append (up_to n) (n ∷ []) d k (rw length-up_to l) ∙ ih l
    pick ih (inr l) =
        let e : k ≡ n = omega arith in
        rw e (get_or_at (up_to n) n [] d n (length-up_to n))
