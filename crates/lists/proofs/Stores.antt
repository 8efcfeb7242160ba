-- Slices written from the front, one store a turn: what is still to be written, over what stands, gives the whole.
use Rattle.prelude.proofs.Prelude.{◌≡◌, ◌∙◌, List, [], ◌∷◌, ◌++◌, ℕ, ◌+◌, ◌-◌, ◌≤◌, ◌<◌, add-one, arith, length, drop, replicate, zero-add, length-replicate, drop_of_length-le, sets, drop-cons}
use lib.Seq.{sets-eq}
use Rattle.lists.specs.Buses.{up_to}
use Rattle.lists.proofs.Order.{length-up_to, get_or-up_to}
use Rattle.lists.proofs.Fronts.{drop-replicate, front-end}

-- the buses from i on
pub up_to-here : (n i : ℕ) → i < n → drop i (up_to n) ≡ i ∷ drop (i + 1) (up_to n)
up_to-here n i h =
    let within : i < length (up_to n) = rw length-up_to h in
    rw (drop-cons (up_to n) i 0 within, get_or-up_to n i 0 h, add-one)

pub up_to-end : (n i : ℕ) → n ≤ i → drop i (up_to n) ≡ []
up_to-end n i h = drop_of_length-le (up_to n) {i = i} (rw length-up_to h)

module _ {ℓ} {A : Type ℓ} where
  -- over a list that holds as many: they are the list
  pub sets-whole : (l vs : List A) → length vs ≡ length l → sets l 0 vs ≡ vs
  sets-whole l vs e = sets-eq vs l 0 (omega arith) ∙ rw zero-add (front-end vs l (length vs) (omega arith))

  -- over n times z: they stand before the rest of it
  pub sets-front : (n : ℕ) (z : A) (vs : List A) → length vs ≤ n → sets (replicate n z) 0 vs ≡ vs ++ replicate (n - length vs) z
  sets-front n z vs h = sets-eq vs (replicate n z) 0 (rw length-replicate (omega arith)) ∙ rw (zero-add, drop-replicate)
