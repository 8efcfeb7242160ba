-- What holds of each in a list that is written out.
use Rattle.prelude.proofs.Prelude.{inl, inr, List, [], ◌∷◌, ℕ}
use Rattle.lists.specs.Buses.{◌is_one_of◌}
use Rattle.lists.proofs.Buses.{in-cases}

-- P holds of each in a list
abbrev pub Each : (ℕ → Type 0) → List ℕ → Type 0
Each P [] = Unit {0}
Each P (k ∷ ks) = P k × Each P ks

pub of-each : (P : ℕ → Type 0) (ks : List ℕ) → Each P ks → (k : ℕ) → k is_one_of ks → P k
of-each P [] h k m = absurd m
of-each P (x ∷ xs) h k m = elim (in-cases k x xs m) [ inl p ↦ rw p h.0 | inr t ↦ of-each P xs h.1 k t ]
