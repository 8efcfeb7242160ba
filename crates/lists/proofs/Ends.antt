-- Lists of buses gone through from the front: whether a bus is among the rest; and one of a list that is below n.
use Rattle.prelude.proofs.Prelude.{◌≡◌, sym, Bool, true, false, ◌&&◌, List, [], ◌∷◌, ℕ, zero, suc, ◌+◌, ◌≤◌, ◌<◌, add-one, arith, T, ltb, length, get_or, drop, ltb→lt, drop_of_length-le, drop-cons, eq-eqb, ne_eqb}
use Rattle.lists.specs.Buses.{mem, all_below}

split : (a b : Bool) → T (a && b) → T a × T b
split true b t = (tt, t)
split false b t = absurd t

module _ (k i : ℕ) (xs : List ℕ) where
  pub mem-here : i < length xs → get_or xs i 0 ≡ k → mem k (drop i xs) ≡ true
  mem-here h e = rw (drop-cons xs i 0 h, eq-eqb k (get_or xs i 0) (sym e))

  pub mem-next : i < length xs → (get_or xs i 0 ≡ k → ⊥) → mem k (drop i xs) ≡ mem k (drop (i + 1) xs)
  mem-next h ne = rw (drop-cons xs i 0 h, ne_eqb k (get_or xs i 0) (λ e. ne (sym e)), add-one)

  pub mem-end : length xs ≤ i → mem k (drop i xs) ≡ false
  mem-end h = rw (drop_of_length-le xs h)

pub below_at : (n : ℕ) (xs : List ℕ) (i : ℕ) → T (all_below n xs) → i < length xs → get_or xs i 0 < n
unfolding all_below
below_at n [] i t h = absurd (omega arith)
below_at n (x ∷ xs) zero t h = ltb→lt x n (split (ltb x n) (all_below n xs) t).0
below_at n (x ∷ xs) (suc i) t h = below_at n xs i (split (ltb x n) (all_below n xs) t).1 (omega arith)
