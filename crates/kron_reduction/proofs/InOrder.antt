-- A removal's refusal is what its steps meet first: the squares of an entry that is too small are finite, so that 12 and 20 exclude each other.
use Rattle.prelude.proofs.Prelude.{◌≡◌, refl, sym, ap, ◌∙◌, Bool, true, false, not, ◌&&◌, cond, List, [], ◌∷◌, ◌++◌, ℕ, T, Float, is_true}
use Rattle.binary64.specs.Values.{all_finite}
use Rattle.complex.specs.{division_limit, too_small, of_sqmag}
use Rattle.complex.proofs.Finite.{all_both}
use Rattle.complex.proofs.Squares.{sqmag-below}
use Rattle.refusals.specs.Refusals.{not_active, small_entry, computed_not_finite, refuse}
use Rattle.refusals.specs.Work.{entry_too_small, computing, reductions, meets, granted, work_refusal}
use Rattle.refusals.proofs.Work.{meets-numbers, numbers-met}
use Rattle.lists.specs.Buses.{mem}
use Rattle.kron_reduction.specs.Kron.{remove, of_rows, removal_refusal, steps_of_removal, MetInOrder}

-- by the two lists of numbers, and the test between them
in-turn : (m : ℕ) (square rows : List Float) (small : Bool) → (T small → T (all_finite square))
    → refuse small small_entry (refuse (not (all_finite (square ++ rows))) computed_not_finite 0)
    ≡ meets m (computing square ++ cond small (entry_too_small ∷ []) (computing rows))
unfolding meets
in-turn m square rows true h = sym (meets-numbers m square (entry_too_small ∷ []) ∙ rw (is_true (all_finite square) (h tt)))
in-turn m square rows false h =
    ap (λ (b : Bool). refuse (not b) computed_not_finite 0) (all_both square rows)
    ∙ go (all_finite square) (all_finite rows)
    ∙ sym (meets-numbers m square (computing rows) ∙ ap (λ (k : ℕ). cond (all_finite square) k 20) (numbers-met m rows))
  where
    go : (a b : Bool) → refuse (not (a && b)) computed_not_finite 0 ≡ cond a (cond b 0 20) 20
    go true true = refl
    go true false = refl
    go false b = refl

pub met-in-order : MetInOrder
unfolding removal_refusal steps_of_removal work_refusal granted
met-in-order s k =
    ap (λ (f : ℕ). cond (mem k s.active) f not_active)
    (in-turn (reductions (steps_of_removal s k)) (of_sqmag (s.entries k k)) (of_rows k s.entries (remove s k).active (remove s k).active) (too_small (s.entries k k))
    (λ (h : T (too_small (s.entries k k))). sqmag-below (s.entries k k) division_limit h))
