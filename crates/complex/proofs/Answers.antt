-- What an answer tells of the numbers that were computed for it.
use Rattle.std.proofs.Common.{Option, Some, None}
use Rattle.prelude.proofs.Prelude.{◌≡◌, refl, sym, ap, Bool, true, false, cond, true≢false, List, Float}
use Rattle.binary64.specs.Values.{all_finite}
use Rattle.complex.specs.declared.Complex.{Complex}
use Rattle.complex.specs.Leaves.{pair}

is_finite : Option Complex → Bool
is_finite (Some c) = true
is_finite None = false

-- the number of an answer, else d
number-or : Complex → Option Complex → Complex
number-or d (Some c) = c
number-or d None = d

-- all are finite, and the answer is the result
pub pair-tells : (xs : List Float) (c x : Complex) → Some x ≡ pair xs c → (all_finite xs ≡ true) × (x ≡ c)
unfolding pair is_finite number-or
pair-tells xs c x e = go (all_finite xs) e
  where
    go : (b : Bool) → Some x ≡ cond b (Some c) None → (b ≡ true) × (x ≡ c)
    go true h = (refl, ap (number-or c) h)
    go false h = absurd (true≢false (ap is_finite h))

-- one is not
pub pair-tells-not : (xs : List Float) (c : Complex) → None ≡ pair xs c → all_finite xs ≡ false
unfolding pair is_finite
pair-tells-not xs c e = go (all_finite xs) e
  where
    go : (b : Bool) → None ≡ cond b (Some c) None → b ≡ false
    go true h = absurd (true≢false (sym (ap is_finite h)))
    go false h = refl
