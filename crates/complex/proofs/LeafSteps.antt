-- An operation that answers none is one whose numbers, as steps, meet 20.
use Rattle.std.proofs.Common.{Option, Some, None}
use Rattle.prelude.proofs.Prelude.{◌≡◌, refl, sym, ap, ◌∙◌, Bool, true, false, ◌&&◌, cond, true≢false, List, ◌++◌, ℕ, arith, Float}
use Rattle.binary64.specs.Values.{all_finite}
use Rattle.refusals.specs.Work.{Step, computing, meets}
use Rattle.refusals.proofs.Work.{meets-numbers, numbers-met}
use Rattle.complex.specs.declared.Complex.{Complex}
use Rattle.complex.specs.Leaves.{pair, real, passing, through, LeafSteps}
use Rattle.complex.proofs.Finite.{all_both}
use Rattle.complex.proofs.Answers.{pair-tells-not}
use Rattle.complex.proofs.Leaves.{pair-none, real-none}

is_finite : Option Float → Bool
is_finite (Some x) = true
is_finite None = false

real-tells-not : (xs : List Float) (x : Float) → real xs x ≡ None → all_finite xs ≡ false
unfolding real is_finite
real-tells-not xs x e = go (all_finite xs) e
  where
    go : (b : Bool) → cond b (Some x) None ≡ None → b ≡ false
    go true h = absurd (true≢false (ap is_finite h))
    go false h = refl

met-none : (m : ℕ) (xs : List Float) → all_finite xs ≡ false → meets m (computing xs) ≡ 20
met-none m xs h = numbers-met m xs ∙ rw h

none-met : (m : ℕ) (xs : List Float) → meets m (computing xs) ≡ 20 → all_finite xs ≡ false
none-met m xs h = go (all_finite xs) (sym (numbers-met m xs) ∙ h)
  where
    go : (b : Bool) → ◌≡◌ {A = ℕ} (cond b 0 20) 20 → b ≡ false
    go true e = absurd (omega arith)
    go false e = refl

met-through : (m : ℕ) (xs : List Float) (c : Complex) (rest : List Step) → meets m (computing xs ++ rest) ≡ through (pair xs c) (meets m rest)
unfolding pair through
met-through m xs c rest = meets-numbers m xs rest ∙ go (all_finite xs)
  where
    go : (b : Bool) → cond b (meets m rest) 20 ≡ through (cond b (Some c) None) (meets m rest)
    go true = refl
    go false = refl

pub passes_on : (xs : List Float) (c : Complex) (next : Complex → Option Complex) (ys : List Float) (d : Complex)
    → next c ≡ pair ys d → passing (pair xs c) next ≡ pair (xs ++ ys) d
unfolding pair passing
passes_on xs c next ys d e = go (all_finite xs) ∙ ap (λ (b : Bool). cond b (Some d) None) (sym (all_both xs ys))
  where
    go : (b : Bool) → passing (cond b (Some c) None) next ≡ cond (b && all_finite ys) (Some d) None
    go true = e
    go false = refl

pub leaf-steps : LeafSteps
leaf-steps = record {
  pair-none = λ m xs c. (λ e. met-none m xs (pair-tells-not xs c (sym e)), λ h. sym (pair-none xs c (none-met m xs h)));
  real-none = λ m xs x. (λ e. met-none m xs (real-tells-not xs x e), λ h. sym (real-none xs x (none-met m xs h)));
  met-through = met-through;
  passes_on = passes_on;
}
