-- A loop that tests one after the other, and what its answer tells.
use Rattle.prelude.proofs.Prelude.{◌≡◌, sym, ap, ◌∙◌, subst, Bool, true, false, not, ◌&&◌, and_i, and_l, and_r, inl, inr, ℕ, ◌+◌, ◌<◌, arith, T, finite, not-false, eq-or-lt_of_le}
use Rattle.complex.specs.{Complex}
use Rattle.ward_equivalent.specs.Inner.Sequence.{Tells, FinitePair}

pub tells-lost : (claim : Type 0) → (claim → ⊥) → Tells false claim
tells-lost claim h = record { holds = λ t. absurd t; fails = λ _. h }

pub tells-held : (claim : Type 0) → claim → Tells true claim
tells-held claim h = record { holds = λ _. h; fails = λ e _. subst T e tt }

-- one more place
pub every_more : (P : ℕ → Type 0) (q : ℕ) → ((j : ℕ) → j < q → P j) → P q → (j : ℕ) → j < q + 1 → P j
every_more P q h last j l =
    elim (eq-or-lt_of_le {n = j} {m = q} (omega arith)) [
      | inr m ↦ h j m
      | inl e ↦ subst P (sym e) last
    ]

-- a test that both parts are finite, as the code has it
module _ (b : Bool) (x z : Complex) (told : b ≡ (finite x.re && finite x.im)) (same : x ≡ z) where
  tested : b ≡ (finite z.re && finite z.im)
  tested = told ∙ ap (λ (c : Complex). finite c.re && finite c.im) same

  pub pair-lost : b ≡ false → FinitePair z → ⊥
  pair-lost n h = absurd (subst T (sym tested ∙ n) (and_i (finite z.re) (finite z.im) h.0 h.1))

  pub pair-held : b ≡ true → FinitePair z
  pair-held n =
      let both : T (finite z.re && finite z.im) = subst T (sym (sym tested ∙ n)) tt in
      (and_l (finite z.re) (finite z.im) both, and_r (finite z.re) (finite z.im) both)

pub told-true : (b : Bool) → not b ≡ false → T b
told-true b n = subst T (sym (not-false b n)) tt
