-- Refusals by numbers that are not finite: what a call tells, and that it finds the numbers finite where it refuses none.
use Rattle.prelude.proofs.Prelude.{◌≡◌, refl, sym, true, false, not, List, ℕ, T, Float}
use Rattle.std.proofs.Common.{Ok, Err}
use Rattle.binary64.specs.Values.{all_finite}
use Rattle.refusals.specs.declared.Refusal.{Refusal}
use Rattle.refusals.specs.declared.Refusal.TheVariants.{GivenNotFinite, ComputedNotFinite}
use Rattle.refusals.specs.Refusals.{answered, then_given, then_computed}
use Rattle.refusals.proofs.Answering.{answered-number, before, after, passed, then-none, held}

-- ---- not refused

pub given-none : (told : ℕ) (given : List Float) → then_given told given ≡ 0 → (told ≡ 0) × T (all_finite given)
unfolding then_given
given-none told given h = let (z, e) = then-none told _ h in (z, held (all_finite given) (passed (not (all_finite given)) 18 0 e).0)

pub computed-none : (told : ℕ) (computed : List Float) → then_computed told computed ≡ 0 → (told ≡ 0) × T (all_finite computed)
unfolding then_computed
computed-none told computed h = let (z, e) = then-none told _ h in (z, held (all_finite computed) (passed (not (all_finite computed)) 19 0 e).0)

-- ---- what is told: the refusal of the tests before, whose number is told, else by the numbers

module _ {A B : Type 0} (v : A) (w : B) (told : ℕ) (numbers : List Float) where
  pub given-before : (r : Refusal) → Err r ≡ answered w told → Err r ≡ answered v (then_given told numbers)
  unfolding then_given
  given-before r e = before v w told _ r e

  pub given-not : (x : B) → Ok x ≡ answered w told → all_finite numbers ≡ false → Err GivenNotFinite ≡ answered v (then_given told numbers)
  unfolding then_given
  given-not x e h = after v w told _ x _ e (rw h (sym (answered-number v GivenNotFinite)))

  pub given-all : (x : B) → Ok x ≡ answered w told → all_finite numbers ≡ true → Ok v ≡ answered v (then_given told numbers)
  unfolding then_given answered
  given-all x e h = after v w told _ x _ e (rw h refl)

  pub computed-before : (r : Refusal) → Err r ≡ answered w told → Err r ≡ answered v (then_computed told numbers)
  unfolding then_computed
  computed-before r e = before v w told _ r e

  pub computed-not : (x : B) → Ok x ≡ answered w told → all_finite numbers ≡ false → Err ComputedNotFinite ≡ answered v (then_computed told numbers)
  unfolding then_computed
  computed-not x e h = after v w told _ x _ e (rw h (sym (answered-number v ComputedNotFinite)))

  pub computed-all : (x : B) → Ok x ≡ answered w told → all_finite numbers ≡ true → Ok v ≡ answered v (then_computed told numbers)
  unfolding then_computed answered
  computed-all x e h = after v w told _ x _ e (rw h refl)

pub ruleset numbers = (given-before, given-not, given-all, computed-before, computed-not, computed-all)
