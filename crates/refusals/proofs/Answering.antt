-- What a call answers and leaves by its refusal's number, and what a chain that refuses nothing tells.
--     answered-number  the answer by a refusal's number is that refusal
--     here, past, none what a chain of tests answers: `search refusing` finds them (Refusing)
--     carried          a refusal that a part of the call answered is the call's
--     accepted         what a value tells of the refusal
--     Told             a number that is told has a refusal: number_of of the answer is that number
use Rattle.prelude.proofs.Prelude.{◌≡◌, refl, sym, ap, ◌∙◌, Bool, true, false, not, ◌&&◌, cond, List, ℕ, zero, suc, arith, T, eqb, true≢false, eqb→eq, ne_eqb, Float}
use Rattle.std.proofs.Common.{Result, Ok, Err}
use lib.Dec.{eqb-suc-zero}
use Rattle.binary64.specs.Values.{all_finite}
use Rattle.refusals.specs.declared.Refusal.{Refusal}
use Rattle.refusals.specs.declared.Refusal.TheVariants.{TooMany, WrongLength, ListsDiffer, NoBus, EmptySystem, NoSuchEnd, NoSuchBus, BusTwice}
use Rattle.refusals.specs.declared.Refusal.TheVariants.{BadRecord, NotActive, SmallEntry, Singular, BeyondAllowance, GivenNotFinite}
use Rattle.refusals.specs.declared.Refusal.TheVariants.{ComputedNotFinite}
use Rattle.refusals.specs.Refusals.{number, refusal, answered, outcome, number_of, refuse, then_given, then_computed}

-- ---- the answer of a call that gives v, by its refusal f

module _ {A : Type 0} (v : A) where
  pub answered-number : (r : Refusal) → answered v (number r) ≡ Err r
  unfolding answered
  answered-number TooMany = refl
  answered-number WrongLength = refl
  answered-number ListsDiffer = refl
  answered-number NoBus = refl
  answered-number EmptySystem = refl
  answered-number NoSuchEnd = refl
  answered-number NoSuchBus = refl
  answered-number BusTwice = refl
  answered-number BadRecord = refl
  answered-number NotActive = refl
  answered-number SmallEntry = refl
  answered-number Singular = refl
  answered-number BeyondAllowance = refl
  answered-number GivenNotFinite = refl
  answered-number ComputedNotFinite = refl

  pub refused-by : (r : Refusal) (f : ℕ) → f ≡ number r → Err r ≡ answered v f
  refused-by r f e = sym (ap (answered v) e ∙ answered-number r)

  pub none : (f : ℕ) → f ≡ 0 → Ok v ≡ answered v f
  unfolding answered
  none f e = rw e

  -- a chain of tests
  pub here : (test : Bool) (r : Refusal) (next : ℕ) → test ≡ true → Err r ≡ answered v (cond test (number r) next)
  here test r next h = rw h (sym (answered-number r))

  pub past : (test : Bool) (a : Result A Refusal) (k next : ℕ) → test ≡ false → a ≡ answered v next → a ≡ answered v (cond test k next)
  past test a k next h e = rw h e

  pub ended : Ok v ≡ answered v 0
  unfolding answered
  ended = refl

-- ---- what a part of the call answered, which gives w, and whose refusal is f

module _ {A B : Type 0} (v : A) (w : B) (f : ℕ) where
  pub carried : (r : Refusal) → Err r ≡ answered w f → Err r ≡ answered v f
  unfolding answered
  carried r e = go f e
    where
      go : (g : ℕ) → Err r ≡ answered w g → Err r ≡ answered v g
      go zero h = absurd (cc)
      go (suc g) h = let q : r ≡ refusal (suc g) = cc in ap Err q

  pub accepted : (x : B) → Ok x ≡ answered w f → (f ≡ 0) × (x ≡ w)
  unfolding answered
  accepted x e = go f e
    where
      go : (g : ℕ) → Ok x ≡ answered w g → (g ≡ 0) × (x ≡ w)
      go zero h = (refl, cc)
      go (suc g) h = absurd (cc)

-- ---- the refusal told before the work, then what is met: cond (eqb told 0) met told

module _ {A B : Type 0} (v : A) (w : B) (told met : ℕ) where
  pub before : (r : Refusal) → Err r ≡ answered w told → Err r ≡ answered v (cond (eqb told 0) met told)
  unfolding answered
  before r e = go told e
    where
      go : (g : ℕ) → Err r ≡ answered w g → Err r ≡ answered v (cond (eqb g 0) met g)
      go zero h = absurd (cc)
      go (suc g) h = let q : r ≡ refusal (suc g) = cc in rw eqb-suc-zero (ap Err q)

  pub after : (x : B) (a : Result A Refusal) → Ok x ≡ answered w told → a ≡ answered v met → a ≡ answered v (cond (eqb told 0) met told)
  after x a e h = let z = (accepted v w told x e).0 in rw z h

-- ---- a slice keeps what it held, or holds what is new

module _ {A B : Type 0} (w : B) (f : ℕ) (new held : A) where
  pub held-refused : (r : Refusal) → Err r ≡ answered w f → held ≡ cond (eqb f 0) new held
  unfolding answered
  held-refused r e = go f e
    where
      go : (g : ℕ) → Err r ≡ answered w g → held ≡ cond (eqb g 0) new held
      go zero h = absurd (cc)
      go (suc g) h = rw eqb-suc-zero

  pub held-done : (y : B) (x : A) → Ok y ≡ answered w f → x ≡ new → x ≡ cond (eqb f 0) new held
  held-done y x e h = let z = (accepted w w f y e).0 in rw z h

pub ruleset answering = (none, carried, before, after, held-refused, held-done)

-- ---- numbers that are told

-- the number of the answer is the refusal's: a number that no refusal has is never told
abbrev pub Told : ℕ → Type 0
Told f = number_of (outcome f) ≡ f

pub told-number : (r : Refusal) → Told (number r)
told-number r = ap number_of (answered-number (tt {0}) r)

pub told-refuse : (test : Bool) (r : Refusal) (next : ℕ) → Told next → Told (refuse test (number r) next)
told-refuse true r next h = told-number r
told-refuse false r next h = h

pub told-then : (told met : ℕ) → Told told → Told met → Told (cond (eqb told 0) met told)
told-then zero met h g = g
told-then (suc told) met h g = simp eqb-suc-zero h

pub told-given : (told : ℕ) (given : List Float) → Told told → Told (then_given told given)
unfolding then_given answered
told-given told given h = told-then told _ h (told-refuse (not (all_finite given)) GivenNotFinite 0 refl)

pub told-computed : (told : ℕ) (computed : List Float) → Told told → Told (then_computed told computed)
unfolding then_computed answered
told-computed told computed h = told-then told _ h (told-refuse (not (all_finite computed)) ComputedNotFinite 0 refl)

-- the number of the answer, whatever value the call gives
pub number_of-answered : {A : Type 0} (v : A) (f : ℕ) → number_of (answered v f) ≡ number_of (outcome f)
unfolding answered
number_of-answered v zero = refl
number_of-answered v (suc f) = refl

-- ---- a chain that refuses nothing: each test fails

pub passed : (test : Bool) (k next : ℕ) → refuse test (suc k) next ≡ 0 → (test ≡ false) × (next ≡ 0)
passed true k next e = absurd (let z : ◌≡◌ {A = ℕ} (suc k) 0 = e in omega arith)
passed false k next e = (refl, e)

-- nor does what comes after an input that is not refused
pub then-none : (told met : ℕ) → cond (eqb told 0) met told ≡ 0 → (told ≡ 0) × (met ≡ 0)
then-none zero met h = (refl, h)
then-none (suc told) met h = let z = simp eqb-suc-zero at h in absurd (omega arith)

pub held : (test : Bool) → not test ≡ false → T test
held true e = tt
held false e = absurd (true≢false e)

pub first-held : (s t : Bool) → T (s && t) → T s
first-held true t h = tt
first-held false t h = absurd h

pub second-held : (s t : Bool) → T (s && t) → T t
second-held true t h = h
second-held false t h = absurd h

pub ruleset accepting = (held, first-held, second-held, eqb→eq)
