-- Parts of the work one after the other: what a part tells of its steps by how it ended and by what the slice holds.
--     told-then     a part that is done, and the next
--     told-ended    a part that is not done ends the whole
--     told-numbers  numbers that the slice then holds
--     came-then     a loop's next steps
use Rattle.prelude.proofs.Prelude.{◌≡◌, refl, sym, ap, ◌∙◌, subst, Bool, true, false, cond, true≢false, List, [], ◌∷◌, ◌++◌, append_assoc, append-nil, ℕ, zero, suc, ◌-◌, arith, T, eqb, is_true, Float, eq-eqb}
use Rattle.std.proofs.Common.{Result, Ok, Err, is_ok}
use Rattle.refusals.specs.declared.Refusal.{Refusal}
use Rattle.refusals.specs.declared.Refusal.TheVariants.{TooMany, WrongLength, ListsDiffer, NoBus, EmptySystem, NoSuchEnd, NoSuchBus, BusTwice}
use Rattle.refusals.specs.declared.Refusal.TheVariants.{BadRecord, NotActive, SmallEntry, Singular, BeyondAllowance, GivenNotFinite, ComputedNotFinite}
use Rattle.refusals.specs.Refusals.{number, answered, outcome, number_of}
use lib.Dec.{eqb-suc-zero}
use Rattle.binary64.specs.Values.{all_finite}
use Rattle.refusals.specs.Work.{Step, reduces, computing, reductions, meets}
use Rattle.refusals.proofs.Answering.{none, refused-by}
use Rattle.refusals.proofs.Work.{meets-after, meets-first, meets-numbers, numbers-met, count-both, none-counted}
use Rattle.solver.specs.Inner.Work.{Told}

-- ---- answers

pub same_left : {k m : ℕ} → ◌≡◌ {A = Result ℕ Refusal} (Ok k) (Ok m) → k ≡ m
same_left e = cc

pub not_done : {r : Result ℕ Refusal} {left : ℕ} → is_ok r ≡ false → r ≡ Ok left → ⊥
not_done h e = true≢false (sym (ap is_ok e) ∙ h)

pub not-small : {r : Result ℕ Refusal} → eqb (number_of r) 13 ≡ false → r ≡ Err Singular → ⊥
not-small h e = true≢false (sym (ap (λ (x : Result ℕ Refusal). eqb (number_of x) 13) e) ∙ h)

-- a refusal has a number other than 0
numbered : (r : Refusal) → eqb (number r) 0 ≡ false
numbered TooMany = refl
numbered WrongLength = refl
numbered ListsDiffer = refl
numbered NoBus = refl
numbered EmptySystem = refl
numbered NoSuchEnd = refl
numbered NoSuchBus = refl
numbered BusTwice = refl
numbered BadRecord = refl
numbered NotActive = refl
numbered SmallEntry = refl
numbered Singular = refl
numbered BeyondAllowance = refl
numbered GivenNotFinite = refl
numbered ComputedNotFinite = refl

pub some_number : (r : Result ℕ Refusal) → is_ok r ≡ false → number_of r ≡ 0 → ⊥
some_number (Ok left) h e = true≢false h
some_number (Err r) h e = true≢false (sym (eq-eqb (number r) 0 e) ∙ numbered r)

pub number-none : (r : Result ℕ Refusal) → eqb (number_of r) 0 ≡ is_ok r
number-none (Ok left) = refl
number-none (Err r) = numbered r

pub done-left : (r : Result ℕ Refusal) → is_ok r ≡ true → (left : ℕ) × (r ≡ Ok left)
done-left (Ok left) h = (left, refl)
done-left (Err r) h = absurd (true≢false (sym h))

-- the same refusal of an answer without a value
pub same-number : (r : Result ℕ Refusal) (s : Result (Unit {0}) Refusal) → is_ok s ≡ is_ok r → ((e : Refusal) → r ≡ Err e → s ≡ Err e) → number_of s ≡ number_of r
same-number (Ok left) (Ok v) t h = refl
same-number (Ok left) (Err e) t h = absurd (true≢false (sym t))
same-number (Err e) s t h = ap number_of (h e refl)

pub by_number : (s : Result (Unit {0}) Refusal) (f : ℕ) → number_of s ≡ f → s ≡ outcome f
by_number (Ok tt) f e = none tt f (sym e)
by_number (Err r) f e = refused-by tt r f (sym e)

pub ok-none : (f : ℕ) → is_ok (outcome f) ≡ eqb f 0
unfolding answered
ok-none zero = refl
ok-none (suc f) = sym (eqb-suc-zero f)

-- ---- parts

pub told_none : (m : ℕ) (A : List Float) → Told m [] A A (Ok m)
unfolding meets reductions
told_none m A = record { finite = λ h. (h, refl); lost = λ h k. absurd (subst T k h); count = λ left e. let s = same_left e in omega arith }

module _ (m : ℕ) (es : List Step) (A B : List Float) where
  pub told-then : (left : ℕ) (fs : List Step) (C : List Float) (r : Result ℕ Refusal) → Told m es A B (Ok left) → Told left fs B C r → Told m (es ++ fs) A C r
  told-then left fs C r first next = record {
    finite = λ h. let (b, met) = next.finite h in let (a, none) = first.finite b in (a, after none ∙ met);
    lost = λ a k. lose (all_finite B) refl a k;
    count = λ rest e. let x = next.count rest e in let y = first.count left refl in let z = count-both es fs in omega arith;
  }
    where
      after : meets m es ≡ 0 → meets m (es ++ fs) ≡ meets left fs
      after none = let c = first.count left refl in let e : m - reductions es ≡ left = omega arith in meets-after m es fs none ∙ ap (λ (k : ℕ). meets k fs) e

      lose : (b : Bool) → all_finite B ≡ b → T (all_finite A) → all_finite C ≡ false → meets m (es ++ fs) ≡ 20
      lose true t a k = let b : T (all_finite B) = subst T (sym t) tt in after (first.finite b).1 ∙ next.lost b k
      lose false t a k = let met = first.lost a t in meets-first m es fs (λ (z : meets m es ≡ 0). omega arith) ∙ met

  pub told-ended : (fs : List Step) (r : Result ℕ Refusal) → is_ok r ≡ false → Told m es A B r → Told m (es ++ fs) A B r
  told-ended fs r d first = record {
    finite = λ h. let (a, met) = first.finite h in (a, meets-first m es fs (λ (z : meets m es ≡ 0). some_number r d (sym met ∙ z)) ∙ met);
    lost = λ a k. let met = first.lost a k in meets-first m es fs (λ (z : meets m es ≡ 0). omega arith) ∙ met;
    count = λ left e. absurd (not_done d e);
  }

  -- the steps, written otherwise
  pub told_same : (fs : List Step) (r : Result ℕ Refusal) → es ≡ fs → Told m es A B r → Told m fs A B r
  told_same fs r e first = subst (λ (l : List Step). Told m l A B r) e first

-- ---- a loop: the steps behind it, told, and those to come

pub record Came (allowed : ℕ) (all : List Step) (first now : List Float) (left : ℕ) (rest : List Step) : Type 0 where
  pub behind : List Step
  pub whole : all ≡ behind ++ rest
  pub told : Told allowed behind first now (Ok left)

pub came-first : (m : ℕ) (all : List Step) (A : List Float) → Came m all A A m all
came-first m all A = record { behind = []; whole = refl; told = told_none m A }

module _ (m left : ℕ) (all rest : List Step) (A B : List Float) (c : Came m all A B left rest) where
  pub came-done : rest ≡ [] → Told m all A B (Ok left)
  came-done none = told_same m c.behind A B all (Ok left) (sym (append-nil c.behind) ∙ ap (λ (l : List Step). c.behind ++ l) (sym none) ∙ sym c.whole) c.told

  -- the next steps
  module _ (es more : List Step) (C : List Float) (next : rest ≡ es ++ more) where
    all-is : all ≡ (c.behind ++ es) ++ more
    all-is = c.whole ∙ ap (λ (l : List Step). c.behind ++ l) next ∙ sym (append_assoc c.behind es more)

    pub came-then : (k : ℕ) → Told left es B C (Ok k) → Came m all A C k more
    came-then k t = record { behind = c.behind ++ es; whole = all-is; told = told-then m c.behind A B left es C (Ok k) c.told t }

    pub came-ended : (r : Result ℕ Refusal) → is_ok r ≡ false → Told left es B C r → Told m all A C r
    came-ended r d t = told_same m ((c.behind ++ es) ++ more) A C all r (sym all-is)
        (told-ended m (c.behind ++ es) A C more r d (told-then m c.behind A B left es C r c.told t))

-- numbers: the slice is finite behind them exactly where it was before and they are
pub told-numbers : (m : ℕ) (xs A B : List Float) → (T (all_finite B) → T (all_finite A) × T (all_finite xs)) → (T (all_finite A) → T (all_finite xs) → T (all_finite B))
    → Told m (computing xs) A B (Ok m)
told-numbers m xs A B tells kept = record {
  finite = λ h. let (a, x) = tells h in (a, numbers-met m xs ∙ ap (λ (b : Bool). cond b 0 20) (is_true (all_finite xs) x));
  lost = λ a k. numbers-met m xs ∙ lose (all_finite xs) refl a k;
  count = λ left e. let n = none-counted xs in let s = same_left e in omega arith;
}
  where
    lose : (b : Bool) → all_finite xs ≡ b → T (all_finite A) → all_finite B ≡ false → ◌≡◌ {A = ℕ} (cond (all_finite xs) 0 20) 20
    lose true t a k = absurd (subst T k (kept a (subst T (sym t) tt)))
    lose false t a k = ap (λ (b : Bool). cond b 0 20) t

-- a row reduction begins, and is allowed
pub told-reduces : (m : ℕ) (A : List Float) → Told (suc m) (reduces ∷ []) A A (Ok m)
unfolding meets reductions
told-reduces m A = record { finite = λ h. (h, refl); lost = λ h k. absurd (subst T k h); count = λ left e. let s = same_left e in omega arith }

-- or is not
pub told-exceeded : (fs : List Step) (A : List Float) → Told 0 (reduces ∷ fs) A A (Err BeyondAllowance)
unfolding meets
told-exceeded fs A = record { finite = λ h. (h, refl); lost = λ h k. absurd (subst T k h); count = λ left e. absurd (not_done refl e) }

-- a number that is not finite ends the work, the slice unlooked at
pub told-not-finite : (m : ℕ) (xs : List Float) (fs : List Step) (A : List Float) → all_finite xs ≡ false → Told m (computing xs ++ fs) A A (Err ComputedNotFinite)
told-not-finite m xs fs A t =
    let met : meets m (computing xs ++ fs) ≡ 20 = meets-numbers m xs fs ∙ ap (λ (b : Bool). cond b (meets m fs) 20) t in
    record { finite = λ h. (h, met); lost = λ h k. met; count = λ left e. absurd (not_done refl e) }
