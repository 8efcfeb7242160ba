-- Laws of the work as a list of steps.
--     larger            more row reductions allowed alter nothing that is met but 18
--     meets-after       behind steps that meet nothing, what is left of the allowance counts
--     meets-first       what is met is met whatever comes behind
--     meets-numbers     20 where one of the numbers in front is not finite
--     all-finite        where nothing is met, every number computed is finite
--     finite-meets      where every number computed is finite, what is met is by the other steps alone
--     unlost-meets      the same where the work without a limit does not meet 20
--     larger-work       the first of allowances, without a limit included
--     allowed-met       an allowance is the number that stands for it
--     told-meets        what is met has a refusal's number
use Rattle.prelude.proofs.Prelude.{◌≡◌, refl, sym, ap, ◌∙◌, Bool, true, false, ◌&&◌, not, cond, List, [], ◌∷◌, ◌++◌, ℕ, zero, suc, ◌+◌, ◌-◌, ◌≤◌, arith, T, eqb, Float, sub-zero, add-zero, ne_eqb, finite}
use lib.Dec.{eqb-suc-zero}
use Rattle.binary64.specs.Values.{all_finite}
use Rattle.refusals.specs.declared.Allowance.{Allowance}
use Rattle.refusals.specs.declared.Allowance.TheVariants.{Unlimited, Rows}
use Rattle.refusals.specs.Refusals.{then_computed, answered}
use Rattle.refusals.specs.Work.{Step, computes, reduces, entry_too_small, pivot_too_small, computing, numbers_in, reductions, meets, granted, work_refusal, then_work, ◌no_more_than◌, allowed_rows}
use Rattle.refusals.proofs.Answering.{then-none, Told, told-then}

-- ---- what is met

pub larger : (m k : ℕ) → m ≤ k → (es : List Step) → (meets m es ≡ 18 → ⊥) → meets k es ≡ meets m es
unfolding meets
larger m k h [] n = refl
larger m k h (computes x ∷ es) n = go (finite x) n (larger m k h es)
  where
    go : (b : Bool) → (cond b (meets m es) 20 ≡ 18 → ⊥) → ((meets m es ≡ 18 → ⊥) → meets k es ≡ meets m es) → cond b (meets k es) 20 ≡ cond b (meets m es) 20
    go true other rest = rest other
    go false other rest = refl
larger zero k h (reduces ∷ es) n = absurd (n refl)
larger (suc m) zero h (reduces ∷ es) n = absurd (omega arith)
larger (suc m) (suc k) h (reduces ∷ es) n = larger m k (omega arith) es n
larger m k h (entry_too_small ∷ es) n = refl
larger m k h (pivot_too_small ∷ es) n = refl

pub meets-after : (m : ℕ) (es fs : List Step) → meets m es ≡ 0 → meets m (es ++ fs) ≡ meets (m - reductions es) fs
unfolding meets reductions
meets-after m [] fs h = ap (λ (k : ℕ). meets k fs) (sym (sub-zero m))
meets-after m (computes x ∷ es) fs h = go (finite x) h (meets-after m es fs)
  where
    go : (b : Bool) → cond b (meets m es) 20 ≡ 0 → (meets m es ≡ 0 → meets m (es ++ fs) ≡ meets (m - reductions es) fs)
        → cond b (meets m (es ++ fs)) 20 ≡ meets (m - reductions es) fs
    go true none rest = rest none
    go false none rest = absurd (omega arith)
meets-after zero (reduces ∷ es) fs h = absurd (omega arith)
meets-after (suc m) (reduces ∷ es) fs h =
    let e : suc m - suc (reductions es) ≡ m - reductions es = omega arith in
    meets-after m es fs h ∙ ap (λ (k : ℕ). meets k fs) (sym e)
meets-after m (entry_too_small ∷ es) fs h = absurd (omega arith)
meets-after m (pivot_too_small ∷ es) fs h = absurd (omega arith)

pub meets-first : (m : ℕ) (es fs : List Step) → (meets m es ≡ 0 → ⊥) → meets m (es ++ fs) ≡ meets m es
unfolding meets
meets-first m [] fs n = absurd (n refl)
meets-first m (computes x ∷ es) fs n = go (finite x) n (meets-first m es fs)
  where
    go : (b : Bool) → (cond b (meets m es) 20 ≡ 0 → ⊥) → ((meets m es ≡ 0 → ⊥) → meets m (es ++ fs) ≡ meets m es) → cond b (meets m (es ++ fs)) 20 ≡ cond b (meets m es) 20
    go true some rest = rest some
    go false some rest = refl
meets-first zero (reduces ∷ es) fs n = refl
meets-first (suc m) (reduces ∷ es) fs n = meets-first m es fs n
meets-first m (entry_too_small ∷ es) fs n = refl
meets-first m (pivot_too_small ∷ es) fs n = refl

pub meets-numbers : (m : ℕ) (xs : List Float) (es : List Step) → meets m (computing xs ++ es) ≡ cond (all_finite xs) (meets m es) 20
unfolding meets computing all_finite
meets-numbers m [] es = refl
meets-numbers m (x ∷ xs) es = go (finite x) (meets-numbers m xs es)
  where
    go : (b : Bool) → meets m (computing xs ++ es) ≡ cond (all_finite xs) (meets m es) 20 → cond b (meets m (computing xs ++ es)) 20 ≡ cond (b && all_finite xs) (meets m es) 20
    go true rest = rest
    go false rest = refl

-- numbers alone
pub numbers-met : (m : ℕ) (xs : List Float) → meets m (computing xs) ≡ cond (all_finite xs) 0 20
unfolding meets computing all_finite
numbers-met m [] = refl
numbers-met m (x ∷ xs) = go (finite x) (numbers-met m xs)
  where
    go : (b : Bool) → meets m (computing xs) ≡ cond (all_finite xs) 0 20 → cond b (meets m (computing xs)) 20 ≡ cond (b && all_finite xs) 0 20
    go true rest = rest
    go false rest = refl

-- ---- finite numbers

pub all-finite : (m : ℕ) (es : List Step) → meets m es ≡ 0 → T (all_finite (numbers_in es))
unfolding meets numbers_in all_finite
all-finite m [] h = tt
all-finite m (computes x ∷ es) h = go (finite x) h (all-finite m es)
  where
    go : (b : Bool) → cond b (meets m es) 20 ≡ 0 → (meets m es ≡ 0 → T (all_finite (numbers_in es))) → T (b && all_finite (numbers_in es))
    go true none rest = rest none
    go false none rest = absurd (omega arith)
all-finite zero (reduces ∷ es) h = absurd (omega arith)
all-finite (suc m) (reduces ∷ es) h = all-finite m es h
all-finite m (entry_too_small ∷ es) h = absurd (omega arith)
all-finite m (pivot_too_small ∷ es) h = absurd (omega arith)

-- the steps without the numbers
unfoldable pub marks : List Step → List Step
marks [] = []
marks (computes x ∷ es) = marks es
marks (reduces ∷ es) = reduces ∷ marks es
marks (entry_too_small ∷ es) = entry_too_small ∷ marks es
marks (pivot_too_small ∷ es) = pivot_too_small ∷ marks es

pub finite-unlost : (m : ℕ) (es : List Step) → T (all_finite (numbers_in es)) → meets m es ≡ 20 → ⊥
unfolding meets numbers_in all_finite
finite-unlost m [] h e = omega arith
finite-unlost m (computes x ∷ es) h e = go (finite x) h e (finite-unlost m es)
  where
    go : (b : Bool) → T (b && all_finite (numbers_in es)) → cond b (meets m es) 20 ≡ 20 → (T (all_finite (numbers_in es)) → meets m es ≡ 20 → ⊥) → ⊥
    go true all same rest = rest all same
    go false all same rest = all
finite-unlost zero (reduces ∷ es) h e = omega arith
finite-unlost (suc m) (reduces ∷ es) h e = finite-unlost m es h e
finite-unlost m (entry_too_small ∷ es) h e = omega arith
finite-unlost m (pivot_too_small ∷ es) h e = omega arith

-- the same where the work without a limit does not meet 20: what comes behind its end is not computed
pub unlost-meets : (m : ℕ) (es : List Step) → (meets (reductions es) es ≡ 20 → ⊥) → meets m es ≡ meets m (marks es)
unfolding meets reductions marks
unlost-meets m [] n = refl
unlost-meets m (computes x ∷ es) n = go (finite x) n (unlost-meets m es)
  where
    go : (b : Bool) → (cond b (meets (reductions es) es) 20 ≡ 20 → ⊥) → ((meets (reductions es) es ≡ 20 → ⊥) → meets m es ≡ meets m (marks es))
        → cond b (meets m es) 20 ≡ meets m (marks es)
    go true other rest = rest other
    go false other rest = absurd (other refl)
unlost-meets zero (reduces ∷ es) n = refl
unlost-meets (suc m) (reduces ∷ es) n = unlost-meets m es n
unlost-meets m (entry_too_small ∷ es) n = refl
unlost-meets m (pivot_too_small ∷ es) n = refl

pub finite-meets : (m : ℕ) (es : List Step) → T (all_finite (numbers_in es)) → meets m es ≡ meets m (marks es)
finite-meets m es h = unlost-meets m es (finite-unlost (reductions es) es h)

pub marks-both : (es fs : List Step) → marks (es ++ fs) ≡ marks es ++ marks fs
unfolding marks
marks-both [] fs = refl
marks-both (computes x ∷ es) fs = marks-both es fs
marks-both (reduces ∷ es) fs = ap (λ (l : List Step). reduces ∷ l) (marks-both es fs)
marks-both (entry_too_small ∷ es) fs = ap (λ (l : List Step). entry_too_small ∷ l) (marks-both es fs)
marks-both (pivot_too_small ∷ es) fs = ap (λ (l : List Step). pivot_too_small ∷ l) (marks-both es fs)

pub marks-numbers : (xs : List Float) (es : List Step) → marks (computing xs ++ es) ≡ marks es
unfolding computing marks
marks-numbers [] es = refl
marks-numbers (x ∷ xs) es = marks-numbers xs es

pub none-marked : (xs : List Float) → marks (computing xs) ≡ []
unfolding computing marks
none-marked [] = refl
none-marked (x ∷ xs) = none-marked xs

-- marks count as the steps do
pub marks-count : (es : List Step) → reductions (marks es) ≡ reductions es
unfolding reductions marks
marks-count [] = refl
marks-count (computes x ∷ es) = marks-count es
marks-count (reduces ∷ es) = ap suc (marks-count es)
marks-count (entry_too_small ∷ es) = marks-count es
marks-count (pivot_too_small ∷ es) = marks-count es

-- ---- what is counted

pub count-both : (es fs : List Step) → reductions (es ++ fs) ≡ reductions es + reductions fs
unfolding reductions
count-both [] fs = omega arith
count-both (computes x ∷ es) fs = count-both es fs
count-both (reduces ∷ es) fs = let e = count-both es fs in omega arith
count-both (entry_too_small ∷ es) fs = count-both es fs
count-both (pivot_too_small ∷ es) fs = count-both es fs

pub count-numbers : (xs : List Float) (es : List Step) → reductions (computing xs ++ es) ≡ reductions es
unfolding computing reductions
count-numbers [] es = refl
count-numbers (x ∷ xs) es = count-numbers xs es

pub none-counted : (xs : List Float) → reductions (computing xs) ≡ 0
unfolding computing reductions
none-counted [] = refl
none-counted (x ∷ xs) = none-counted xs

-- ---- the numbers

pub numbers-both : (es fs : List Step) → numbers_in (es ++ fs) ≡ numbers_in es ++ numbers_in fs
unfolding numbers_in
numbers-both [] fs = refl
numbers-both (computes x ∷ es) fs = ap (λ (l : List Float). x ∷ l) (numbers-both es fs)
numbers-both (reduces ∷ es) fs = numbers-both es fs
numbers-both (entry_too_small ∷ es) fs = numbers-both es fs
numbers-both (pivot_too_small ∷ es) fs = numbers-both es fs

pub numbers-alone : (xs : List Float) → numbers_in (computing xs) ≡ xs
unfolding computing numbers_in
numbers-alone [] = refl
numbers-alone (x ∷ xs) = ap (λ (l : List Float). x ∷ l) (numbers-alone xs)

pub numbers-back : (xs : List Float) (es : List Step) → numbers_in (computing xs ++ es) ≡ xs ++ numbers_in es
unfolding computing numbers_in
numbers-back [] es = refl
numbers-back (x ∷ xs) es = ap (λ (l : List Float). x ∷ l) (numbers-back xs es)

-- ---- allowances

-- as many as the steps begin are enough
enough : (m : ℕ) (es : List Step) → reductions es ≤ m → meets m es ≡ 18 → ⊥
unfolding meets reductions
enough m [] h e = omega arith
enough m (computes x ∷ es) h e = go (finite x) e (enough m es h)
  where
    go : (b : Bool) → cond b (meets m es) 20 ≡ 18 → (meets m es ≡ 18 → ⊥) → ⊥
    go true same rest = rest same
    go false same rest = omega arith
enough zero (reduces ∷ es) h e = omega arith
enough (suc m) (reduces ∷ es) h e = enough m es (omega arith) e
enough m (entry_too_small ∷ es) h e = omega arith
enough m (pivot_too_small ∷ es) h e = omega arith

-- what meets nothing begins no more than are allowed
pub meets-within : (m : ℕ) (es : List Step) → meets m es ≡ 0 → reductions es ≤ m
unfolding meets reductions
meets-within m [] h = omega arith
meets-within m (computes x ∷ es) h = go (finite x) h (meets-within m es)
  where
    go : (b : Bool) → cond b (meets m es) 20 ≡ 0 → (meets m es ≡ 0 → reductions es ≤ m) → reductions es ≤ m
    go true none rest = rest none
    go false none rest = absurd (omega arith)
meets-within zero (reduces ∷ es) h = absurd (omega arith)
meets-within (suc m) (reduces ∷ es) h = let k = meets-within m es h in omega arith
meets-within m (entry_too_small ∷ es) h = absurd (omega arith)
meets-within m (pivot_too_small ∷ es) h = absurd (omega arith)

pub unlimited-met : (es : List Step) → work_refusal Unlimited es ≡ 18 → ⊥
unfolding work_refusal
unlimited-met es = enough (reductions es) es (omega arith)

-- what is met other than 18 is met without a limit
without-limit : (m : ℕ) (es : List Step) → (meets m es ≡ 18 → ⊥) → meets (reductions es) es ≡ meets m es
unfolding meets reductions
without-limit m [] n = refl
without-limit m (computes x ∷ es) n = go (finite x) n (without-limit m es)
  where
    go : (b : Bool) → (cond b (meets m es) 20 ≡ 18 → ⊥) → ((meets m es ≡ 18 → ⊥) → meets (reductions es) es ≡ meets m es) → cond b (meets (reductions es) es) 20 ≡ cond b (meets m es) 20
    go true other rest = rest other
    go false other rest = refl
without-limit zero (reduces ∷ es) n = absurd (n refl)
without-limit (suc m) (reduces ∷ es) n = without-limit m es n
without-limit m (entry_too_small ∷ es) n = refl
without-limit m (pivot_too_small ∷ es) n = refl

pub larger-work : (a b : Allowance) → a no_more_than b → (es : List Step) → (work_refusal a es ≡ 18 → ⊥) → work_refusal b es ≡ work_refusal a es
unfolding work_refusal ◌no_more_than◌
larger-work Unlimited Unlimited h es n = refl
larger-work Unlimited (Rows k) h es n = absurd h
larger-work (Rows m) (Rows k) h es n = larger m k h es n
larger-work (Rows m) Unlimited h es n = without-limit m es n

-- numbers behind work without a limit
then-numbers-met : (m k : ℕ) (es : List Step) (xs : List Float) → meets m es ≡ k → meets m (es ++ computing xs) ≡ cond (eqb k 0) (cond (all_finite xs) 0 20) k
then-numbers-met m zero es xs e = meets-after m es (computing xs) e ∙ numbers-met (m - reductions es) xs
then-numbers-met m (suc k) es xs e = rw (eqb-suc-zero k) (meets-first m es (computing xs) (λ (z : meets m es ≡ 0). omega (arith, z, e)) ∙ e)

pub then-numbers : (es : List Step) (xs : List Float)
    → work_refusal Unlimited (es ++ computing xs) ≡ cond (eqb (work_refusal Unlimited es) 0) (cond (all_finite xs) 0 20) (work_refusal Unlimited es)
unfolding work_refusal granted
then-numbers es xs =
    let same : reductions (es ++ computing xs) ≡ reductions es = count-both es (computing xs) ∙ ap (λ (k : ℕ). reductions es + k) (none-counted xs) ∙ add-zero (reductions es) in
    ap (λ (k : ℕ). meets k (es ++ computing xs)) same ∙ then-numbers-met (reductions es) (meets (reductions es) es) es xs refl

-- from the count of the steps on an allowance is none
pub from-count : (m : ℕ) (es : List Step) → reductions es ≤ m → work_refusal (Rows m) es ≡ work_refusal Unlimited es
unfolding work_refusal
from-count m es h = sym (without-limit m es (enough m es h))

pub allowed-met : (a : Allowance) (es : List Step) → reductions es ≤ 0xffff_ffff_ffff_ffff → work_refusal a es ≡ meets (allowed_rows a) es
unfolding work_refusal allowed_rows
allowed-met Unlimited es h = without-limit 0xffff_ffff_ffff_ffff es (enough 0xffff_ffff_ffff_ffff es h)
allowed-met (Rows m) es h = refl

-- ---- the refusal of a call

-- what is told from the input comes first, else what the work meets
pub work-told : (told : ℕ) (a : Allowance) (es : List Step) → (told ≡ 0 → ⊥) → then_work told a es ≡ told
unfolding then_work
work-told told a es h = rw (ne_eqb told 0 h)

pub work-met : (told : ℕ) (a : Allowance) (es : List Step) → told ≡ 0 → then_work told a es ≡ work_refusal a es
unfolding then_work
work-met told a es h = rw h

-- a larger allowance alters no refusal but 18
pub larger-call : (told : ℕ) (a b : Allowance) → a no_more_than b → (es : List Step) → (then_work told a es ≡ 18 → ⊥) → then_work told b es ≡ then_work told a es
unfolding then_work
larger-call zero a b h es n = larger-work a b h es n
larger-call (suc told) a b h es n = work-told (suc told) b es (λ (z : suc told ≡ 0). omega arith) ∙ sym (work-told (suc told) a es (λ (z : suc told ≡ 0). omega arith))

-- without a limit there is no 18 but from the input
pub unlimited-call : (told : ℕ) (es : List Step) → (told ≡ 18 → ⊥) → then_work told Unlimited es ≡ 18 → ⊥
unfolding then_work
unlimited-call zero es n h = unlimited-met es h
unlimited-call (suc told) es n h = n (sym (work-told (suc told) Unlimited es (λ (z : suc told ≡ 0). omega arith)) ∙ h)

-- accepted: neither the input nor the work is refused, and every number computed is finite
pub work-accepted : (told : ℕ) (a : Allowance) (es : List Step) → then_work told a es ≡ 0 → (told ≡ 0) × (work_refusal a es ≡ 0) × T (all_finite (numbers_in es))
unfolding then_work work_refusal
work-accepted told a es h = let (none, met) = then-none told (work_refusal a es) h in (none, met, all-finite _ es met)

-- of work that computes numbers and no more
pub work-numbers : (told : ℕ) (xs : List Float) → then_work told Unlimited (computing xs) ≡ then_computed told xs
unfolding then_work work_refusal then_computed
work-numbers told xs = ap (λ (k : ℕ). cond (eqb told 0) k told) (numbers-met _ xs ∙ turned (all_finite xs))
  where
    turned : (b : Bool) → ◌≡◌ {A = ℕ} (cond b 0 20) (cond (not b) 20 0)
    turned true = refl
    turned false = refl

-- ---- what is met is told by a refusal

pub told-meets : (m : ℕ) (es : List Step) → Told (meets m es)
unfolding meets answered
told-meets m [] = refl
told-meets m (computes x ∷ es) = go (finite x) (told-meets m es)
  where
    go : (b : Bool) → Told (meets m es) → Told (cond b (meets m es) 20)
    go true t = t
    go false t = refl
told-meets zero (reduces ∷ es) = refl
told-meets (suc m) (reduces ∷ es) = told-meets m es
told-meets m (entry_too_small ∷ es) = refl
told-meets m (pivot_too_small ∷ es) = refl

pub told-work : (told : ℕ) (allowance : Allowance) (es : List Step) → Told told → Told (then_work told allowance es)
unfolding then_work work_refusal
told-work told allowance es t = told-then told _ t (told-meets (granted allowance es) es)
