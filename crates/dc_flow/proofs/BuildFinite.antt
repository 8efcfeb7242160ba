-- Where the reactances are finite, so is every number of `build_b_bus`: a susceptance is at most 2 ^ 40, and an entry at most as many times that as
-- numbers were added to it or taken from it. And what the accepted DC calls write is finite, and nothing finite is refused.
use Rattle.prelude.proofs.Prelude.{◌≡◌, refl, sym, ap, subst, ◌∙◌, Bool, true, false, cond, List, [], ◌∷◌, ℕ, zero, suc, ◌+◌, ◌*◌, ◌^◌, ◌≤◌, ◌<◌, arith, T, eqb, length, get_or, set, Float, nan, binary64, lt, of_bits, length-set, length-replicate, get_or-set_same, get_or-set_other, finite, lit≤, lit<, eqb-true, mul-le-mul_right, lt_of_lt_of_le}
use native.Mathlib.Nat.{add-mul, one-mul, lt_of_le_of_lt}
use lib.ListN.{get_or-replicate}
use lib.Arith.{digits_lt}
use borrow.Author.Tests.{eqb-false}
use Rattle.binary64.specs.Values.{all_finite}
use Rattle.binary64.proofs.Magnitudes.{Within, Held, within-finite, add-within, sub_within}
use Rattle.complex.proofs.Sizes.{In, in-finite, wider}
use Rattle.complex.proofs.SmallMagnitude.{over-strong}
use Rattle.complex.specs.{plus0, one, small_magnitude, abs, zeros, ◌⊕◌, ◌⊖◌, ◌⊘◌}
use Rattle.complex.proofs.Finite.{none, all_more, all-at}
use Rattle.complex.proofs.Matrices.{length-zeros}
use Rattle.refusals.specs.Refusals.{limit}
use Rattle.lists.specs.Buses.{all_below}
use Rattle.lists.proofs.Ends.{below_at}
use Rattle.dc_flow.specs.Dc.{plus, minus, joined, add_branch, susceptances, of_joined, of_branch, of_build, of_lodf, outage, real_grid, build_shape_refusal, build_refusal, built_output, lodf_shape_refusal, lodf_refusal, lodf_output, DcFinite}
use Rattle.dc_flow.proofs.OutageLaws.{to_below}
use Rattle.dc_flow.proofs.OutageFinite.{each-finite, one_in, factors-finite}
use Rattle.dc_flow.proofs.Accepted.{build-accepted, lodf-computed, given-met, computed-met}

-- at most c times 2 ^ 40 in size
abbrev Times : ℕ → Float → Type 0
Times c x = Within (c * 2 ^ 40) x

abbrev AllTimes : ℕ → List Float → Type 0
AllTimes c b = (p : ℕ) → p < length b → Times c (get_or b p nan)

-- the format holds these bounds
holds : (c : ℕ) → c ≤ 2048 → Held binary64 c 40
holds c h = record { few = lt_of_lt_of_le (lt-suc c 2048 h) (lit≤ tt); below = lt_of_le_of_lt (mul-le-mul_right (2 ^ 40) h) (lit< tt) }
  where
    lt-suc : (x y : ℕ) → x ≤ y → x < suc y
    lt-suc x y h = omega arith

next : (c : ℕ) → c * 2 ^ 40 + 2 ^ 40 ≡ (c + 1) * 2 ^ 40
next c = sym (add-mul c 1 (2 ^ 40) ∙ ap (λ (z : ℕ). c * 2 ^ 40 + z) (one-mul (2 ^ 40)))

more : (c d : ℕ) (x : Float) → c ≤ d → Times c x → Times d x
more c d x h t = wider (c * 2 ^ 40) (d * 2 ^ 40) x (mul-le-mul_right (2 ^ 40) h) t

module _ (c : ℕ) (few : c + 1 ≤ 2048) (x s : Float) (h : Times c x) (g : In 40 s) where
  add_times : Times (c + 1) (x ⊕ s)
  add_times = add-within binary64 x s (c * 2 ^ 40) (2 ^ 40) (c + 1) 40 (next c) (holds (c + 1) few) h g

  sub-times : Times (c + 1) (x ⊖ s)
  sub-times = sub_within binary64 x s (c * 2 ^ 40) (2 ^ 40) (c + 1) 40 (next c) (holds (c + 1) few) h g

-- one entry changed
stored : (c : ℕ) (b : List Float) (p : ℕ) (v : Float) → p < length b → AllTimes c b → Times (c + 1) v → AllTimes (c + 1) (set b p v)
stored c b p v l h t q i = go (eqb q p) refl
  where
    go : (e : Bool) → eqb q p ≡ e → Times (c + 1) (get_or (set b p v) q nan)
    go true e =
        let same = eqb-true q p e in
        subst (Times (c + 1)) (sym (ap (λ (z : ℕ). get_or (set b p v) z nan) same ∙ get_or-set_same b p v nan l)) t
    go false e =
        subst (Times (c + 1)) (sym (get_or-set_other b p q v nan (eqb-false q p e)))
        (more c (c + 1) (get_or b q nan) (omega arith) (h q (rw length-set at i)))

module _ (c : ℕ) (few : c + 1 ≤ 2048) (s : Float) (g : In 40 s) (b : List Float) (p : ℕ) (l : p < length b) (h : AllTimes c b) where
  plus_step : Times (c + 1) (get_or b p nan ⊕ s) × AllTimes (c + 1) (plus b p s)
  plus_step = let t = add_times c few (get_or b p nan) s (h p l) g in (t, stored c b p (get_or b p nan ⊕ s) l h t)

  minus-step : Times (c + 1) (get_or b p nan ⊖ s) × AllTimes (c + 1) (minus b p s)
  minus-step = let t = sub-times c few (get_or b p nan) s (h p l) g in (t, stored c b p (get_or b p nan ⊖ s) l h t)

times-finite : (c : ℕ) (x : Float) → Times c x → T (finite x)
times-finite c x h = within-finite (c * 2 ^ 40) x h

-- a branch's four entries, one after the other
join-finite : (c : ℕ) → c + 4 ≤ 2048 → (b : List Float) (f t i j : ℕ) (s : Float) → AllTimes c b → In 40 s
    → f + i < length b → t + j < length b → f + j < length b → t + i < length b
    → T (all_finite (of_joined b f t i j s)) × AllTimes (c + 4) (joined b f t i j s)
unfolding of_joined joined
join-finite c few b f t i j s h g ff tj fj ti =
    let b1 = plus b (f + i) s in
    let b2 = plus b1 (t + j) s in
    let b3 = minus b2 (f + j) s in
    let (x1, h1) = plus_step c (omega arith) s g b (f + i) ff h in
    let (x2, h2) = plus_step (c + 1) (omega arith) s g b1 (t + j) (rw length-set tj) h1 in
    let (x3, h3) = minus-step (c + 1 + 1) (omega arith) s g b2 (f + j) (rw (length-set, length-set) fj) h2 in
    let (x4, h4) = minus-step (c + 1 + 1 + 1) (omega arith) s g b3 (t + i) (rw (length-set, length-set, length-set) ti) h3 in
    let all : c + 1 + 1 + 1 + 1 ≡ c + 4 = omega arith in (
      all_more _ _ (times-finite (c + 1) (get_or b (f + i) nan ⊕ s) x1)
          (all_more _ _ (times-finite (c + 1 + 1) (get_or b1 (t + j) nan ⊕ s) x2)
          (all_more _ _ (times-finite (c + 1 + 1 + 1) (get_or b2 (f + j) nan ⊖ s) x3)
          (all_more _ _ (times-finite (c + 1 + 1 + 1 + 1) (get_or b3 (t + i) nan ⊖ s) x4) none))),
      subst (λ (k : ℕ). AllTimes k (minus b3 (t + i) s)) all h4,
    )

-- one branch: of reactance x, between two buses
branch-finite : (c n : ℕ) → c + 4 ≤ 2048 → (b : List Float) (i j : ℕ) (x : Float) → length b ≡ n * n → i < n → j < n → T (finite x) → AllTimes c b
    → T (all_finite (of_branch n b i j x)) × AllTimes (c + 4) (add_branch n b i j x)
unfolding of_branch add_branch
branch-finite c n few b i j x size l k f h = go (lt (abs x) small_magnitude) refl
  where
    s : Float
    s = one ⊘ x

    go : (weak : Bool) → lt (abs x) small_magnitude ≡ weak
        → T (all_finite (cond weak [] (one ⊘ x ∷ of_joined b (i * n) (j * n) i j (one ⊘ x)))) × AllTimes (c + 4) (cond weak b (joined b (i * n) (j * n) i j (one ⊘ x)))
    go true w = (none, λ p q. more c (c + 4) (get_or b p nan) (omega arith) (h p q))
    go false w =
        let share : In 40 (one ⊘ x) = over-strong 0 40 one x refl (lit≤ tt) one_in f w in
        let (all, after) = join-finite c few b (i * n) (j * n) i j (one ⊘ x) h share (rw size (digits_lt l l)) (rw size (digits_lt k k)) (rw size (digits_lt l k)) (rw size (digits_lt k l)) in
        (all_more (one ⊘ x) _ (in-finite 40 (one ⊘ x) share) all, after)

length-joined : (b : List Float) (f t i j : ℕ) (s : Float) → length (joined b f t i j s) ≡ length b
unfolding joined
length-joined b f t i j s = rw (length-set, length-set, length-set, length-set)

length-branch : (n : ℕ) (b : List Float) (i j : ℕ) (x : Float) → length (add_branch n b i j x) ≡ length b
unfolding add_branch
length-branch n b i j x = go (lt (abs x) small_magnitude)
  where
    go : (weak : Bool) → length (cond weak b (joined b (i * n) (j * n) i j (one ⊘ x))) ≡ length b
    go true = refl
    go false = length-joined b (i * n) (j * n) i j (one ⊘ x)

zeros-times : (k : ℕ) → AllTimes 0 (zeros k)
unfolding zeros plus0 of_bits
zeros-times k p l = subst (Times 0) (sym (get_or-replicate k p plus0 nan (rw length-replicate at l))) (lit≤ tt)

all-times-finite : (c : ℕ) (b : List Float) → AllTimes c b → T (all_finite b)
all-times-finite c [] h = none
all-times-finite c (x ∷ b) h = all_more x b (times-finite c x (h 0 (omega arith))) (all-times-finite c b (λ p l. h (suc p) (omega arith)))

module _ (n : ℕ) (froms tos : List ℕ) (xs : List Float) (lists : (length tos ≡ length froms) × (length xs ≡ length froms))
    (below : T (all_below n froms) × T (all_below n tos)) (few : length froms ≤ limit) (given : T (all_finite xs)) where
  length-susceptances : (k : ℕ) → length (susceptances n froms tos xs k) ≡ n * n
  unfolding susceptances
  length-susceptances zero = length-zeros (n * n)
  length-susceptances (suc k) = length-branch n (susceptances n froms tos xs k) (get_or froms k 0) (get_or tos k 0) (get_or xs k nan) ∙ length-susceptances k

  at-branch : (k : ℕ) → k < length froms → AllTimes (4 * k) (susceptances n froms tos xs k)
      → T (all_finite (of_branch n (susceptances n froms tos xs k) (get_or froms k 0) (get_or tos k 0) (get_or xs k nan)))
      × AllTimes (4 * k + 4) (add_branch n (susceptances n froms tos xs k) (get_or froms k 0) (get_or tos k 0) (get_or xs k nan))
  at-branch k h t =
      branch-finite (4 * k) n (omega arith) (susceptances n froms tos xs k) (get_or froms k 0) (get_or tos k 0) (get_or xs k nan) (length-susceptances k)
      (below_at n froms k below.0 h) (to_below n k froms tos below.1 lists.0 h) (all-at xs k (omega arith) given) t

  entries-times : (k : ℕ) → k ≤ length froms → AllTimes (4 * k) (susceptances n froms tos xs k)
  unfolding susceptances
  entries-times zero h = zeros-times (n * n)
  entries-times (suc k) h =
      let e : 4 * k + 4 ≡ 4 * suc k = omega arith in
      subst (λ (c : ℕ). AllTimes c (susceptances n froms tos xs (suc k))) e (at-branch k (omega arith) (entries-times k (omega arith))).1

  pub numbers-finite : T (all_finite (of_build n froms tos xs))
  unfolding of_build
  numbers-finite = each-finite _ (length froms) (λ k h. (at-branch k h (entries-times k (omega arith))).0)

  pub entries-finite : T (all_finite (susceptances n froms tos xs (length froms)))
  entries-finite = all-times-finite (4 * length froms) _ (entries-times (length froms) (omega arith))

build-outputs-finite : (n : ℕ) (froms tos : List ℕ) (xs held : List Float) → build_refusal n froms tos xs (length held) ≡ 0
    → T (all_finite (built_output n froms tos xs held))
unfolding built_output
build-outputs-finite n froms tos xs held h =
    let ((counts, (below, sizes)), given) = build-accepted 0 n froms tos xs (length held) (sym h) refl in
    rw h (entries-finite n froms tos xs (counts.2, sizes.0) below counts.1 given)

lodf-outputs-finite : (n : ℕ) (ptdf : List Float) (froms tos : List ℕ) (held : List Float) → lodf_refusal n ptdf froms tos (length held) ≡ 0
    → T (all_finite (lodf_output n ptdf froms tos held))
unfolding lodf_output
lodf-outputs-finite n ptdf froms tos held h = rw h (factors-finite n ptdf froms tos (lodf-computed 0 n froms tos ptdf (length held) (sym h) refl))

build-accepts : (n : ℕ) (froms tos : List ℕ) (xs held : List Float) → build_shape_refusal n froms tos xs (length held) ≡ 0 → T (all_finite xs)
    → (build_refusal n froms tos xs (length held) ≡ 0) × (built_output n froms tos xs held ≡ susceptances n froms tos xs (length froms))
unfolding build_refusal built_output
build-accepts n froms tos xs held shape given =
    let z = given-met _ xs shape given in (z, rw z)

lodf-accepts : (n : ℕ) (ptdf : List Float) (froms tos : List ℕ) (held : List Float) → lodf_shape_refusal n (length ptdf) froms tos (length held) ≡ 0
    → T (all_finite ptdf) → T (all_finite (of_lodf n ptdf froms tos))
    → (lodf_refusal n ptdf froms tos (length held) ≡ 0) × (lodf_output n ptdf froms tos held ≡ real_grid (outage n ptdf froms tos) (length froms) (length froms))
unfolding lodf_refusal lodf_output
lodf-accepts n ptdf froms tos held shape given computed =
    let z = computed-met _ (of_lodf n ptdf froms tos) (given-met _ ptdf shape given) computed in (z, rw z)

pub dc-finite : DcFinite
dc-finite =
    record {
      build-finite = λ n froms tos xs len h.
          let ((counts, (below, sizes)), given) = build-accepted 0 n froms tos xs len (sym h) refl in numbers-finite n froms tos xs (counts.2, sizes.0) below counts.1 given;
      build-outputs-finite = build-outputs-finite;
      lodf-outputs-finite = lodf-outputs-finite;
      build-accepted = build-accepts;
      lodf-accepted = lodf-accepts;
    }
