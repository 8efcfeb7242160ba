-- What the lengths and branch ends are, and that the numbers are finite, where no refusal is told.
use Rattle.prelude.proofs.Prelude.{◌≡◌, refl, sym, ◌∙◌, not, ◌&&◌, List, ℕ, ◌*◌, ◌≤◌, T, eqb, length, Float, is_true}
use Rattle.binary64.specs.Values.{all_finite}
use Rattle.refusals.specs.Refusals.{limit, number, answered, then_given, then_computed}
use Rattle.refusals.specs.declared.Refusal.{Refusal}
use Rattle.refusals.proofs.Answering.{passed, accepting, refused-by}
use Rattle.refusals.proofs.Numbers.{given-none, computed-none}
use Rattle.lists.specs.Buses.{all_below}
use Rattle.lists.specs.Limits.{over}
use Rattle.lists.proofs.Within.{size-within, first-within}
use Rattle.dc_flow.specs.declared.branches.Ptdf.{Ptdf}
use Rattle.dc_flow.specs.Inner.Rows.{numbers_of}
use Rattle.dc_flow.specs.Dc.{ends_refusal, build_shape_refusal, build_refusal, lodf_shape_refusal, lodf_refusal, of_lodf}

module _ (r n : ℕ) (froms tos : List ℕ) where
  -- the matrix, the lists and the ends of `build_b_bus`, and how many branches there are
  pub build-shape : (xs : List Float) (len : ℕ) → r ≡ build_shape_refusal n froms tos xs len → r ≡ 0
      → ((n ≤ limit) × (length froms ≤ limit) × (length tos ≡ length froms)) × ((T (all_below n froms) × T (all_below n tos)) × ((length xs ≡ length froms) × (len ≡ n * n)))
  unfolding build_shape_refusal ends_refusal
  build-shape xs len e z =
      let (few, e2) = passed (over n (length froms) (length tos) (length xs)) 0 _ (sym e ∙ z) in
      let (size, e3) = passed (not (eqb len (n * n))) 1 _ e2 in
      let (lists, e6) = passed (not (eqb (length tos) (length froms) && eqb (length xs) (length froms))) 2 _ e3 in
      let (ends, _) = passed (not (all_below n froms && all_below n tos)) 5 _ e6 in
      let buses = size-within _ n (length froms) (length tos) (length xs) refl few in
      let branches = first-within _ n (length froms) (length tos) (length xs) refl few in
      search accepting

  pub build-accepted : (xs : List Float) (len : ℕ) → r ≡ build_refusal n froms tos xs len → r ≡ 0
      → (((n ≤ limit) × (length froms ≤ limit) × (length tos ≡ length froms)) × ((T (all_below n froms) × T (all_below n tos)) × ((length xs ≡ length froms) × (len ≡ n * n))))
      × T (all_finite xs)
  unfolding build_refusal
  build-accepted xs len e z =
      let (shape, given) = given-none (build_shape_refusal n froms tos xs len) xs (sym e ∙ z) in
      (build-shape xs len (z ∙ sym shape) z, given)

  -- of `lodf_matrix`
  pub lodf-shape : (given : ℕ) (len : ℕ) → r ≡ lodf_shape_refusal n given froms tos len → r ≡ 0
      → ((n ≤ limit) × (length froms ≤ limit) × (length tos ≡ length froms))
      × ((T (all_below n froms) × T (all_below n tos)) × ((given ≡ length froms * n) × (len ≡ length froms * length froms)))
  unfolding lodf_shape_refusal ends_refusal
  lodf-shape given len e z =
      let (few, e2) = passed (over n (length froms) (length tos) 0) 0 _ (sym e ∙ z) in
      let (sizes, e3) = passed (not (eqb given (length froms * n) && eqb len (length froms * length froms))) 1 _ e2 in
      let (lists, e6) = passed (not (eqb (length tos) (length froms))) 2 _ e3 in
      let (ends, _) = passed (not (all_below n froms && all_below n tos)) 5 _ e6 in
      let buses = size-within _ n (length froms) (length tos) 0 refl few in
      let branches = first-within _ n (length froms) (length tos) 0 refl few in
      search accepting

  pub lodf-computed : (ptdf : List Float) (len : ℕ) → r ≡ lodf_refusal n ptdf froms tos len → r ≡ 0 → T (all_finite (of_lodf n ptdf froms tos))
  unfolding lodf_refusal
  lodf-computed ptdf len e z = (computed-none (then_given (lodf_shape_refusal n (length ptdf) froms tos len) ptdf) (of_lodf n ptdf froms tos) (sym e ∙ z)).1

-- what the numbers add to no refusal
pub given-met : (told : ℕ) (given : List Float) → told ≡ 0 → T (all_finite given) → then_given told given ≡ 0
unfolding then_given
given-met told given z h = rw (z, is_true (all_finite given) h)

pub computed-met : (told : ℕ) (computed : List Float) → told ≡ 0 → T (all_finite computed) → then_computed told computed ≡ 0
unfolding then_computed
computed-met told computed z h = rw (z, is_true (all_finite computed) h)

-- where nothing is refused by lengths and ends, the numbers tell
pub lodf-told : (p : Ptdf) (n : ℕ) (ptdf : List Float) (froms tos : List ℕ) (len : ℕ)
    → (lodf_shape_refusal n (length ptdf) froms tos len ≡ 0) × (p.factors.now ≡ ptdf) × (p.branches.n ≡ n) × (p.branches.from.now ≡ froms) × (p.branches.to.now ≡ tos)
    → then_computed (then_given 0 p.factors.now) (numbers_of p) ≡ lodf_refusal n ptdf froms tos len
unfolding lodf_refusal
lodf-told p n ptdf froms tos len (shape, a, b, c, d) = rw (a, b, c, d, shape)

-- a refusal has a number
pub numbered : (r : Refusal) → number r ≡ 0 → ⊥
unfolding answered
numbered r e = let h = refused-by (tt {0}) r 0 (sym e) in cc
