-- The pivot's row is the upper one of those with the largest weight; a NaN stays where it is held, and is passed over further down.
--     search-taken  over any element's operations, where no weight is negative
--     pivot-taken   of complex numbers, by their squared magnitudes
use Rattle.prelude.proofs.Prelude.{◌≡◌, refl, sym, ap, ◌∙◌, subst, Bool, true, false, not, cond, ◌⊎◌, inl, inr, [], ◌∷◌, ℕ, zero, suc, ◌+◌, ◌-◌, ◌≤◌, ◌<◌, arith, T, get_or, Float, nan, eq-or-lt_of_le, lit<, binary64, lt, eq, add, mul, of_bits}
use lib.Dec.{T_not}
use Rattle.binary64.proofs.Order.{NotNegative, square-not-negative, sum-not-negative, below_nan, lt-asym, lt_irrefl, lt-apart}
use Rattle.complex.specs.{Complex, sqmag, Matrix}
use Rattle.solver.specs.GaussJordan.{Operations, MatrixOf, stays, held_after, pivot_row}
use Rattle.solver.specs.Solving.{operations}
use Rattle.solver.specs.Pivots.{Uppermost, ChosenRow, UpperRow}

module _ (w : ℕ → Float) (weighs : (r : ℕ) → NotNegative (w r)) (c : ℕ) where
  alone : (w c ≡ nan → ⊥) → Uppermost w c (suc c) c
  alone h =
      record {
        among = (omega arith, omega arith);
        number = h;
        none_more = λ (r : ℕ) (a : c ≤ r) (k : r < suc c). subst (λ (x : ℕ). T (not (lt (w c) (w x)))) (omega arith) (lt_irrefl (w c) (weighs c));
        above-less = λ r a k. absurd (omega arith);
      }

  -- the next row is weighed against the held one
  step : (held next : ℕ) (b : Bool) → lt (w held) (w next) ≡ b → Uppermost w c next held → Uppermost w c (suc next) (cond (not b) held next)
  step held next false e u =
      record {
        among = (u.among.0, omega arith);
        number = u.number;
        none_more = λ (r : ℕ) (a : c ≤ r) (l : r < suc next).
            elim (eq-or-lt_of_le {n = r} {m = next} (omega arith)) [
              | inl p ↦ subst (λ (x : ℕ). T (not (lt (w held) (w x)))) (sym p) (rw e tt)
              | inr k ↦ u.none_more r a k
            ];
        above-less = u.above-less;
      }
  step held next true e u =
      record {
        among = (omega arith, omega arith);
        number = λ (p : w next ≡ nan). T_not (lt (w held) nan) (below_nan (w held)) (subst (λ (x : Float). T (lt (w held) x)) p more);
        none_more = λ (r : ℕ) (a : c ≤ r) (l : r < suc next).
            elim (eq-or-lt_of_le {n = r} {m = next} (omega arith)) [
              | inl p ↦ subst (λ (x : ℕ). T (not (lt (w next) (w x)))) (sym p) (lt_irrefl (w next) (weighs next))
              | inr k ↦ not_more r (less r a k)
            ];
        above-less = less;
      }
    where
      more : T (lt (w held) (w next))
      more = rw e tt

      less : (r : ℕ) → c ≤ r → r < next → T (lt (w r) (w next)) ⊎ (w r ≡ nan)
      less r a k =
          elim (lt-apart (w held) (w r) (w next) (weighs held) (weighs r) (weighs next) more) [
            | inl t ↦ absurd (T_not (lt (w held) (w r)) (u.none_more r a k) t)
            | inr s ↦ s
          ]

      not_more : (r : ℕ) → T (lt (w r) (w next)) ⊎ (w r ≡ nan) → T (not (lt (w next) (w r)))
      not_more r (inl t) = lt-asym (w r) (w next) (weighs r) (weighs next) t
      not_more r (inr p) = subst (λ (x : Float). T (not (lt (w next) x))) (sym p) (below_nan (w next))

module _ {E : Type 0} (O : Operations E) (weighs : (x : E) → NotNegative (O.weight x)) (A : MatrixOf E) (c n : ℕ) where
  abbrev w : ℕ → Float
  w r = O.weight (A r c)

  held-uppermost : (held next count : ℕ) → next + count ≡ n → Uppermost w c next held → Uppermost w c n (held_after O A c held next count)
  unfolding held_after stays
  held-uppermost held next zero e u = subst (λ (x : ℕ). Uppermost w c x held) (omega arith) u
  held-uppermost held next (suc count) e u =
      held-uppermost (cond (not (lt (w held) (w next))) held next) (suc next) count (omega arith)
      (step w (λ (r : ℕ). weighs (A r c)) c held next (lt (w held) (w next)) refl u)

  nan-stays : (held next count : ℕ) → w held ≡ nan → held_after O A c held next count ≡ held
  unfolding held_after stays lt
  nan-stays held next zero p = refl
  nan-stays held next (suc count) p =
      ap (λ (x : Float). held_after O A c (cond (stays x (w next)) held next) (suc next) count) p ∙ nan-stays held (suc next) count p

  pub search-taken : c < n → ChosenRow w c n (pivot_row O n A c)
  unfolding pivot_row
  search-taken l =
      record {
        nan-held = nan-stays c (suc c) (n - suc c);
        uppermost = λ (h : w c ≡ nan → ⊥). held-uppermost c (suc c) (n - suc c) (omega arith) (alone w (λ (r : ℕ). weighs (A r c)) c h);
      }

-- ---- complex numbers

sqmag-weighs : (z : Complex) → NotNegative (sqmag z)
unfolding sqmag
sqmag-weighs z = sum-not-negative binary64 _ _ (square-not-negative binary64 z.re) (square-not-negative binary64 z.im)

pub pivot-taken : UpperRow
pivot-taken n c A l = search-taken operations sqmag-weighs A c n l

-- ---- 1, NaN, 2, -2 in a column: row 2 is the upper one of the two that weigh most

abbrev float : ℕ → Float
float n = of_bits binary64 n

abbrev column : Matrix
column i j = record { re = get_or (float 0x3ff0000000000000 ∷ nan ∷ float 0x4000000000000000 ∷ float 0xc000000000000000 ∷ []) i (float 0); im = float 0 }

abbrev weight : ℕ → Float
weight r = sqmag (column r 0)

first-is-number : weight 0 ≡ nan → ⊥
unfolding sqmag mul add eq of_bits
first-is-number e = subst (λ (x : Float). T (eq x x)) e tt

taken : pivot_row operations 4 column 0 ≡ 2
unfolding pivot_row held_after stays sqmag lt mul add of_bits
taken = refl

third-row : Uppermost weight 0 4 2
third-row = subst (Uppermost weight 0 4) taken ((pivot-taken 4 0 column (lit< tt)).uppermost first-is-number)
