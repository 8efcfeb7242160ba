-- Where all entries of the matrix, of the solutions and the base are below 2^200 in size, no entry of the equivalent and no injection
-- overflows: a product is at most 2^401, a sum of at most 256 of them 2^657, an entry 2^658, an injection 2^857.
use Rattle.prelude.proofs.Prelude.{◌≡◌, refl, sym, List, ℕ, zero, suc, ◌+◌, ◌*◌, ◌≤◌, ◌<◌, arith, T, lit≤, length, Float, nan, neg, finite, zero-mul, inf, fin, up, down, ◌^◌, subst}
use Rattle.binary64.proofs.Floats.{Zero}
use Rattle.binary64.proofs.Magnitudes.{neg-within}
use Rattle.complex.specs.{Complex, plus0, ◌⊗◌, csub, cmul, entry, entry_at}
use Rattle.complex.specs.Inner.Ordinary.{ordinary, all_ordinary}
use Rattle.complex.proofs.Matrices.{entry-within}
use Rattle.complex.proofs.Sticky.{Finite}
use Rattle.complex.proofs.Sizes.{In, Both, in-finite, larger-in, mul_in, cadd-in, csub-in, cmul-in, ordinary-in, ordinary-at}
use Rattle.ward_equivalent.specs.Arithmetic.{sum_up, injected_p, injected_q}
use Rattle.ward_equivalent.proofs.Sums.{plus0-zero}

larger-both : (j k : ℕ) (c : Complex) → j ≤ k → Both j c → Both k c
larger-both j k c l (p, q) = (larger-in j k c.re l p, larger-in j k c.im l q)

both_finite : (k : ℕ) (c : Complex) → Both k c → Finite c
both_finite k c (p, q) = (in-finite k c.re p, in-finite k c.im q)

-- what is read from a slice
pub entry_in : (n w : ℕ) (xs : List Float) → length xs ≡ 2 * (n * w) → T (all_ordinary xs) → (i j : ℕ) → i < n → j < w → Both 200 (entry_at w xs i j)
unfolding entry_at entry
entry_in n w xs long h i j x y =
    let within = entry-within n w i j x y in
    (ordinary-at xs (2 * (i * w + j)) (omega arith) h, ordinary-at xs (2 * (i * w + j) + 1) (omega arith) h)

zero_in : (k : ℕ) (x : Float) → Zero x → In k x
zero_in k nan z = z
zero_in k (inf s) z = z
zero_in k (fin s zero e) z = subst (λ (m : ℕ). m ≤ 2 ^ k * down e) (sym (zero-mul (up e))) (omega arith)
zero_in k (fin s (suc m) e) z = absurd z

plus0-in : (k : ℕ) → In k plus0
plus0-in k = zero_in k plus0 plus0-zero

sum-in : (n : ℕ) (f : ℕ → Complex) → n ≤ 256 → ((k : ℕ) → k < n → Both 401 (f k)) → Both (401 + n) (sum_up n f)
unfolding sum_up
sum-in zero f few h = (plus0-in 401, plus0-in 401)
sum-in (suc n) f few h =
    cadd-in (401 + n) (401 + suc n) (sum_up n f) (f n) (omega arith) (omega arith)
    (sum-in n f (omega arith) (λ (k : ℕ) (l : k < n). h k (omega arith))) (larger-both 401 (401 + n) (f n) (omega arith) (h n (omega arith)))

-- a row times a vector
module _ (n : ℕ) (a x : ℕ → Complex) (few : n ≤ 256) (rows : (k : ℕ) → k < n → Both 200 (a k)) (vector : (k : ℕ) → k < n → Both 200 (x k)) where
  products-in : Both 657 (sum_up n (λ (k : ℕ). cmul (a k) (x k)))
  products-in =
      larger-both (401 + n) 657 (sum_up n (λ (k : ℕ). cmul (a k) (x k))) (omega arith)
      (sum-in n (λ (k : ℕ). cmul (a k) (x k)) few λ (k : ℕ) (l : k < n). cmul-in 200 200 401 (a k) (x k) refl (lit≤ tt) (rows k l) (vector k l))

  pub entry-below : (own : Complex) → Both 200 own → Finite (csub own (sum_up n (λ (k : ℕ). cmul (a k) (x k))))
  entry-below own h =
      both_finite 658 (csub own (sum_up n (λ (k : ℕ). cmul (a k) (x k))))
      (csub-in 657 658 own (sum_up n (λ (k : ℕ). cmul (a k) (x k))) refl (lit≤ tt) (larger-both 200 657 own (lit≤ tt) h) products-in)

  pub injection-below : (base : Float) → T (ordinary base)
      → T (finite (injected_p base (sum_up n (λ (k : ℕ). cmul (a k) (x k))))) × T (finite (injected_q base (sum_up n (λ (k : ℕ). cmul (a k) (x k)))))
  unfolding injected_p injected_q
  injection-below base h =
      let c = sum_up n (λ (k : ℕ). cmul (a k) (x k)) in
      let (p, q) = products-in in
      let b = ordinary-in base h in (
        in-finite 857 (neg c.re ⊗ base) (mul_in 657 200 857 (neg c.re) base refl (lit≤ tt) (neg-within (2 ^ 657) c.re p) b),
        in-finite 857 (c.im ⊗ base) (mul_in 657 200 857 c.im base refl (lit≤ tt) q b),
      )
