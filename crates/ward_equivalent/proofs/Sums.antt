-- Sums whose terms are zero are zero: of products with zero factors that are finite, of weights of zero admittances.
use Rattle.prelude.proofs.Prelude.{◌≡◌, refl, ap, ◌∙◌, true, false, List, [], ◌∷◌, ◌++◌, ℕ, zero, suc, ◌*◌, ◌<◌, arith, T, ltb, length, get_or, Float, nan, zero-mul, lit<, ℤ, inf, fin, binary64, fits, lt, of_bits, up, down}
use lib.Dec.{leb-suc-zero}
use lib.Ieee.Fits.{add-fits, sub-fits, mul-fits}
use Rattle.complex.specs.{Complex, plus0, small_magnitude, ◌⊕◌, ◌⊗◌, cadd, cmul, sqmag, of_product, of_sum, of_sqmag, magnitude}
use Rattle.binary64.specs.Values.{all_finite}
use Rattle.binary64.specs.Root.{root}
use Rattle.binary64.proofs.Floats.{Zero, add_left, sub-right, zero_of}
use Rattle.complex.proofs.Finite.{all_left, all_right, all-at, zero-times}
use Rattle.ward_equivalent.specs.Arithmetic.{sum_up}
use Rattle.ward_equivalent.specs.Extended.{add_up}
use Rattle.ward_equivalent.specs.Steps.{of_each, of_products}

abbrev pub Null : Complex → Type 0
Null c = Zero c.re × Zero c.im

pub plus0-zero : Zero plus0
unfolding plus0 of_bits
plus0-zero = tt

add-zeros : (x y : Float) → Zero x → T (fits binary64 y) → Zero y → Zero (x ⊕ y)
add-zeros x y a h b = zero_of (add_left binary64 x y a h) b

-- ---- products

pub product-null : (a b : Complex) → Null a → T (all_finite (of_product a b)) → Null (cmul a b)
unfolding cmul
product-null a b z h =
    let ac : Zero (a.re ⊗ b.re) = zero-times binary64 a.re b.re z.0 (all-at (of_product a b) 0 (lit< tt) h) in
    let bd : Zero (a.im ⊗ b.im) = zero-times binary64 a.im b.im z.1 (all-at (of_product a b) 1 (lit< tt) h) in
    let ad : Zero (a.re ⊗ b.im) = zero-times binary64 a.re b.im z.0 (all-at (of_product a b) 3 (lit< tt) h) in
    let bc : Zero (a.im ⊗ b.re) = zero-times binary64 a.im b.re z.1 (all-at (of_product a b) 4 (lit< tt) h) in (
      zero_of (sub-right binary64 (a.re ⊗ b.re) (a.im ⊗ b.im) (mul-fits binary64 a.re b.re) bd) ac,
      add-zeros (a.re ⊗ b.im) (a.im ⊗ b.re) ad (mul-fits binary64 a.im b.re) bc,
    )

pub products-null : (n : ℕ) (a x : ℕ → Complex) → ((k : ℕ) → k < n → Null (a k)) → T (all_finite (of_products n a x)) → Null (sum_up n (λ (k : ℕ). cmul (a k) (x k)))
unfolding sum_up of_products cadd cmul
products-null zero a x z h = (plus0-zero, plus0-zero)
products-null (suc n) a x z h =
    let last = of_sum (sum_up n (λ (k : ℕ). cmul (a k) (x k))) (cmul (a n) (x n)) in
    let before = all_left (of_products n a x ++ of_product (a n) (x n)) last h in
    let sum = products-null n a x (λ (k : ℕ) (l : k < n). z k (omega arith)) (all_left (of_products n a x) (of_product (a n) (x n)) before) in
    let term = product-null (a n) (x n) (z n (omega arith)) (all_right (of_products n a x) (of_product (a n) (x n)) before) in (
      add-zeros (sum_up n (λ (k : ℕ). cmul (a k) (x k))).re (cmul (a n) (x n)).re sum.0 (sub-fits binary64 ((a n).re ⊗ (x n).re) ((a n).im ⊗ (x n).im)) term.0,
      add-zeros (sum_up n (λ (k : ℕ). cmul (a k) (x k))).im (cmul (a n) (x n)).im sum.1 (add-fits binary64 ((a n).re ⊗ (x n).im) ((a n).im ⊗ (x n).re)) term.1,
    )

-- ---- numbers

pub sum-zero : (n : ℕ) (f : ℕ → Float) → ((k : ℕ) → k < n → Zero (f k) × T (fits binary64 (f k))) → Zero (add_up n f)
unfolding add_up
sum-zero zero f z = plus0-zero
sum-zero (suc n) f z =
    let (last, fit) = z n (omega arith) in
    add-zeros (add_up n f) (f n) (sum-zero n f (λ (k : ℕ) (l : k < n). z k (omega arith))) fit last

root-zero : (x : Float) → Zero x → root x ≡ x
unfolding root
root-zero nan z = absurd z
root-zero (inf s) z = absurd z
root-zero (fin s zero e) z = refl
root-zero (fin s (suc m) e) z = absurd z

-- the magnitude of a zero, where its squares are finite
pub magnitude-zero : (c : Complex) → Null c → T (all_finite (of_sqmag c)) → Zero (magnitude c) × T (fits binary64 (magnitude c))
unfolding magnitude sqmag
magnitude-zero c z h =
    let re : Zero (c.re ⊗ c.re) = zero-times binary64 c.re c.re z.0 (all-at (of_sqmag c) 0 (lit< tt) h) in
    let im : Zero (c.im ⊗ c.im) = zero-times binary64 c.im c.im z.1 (all-at (of_sqmag c) 1 (lit< tt) h) in
    let square : Zero (sqmag c) = add-zeros (c.re ⊗ c.re) (c.im ⊗ c.im) re (mul-fits binary64 c.im c.im) im in
    rw (root-zero (sqmag c) square) (square, add-fits binary64 (c.re ⊗ c.re) (c.im ⊗ c.im))

-- a zero is not above a number without a sign
not-above : (m : ℕ) (d : ℤ) (x : Float) → Zero x → lt (fin false m d) x ≡ false
unfolding lt
not-above m d nan z = refl
not-above m d (inf s) z = absurd z
not-above m d (fin s (suc n) e) z = absurd z
not-above m d (fin true zero e) z = refl
not-above m d (fin false zero e) z = ap (ltb (m * up d * down e)) (simp zero-mul) ∙ leb-suc-zero (m * up d * down e)

-- nor above 1e-12
pub none_above : (x : Float) → Zero x → lt small_magnitude x ≡ false
unfolding small_magnitude of_bits
none_above x z = not-above _ _ x z

-- ---- lists of computed numbers

pub each_at : (f : ℕ → List Float) (is : List ℕ) (p : ℕ) → p < length is → T (all_finite (of_each f is)) → T (all_finite (f (get_or is p 0)))
unfolding of_each
each_at f [] p l h = absurd (omega arith)
each_at f (i ∷ is) zero l h = all_left (f i) (of_each f is) h
each_at f (i ∷ is) (suc p) l h = each_at f is p (omega arith) (all_right (f i) (of_each f is) h)
