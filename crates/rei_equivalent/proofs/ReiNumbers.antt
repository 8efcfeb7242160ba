-- Which numbers of `compute` tell that all are finite: each sum and each diagonal's squared magnitude.
use Rattle.prelude.proofs.Prelude.{◌≡◌, refl, ◌∙◌, Bool, true, false, ◌&&◌, cond, List, [], ◌∷◌, ◌++◌, ℕ, zero, suc, ◌+◌, ◌≤◌, ◌<◌, arith, T, Float, nan, inf, fin, binary64, fits, lt, of_int, of_bits, drop, and_i, and_l, and_r, finite, lit<, lit≤}
use native.Mathlib.Nat.{lt_of_le_of_lt}
use mathlib.Core.List.{foldl}
use lib.IntN.{pos}
use lib.Ieee.Fits.{add-fits}
use lib.Ieee.Positive.{positive-finite}
use Rattle.binary64.specs.Values.{all_finite}
use Rattle.binary64.specs.Root.{root}
use Rattle.binary64.proofs.Order.{NotNegative, square-not-negative, sum-not-negative}
use Rattle.binary64.proofs.Magnitudes.{Beyond}
use Rattle.binary64.proofs.Operands.{add-operands}
use Rattle.binary64.proofs.SquareRange.{beyond-finite, square-within, count-beyond}
use Rattle.binary64.proofs.RootNearest.{root_is}
use Rattle.complex.specs.{Complex, Matrix, entry_at, plus0, small_magnitude, sqmag, magnitude, ◌⊕◌, ◌⊗◌, ◌⊘◌, of_sqmag}
use Rattle.complex.specs.Leaves.{of_magnitude}
use Rattle.complex.proofs.Finite.{none, all_more, all_join, all_left, all_right, first_of, rest_of}
use Rattle.complex.proofs.Sizes.{in-finite, div-in}
use Rattle.complex.proofs.Sticky.{same_test, square-finite, square-result}
use Rattle.lists.specs.Buses.{up_to}
use Rattle.lists.proofs.Stores.{up_to-here}
use Rattle.refusals.specs.Refusals.{limit}
use Rattle.rei_equivalent.specs.Rei.{total, partial_sums, of_spoke, of_spokes, of_rei}

pub joined-finite : (xs ys : List Float) → all_finite (xs ++ ys) ≡ (all_finite xs && all_finite ys)
joined-finite xs ys =
    same_test _ _ (λ (h : T (all_finite (xs ++ ys))). and_i (all_finite xs) (all_finite ys) (all_left xs ys h) (all_right xs ys h))
    (λ (h : T (all_finite xs && all_finite ys)). all_join xs ys (and_l (all_finite xs) (all_finite ys) h) (and_r (all_finite xs) (all_finite ys) h))

-- ---- sums

-- a sum that is finite was finite on the way
sum-given : (s : Float) (xs : List Float) → T (finite (foldl ◌⊕◌ s xs)) → T (finite s) × T (all_finite (partial_sums s xs))
unfolding partial_sums
sum-given s [] h = (h, none)
sum-given s (x ∷ xs) h = let (next, rest) = sum-given (s ⊕ x) xs h in ((add-operands binary64 s x next).0, all_more (s ⊕ x) (partial_sums (s ⊕ x) xs) next rest)

sum-result : (s : Float) (xs : List Float) → T (finite s) → T (all_finite (partial_sums s xs)) → T (finite (foldl ◌⊕◌ s xs))
unfolding partial_sums
sum-result s [] f h = f
sum-result s (x ∷ xs) f h = sum-result (s ⊕ x) xs (first_of (s ⊕ x) (partial_sums (s ⊕ x) xs) h) (rest_of (s ⊕ x) (partial_sums (s ⊕ x) xs) h)

pub plus0-finite : T (finite plus0)
unfolding plus0 of_bits
plus0-finite = tt

pub sum_tells : (xs : List Float) → finite (total xs) ≡ all_finite (partial_sums plus0 xs)
unfolding total
sum_tells xs = same_test _ _ (λ (h : T (finite (foldl ◌⊕◌ plus0 xs))). (sum-given plus0 xs h).1) (sum-result plus0 xs plus0-finite)

-- ---- spokes

root-finite : (x : Float) → T (fits binary64 x) → NotNegative x → T (finite x) → T (finite (root x))
unfolding root
root-finite nan f p h = h
root-finite (inf s) f p h = absurd h
root-finite (fin s zero e) f p h = tt
root-finite (fin true (suc m) e) f p h = absurd p
root-finite (fin false (suc m) e) f p h = positive-finite (root (fin false (suc m) e)) (root_is (fin false (suc m) e) f).above

magnitude-finite : (y : Complex) → T (finite (sqmag y)) → T (finite (magnitude y))
unfolding magnitude sqmag
magnitude-finite y h =
    root-finite (sqmag y) (add-fits binary64 (y.re ⊗ y.re) (y.im ⊗ y.im))
    (sum-not-negative binary64 (y.re ⊗ y.re) (y.im ⊗ y.im) (square-not-negative binary64 y.re) (square-not-negative binary64 y.im)) h

squares-of : (y : Complex) → T (finite (sqmag y)) → T (finite (y.re ⊗ y.re)) × T (finite (y.im ⊗ y.im))
unfolding sqmag
squares-of y h = add-operands binary64 (y.re ⊗ y.re) (y.im ⊗ y.im) h

-- a number whose square is finite, over a count
share-finite : (n : ℕ) (x : Float) → Beyond 1 (of_int binary64 (pos n)) → T (finite (x ⊗ x)) → T (finite (x ⊘ of_int binary64 (pos n)))
share-finite n x far h =
    let c = of_int binary64 (pos n) in
    in-finite 512 (x ⊘ c) (div-in 512 0 512 x c refl (lit≤ tt) (square-within x h) far)

-- the squared magnitude tells all numbers of the spoke of one of n buses
pub spoke-tells : (n : ℕ) (y : Complex) → 0 < n → n ≤ limit → finite (sqmag y) ≡ all_finite (of_spoke (of_int binary64 (pos n)) y)
unfolding of_spoke
spoke-tells n y some few =
    same_test _ _ there (λ (h : T (all_finite (of_spoke (of_int binary64 (pos n)) y))). square-result y (all_left (of_sqmag y) _ (all_left (of_magnitude y) _ h)))
  where
    there : T (finite (sqmag y)) → T (all_finite (of_spoke (of_int binary64 (pos n)) y))
    there h =
        all_join (of_magnitude y) _ (all_join (of_sqmag y) _ (square-finite y h) (all_more (magnitude y) [] (magnitude-finite y h) none)) (go (lt small_magnitude (magnitude y)))
      where
        far : Beyond 1 (of_int binary64 (pos n))
        far = count-beyond n (omega arith) (lt_of_le_of_lt few (lit< tt))

        go : (strong : Bool) → T (all_finite (cond strong (of_int binary64 (pos n) ∷ y.re ⊘ of_int binary64 (pos n) ∷ y.im ⊘ of_int binary64 (pos n) ∷ []) []))
        go true =
            let (re, im) = squares-of y h in
            all_more (of_int binary64 (pos n)) _ (beyond-finite 1 (of_int binary64 (pos n)) far)
            (all_more (y.re ⊘ of_int binary64 (pos n)) _ (share-finite n y.re far re)
            (all_more (y.im ⊘ of_int binary64 (pos n)) _ (share-finite n y.im far im) none))
        go false = none

module _ (c : Float) (Y : Matrix) (n i : ℕ) (l : i < n) where
  pub spokes-here : all_finite (of_spokes c Y (drop i (up_to n))) ≡ (all_finite (of_spoke c (Y i i)) && all_finite (of_spokes c Y (drop (i + 1) (up_to n))))
  unfolding of_spokes
  spokes-here = rw (up_to-here n i l) (joined-finite (of_spoke c (Y i i)) (of_spokes c Y (drop (i + 1) (up_to n))))

-- ---- all of them

pub rei-tells : (n : ℕ) (entries p q : List Float)
    → (finite (total p) && (finite (total q) && all_finite (of_spokes (of_int binary64 (pos n)) (entry_at n entries) (up_to n)))) ≡ all_finite (of_rei n entries p q)
unfolding of_rei
rei-tells n entries p q =
    let spokes = of_spokes (of_int binary64 (pos n)) (entry_at n entries) (up_to n) in
    rw (sum_tells p, sum_tells q, joined-finite (partial_sums plus0 p) (partial_sums plus0 q ++ spokes), joined-finite (partial_sums plus0 q) spokes)

-- as the pass that answered r took the sums
pub rei-told : (r : Bool) (n : ℕ) (entries p q : List Float) (s t : Float) → s ≡ total p → t ≡ total q
    → r ≡ (finite s && (finite t && all_finite (of_spokes (of_int binary64 (pos n)) (entry_at n entries) (up_to n)))) → r ≡ all_finite (of_rei n entries p q)
rei-told r n entries p q s t e f h = (rw (e, f) at h) ∙ rei-tells n entries p q
