-- A sum of squares below a number is finite: what is not negative and is less than something is no infinity and no NaN.
use Rattle.prelude.proofs.Prelude.{true, false, T, Float, nan, inf, fin, binary64, lt, finite}
use Rattle.binary64.proofs.Order.{NotNegative, square-not-negative, sum-not-negative}
use Rattle.complex.specs.declared.Complex.{Complex}
use Rattle.complex.specs.Arithmetic.{◌⊗◌, sqmag}
use Rattle.complex.specs.Computed.{of_sqmag}
use Rattle.binary64.specs.Values.{all_finite}
use Rattle.complex.proofs.Sticky.{square-finite}

finite-below : (x y : Float) → NotNegative x → T (lt x y) → T (finite x)
unfolding lt
finite-below nan y h t = t
finite-below (inf true) y h t = absurd h
finite-below (inf false) nan h t = t
finite-below (inf false) (inf u) h t = t
finite-below (inf false) (fin u n d) h t = t
finite-below (fin s m e) y h t = tt

-- the numbers in a squared magnitude that is below one
pub sqmag-below : (b : Complex) (y : Float) → T (lt (sqmag b) y) → T (all_finite (of_sqmag b))
unfolding sqmag
sqmag-below b y h =
    let p = square-not-negative binary64 b.re in
    let q = square-not-negative binary64 b.im in
    square-finite b (finite-below (sqmag b) y (sum-not-negative binary64 (b.re ⊗ b.re) (b.im ⊗ b.im) p q) h)
