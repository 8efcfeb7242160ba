-- The root of a number that is finite alone is finite: so the magnitude tells of the squared magnitude, and of the numbers in it.
use Rattle.prelude.proofs.Prelude.{◌≡◌, [], ◌∷◌, true, false, T, Float, nan, inf, fin, finite}
use Rattle.binary64.specs.Values.{all_finite}
use Rattle.binary64.specs.Root.{root}
use Rattle.complex.specs.declared.Complex.{Complex}
use Rattle.complex.specs.Arithmetic.{sqmag}
use Rattle.complex.specs.Computed.{of_sqmag}
use Rattle.complex.specs.Magnitude.{magnitude}
use Rattle.complex.specs.Leaves.{of_magnitude}
use Rattle.complex.proofs.Finite.{none, all_more, all_join, all_right, first_of}
use Rattle.complex.proofs.Sticky.{same_test, square-finite}

pub root-given : (x : Float) → T (finite (root x)) → T (finite x)
unfolding root
root-given nan h = h
root-given (inf true) h = h
root-given (inf false) h = h
root-given (fin s m e) h = tt

pub magnitude-tells : (c : Complex) → finite (magnitude c) ≡ all_finite (of_magnitude c)
unfolding magnitude
magnitude-tells c =
    same_test _ _
    (λ (h : T (finite (root (sqmag c)))). all_join (of_sqmag c) _ (square-finite c (root-given (sqmag c) h)) (all_more _ _ h none))
    (λ (h : T (all_finite (of_magnitude c))). first_of (root (sqmag c)) [] (all_right (of_sqmag c) (root (sqmag c) ∷ []) h))
