-- `rei_equivalent::spokes::has_spoke` meets its contract: the root of a number above 2 ^ -78 is not below 2 ^ -39, which is above 1e-12.
use Rattle.prelude.proofs.Prelude.{◌≡◌, refl, sym, ◌∙◌, true, false, zero, suc, ◌*◌, ◌≤◌, ◌<◌, arith, T, Float, nan, true≢false, ◌^◌, ltb-true, lt→ltb, inf, fin, binary64, up, down, fits, lt, of_bits}
use lib.IntN.{negsuc}
use lib.Ieee.Fits.{add-fits}
use lib.Ieee.Positive.{num, den}
use Rattle.complex.specs.{Complex, small_magnitude, ◌⊗◌, sqmag, magnitude}
use Rattle.complex.proofs.SmallMagnitude.{above-small}
use Rattle.binary64.specs.Root.{NearestRoot, root}
use Rattle.binary64.proofs.RootNearest.{root_is, root-least}
use Rattle.rei_equivalent.proofs.spokes.has_spoke.Goals as goal

above-small-magnitude : (x r : Float) → NearestRoot x r → den x ≤ num x * 2 ^ 78 → lt small_magnitude r ≡ true
unfolding lt small_magnitude of_bits fits
above-small-magnitude x nan v h = absurd v.above
above-small-magnitude x (inf s) v h = absurd v.above
above-small-magnitude x (fin true n d) v h = absurd v.above
above-small-magnitude x (fin false n d) v h =
    let no : ¬ (n * up d * 2 ^ 39 < 1 * 1 * down d) = (λ l. root-least x (fin false n d) 1 (negsuc 38) v tt (omega arith) (lt→ltb _ _ l)) in
    above-small n d (omega arith)

strong : (x : Float) → T (fits binary64 x) → lt (of_bits binary64 0x3b10000000000000) x ≡ true → lt small_magnitude (root x) ≡ true
unfolding lt small_magnitude of_bits root
strong nan f t = absurd (true≢false (sym t))
strong (inf true) f t = absurd (true≢false (sym t))
strong (inf false) f t = refl
strong (fin true m e) f t = absurd (true≢false (sym t))
strong (fin false zero e) f t = absurd (let h = ltb-true (1 * 1 * down e) (0 * up e * 2 ^ 78) t in omega arith)
strong (fin false (suc m) e) f t =
    let h = ltb-true (1 * 1 * down e) (suc m * up e * 2 ^ 78) t in
    above-small-magnitude (fin false (suc m) e) (root (fin false (suc m) e)) (root_is (fin false (suc m) e) f) (omega arith)

sqmag-fits : (y : Complex) → T (fits binary64 (sqmag y))
unfolding sqmag
sqmag-fits y = add-fits binary64 (y.re ⊗ y.re) (y.im ⊗ y.im)

pub returns-then-sqmag : goal.returns-then-sqmag
unfolding magnitude small_magnitude
returns-then-sqmag c = c.if-sqmag.true ∙ sym (strong _ (sqmag-fits c.args.y) (rw c.sqmag.ensures at c.if-sqmag.true))

pub returns-else-sqmag : goal.returns-else-sqmag
unfolding magnitude small_magnitude
returns-else-sqmag c = rw c.magnitude.ensures
