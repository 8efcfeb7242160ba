-- 1e-12 between powers of two: it lies above 2 ^ -40 and below 2 ^ -39.
use Rattle.prelude.proofs.Prelude.{◌≡◌, false, true, ℕ, ◌+◌, ◌*◌, ◌^◌, ◌≤◌, arith, T, lit<, ltb-false, lt-ltb, le_of_eq, le_trans, down_pos, Float, nan, inf, fin, up, down, lt, of_bits, finite}
use native.Mathlib.Nat.{le_of_mul-le-mul_right}
use lib.IntN.{ℤ}
use Rattle.binary64.proofs.Magnitudes.{Beyond}
use Rattle.complex.specs.Arithmetic.{◌⊘◌}
use Rattle.complex.specs.Constants.{small_magnitude}
use Rattle.complex.specs.Magnitude.{abs}
use Rattle.complex.proofs.Sizes.{In, div-in}

-- 1e-12 is these digits over 2 ^ 92
abbrev digits : ℕ
digits = 0x119799812dea11

least : (D N : ℕ) → digits * 1 * D ≤ N * 2 ^ 92 → D ≤ 2 ^ 40 * N
least D N h =
    let low : D * 2 ^ 52 ≤ digits * 1 * D = omega arith in
    let same : N * 2 ^ 92 ≡ 2 ^ 40 * N * 2 ^ 52 = omega arith in
    le_of_mul-le-mul_right {k = 2 ^ 52} (le_trans low (le_trans h (le_of_eq same))) (lit< tt)

-- not below it in size: at least 2 ^ -40
strong : (x : Float) → T (finite x) → lt (abs x) small_magnitude ≡ false → Beyond (2 ^ 40) x
unfolding lt abs small_magnitude of_bits
strong nan f h = absurd f
strong (inf s) f h = absurd f
strong (fin s m e) f h = least (down e) (m * up e) (ltb-false (m * up e * 2 ^ 92) (digits * 1 * down e) h)

-- so what it divides grows by 2 ^ 40 at most
pub over-strong : (a k : ℕ) (t x : Float) → a + 40 ≡ k → k ≤ 1023 → In a t → T (finite x) → lt (abs x) small_magnitude ≡ false → In k (t ⊘ x)
over-strong a k t x e l h f w = div-in a 40 k t x e l h (strong x f w)

-- at least 2 ^ -39, and so above it
pub above-small : (m : ℕ) (e : ℤ) → down e ≤ m * up e * 2 ^ 39 → lt small_magnitude (fin false m e) ≡ true
unfolding lt small_magnitude of_bits
above-small m e h = lt-ltb (digits * 1 * down e) (m * up e * 2 ^ 92) (omega (arith, down_pos e))
