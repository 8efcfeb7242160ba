-- The root of a binary64 number, IEEE 754-2019's squareRoot (5.4.1). What is asked for is `Root`: the binary64 nearest the exact root, said
-- over whole numbers. What computes it is `root`, in three steps: special operands, the whole root and its remainder, one rounding. Each
-- step has its heading here and its function in src/steps.rt. `RootSteps` is what they promise; from it alone follows, for x an f64, that
-- the answer is `root x` and meets `Root` (proofs/RootNearest `root-of-steps`).
use Rattle.std.specs.Prelude.{ℕ, zero, suc, ◌+◌, ◌-◌, ◌*◌, ◌/◌, ◌^◌, ◌≤◌, ◌<◌, ◌≡◌}
use Rattle.std.specs.Prelude.{true, false, cond, T, leb, ltb, ℤ, Option, Some, None, Float}
use Rattle.std.specs.Option.{unwrap_or}
use Rattle.std.specs.Float.{nan, inf, fin, binary64}
use Rattle.std.specs.Float.Ieee.{size, odd, fits, lt}
use Rattle.std.specs.Float.Ieee.Positive.{num, den, positive}

abbrev pub square : ℕ → ℕ
square n = n * n

-- ---- what is asked for

-- A finite number that is not negative is the fraction num / den. The middle of y and r, (y + r) / 2, lies below the exact root of x
-- where its square is less than x, and above it where its square is more than x.
abbrev pub MiddleBelow : Float → Float → Float → Type 0
MiddleBelow x y r = square (num y * den r + num r * den y) * den x < 4 * square (den y * den r) * num x

abbrev pub MiddleAbove : Float → Float → Float → Type 0
MiddleAbove x y r = 4 * square (den y * den r) * num x < square (num y * den r + num r * den y) * den x

-- r, finite and above zero, is the binary64 nearest the exact root of x: the middle of r and any smaller number of binary64 lies below
-- the exact root, and the middle of r and any larger one above it. The root is on no middle: half way between neighbours lies a number
-- whose square has more than 53 digits. So there is no tie, and "ties to even" has nothing to decide.
pub record NearestRoot (x r : Float) : Type 0 where
  pub held : T (fits binary64 r)
  pub above : T (positive r)
  pub over : (m : ℕ) (e : ℤ) → T (fits binary64 (fin false m e)) → T (lt (fin false m e) r) → MiddleBelow x (fin false m e) r
  pub under : (m : ℕ) (e : ℤ) → T (fits binary64 (fin false m e)) → T (lt r (fin false m e)) → MiddleAbove x (fin false m e) r

-- with the special operands: NaN of NaN and of a negative number, inf of inf, +0 of +0 and -0 of -0
abbrev pub Root : Float → Float → Type 0
Root nan r = r ≡ nan
Root (inf true) r = r ≡ nan
Root (inf false) r = r ≡ inf false
Root (fin s zero e) r = r ≡ fin s zero e
Root (fin true (suc m) e) r = r ≡ nan
Root (fin false (suc m) e) r = NearestRoot (fin false (suc m) e) r

-- ---- first: special operands

-- NaN of NaN (6.2), NaN of a number below zero, -inf too (7.2), inf of inf (6.1), and each zero of itself, -0 of -0 (6.3). There is one NaN
-- here: its payload, whether it signals, and the flags of clause 7 are outside. Any other operand is an ordinary one, finite and above
-- zero.
abbrev pub special : Float → Option Float
special nan = Some nan
special (inf true) = Some nan
special (inf false) = Some (inf false)
special (fin s zero e) = Some (fin s zero e)
special (fin true (suc m) e) = Some nan
special (fin false (suc m) e) = None

-- ---- second: the whole root q and its remainder r, which stand for the exact root (5.1)

-- For an ordinary x: x is (q * q + r) * 4 ^ (h - 590), exactly. r is at most 2 q, so q is the whole root of q * q + r, and r its remainder.
-- q has 53 binary digits. h, the code's `half`, is at most 1049, since x is below 2 ^ 1024. No other q, r and h are such (proofs/RootDigits
-- `rooted-only`).
pub record Rooted (x : Float) (q r h : ℕ) : Type 0 where
  pub exact : num x * 4 ^ 590 ≡ (square q + r) * 4 ^ h * den x
  pub rest : r ≤ 2 * q
  pub least : 2 ^ 52 ≤ q
  pub most : q < 2 ^ 53
  pub few : h ≤ 1049

-- ---- third: one rounding, to nearest (4.3.1)

-- The whole number N nearest the root of q * q + r, for q above 0 and r at most 2 q: the root lies above q + 1/2 where r is above q, and is
-- never q + 1/2. So square (2 N - 1) < 4 (q * q + r) < square (2 N + 1) (proofs/RootRounding `nearest-whole`).
abbrev pub nearest_whole : ℕ → ℕ → ℕ
nearest_whole q r = cond (ltb q r) (q + 1) q

-- N * 2 ^ (h - 590), the root of N * N * 4 ^ (h - 590): N * 2 ^ (h + 484) / 2 ^ 1074, written as a number by `odd`. Nothing is lost
-- (`moved_value`), and it is a number of binary64 for N up to 2 ^ 53 and h up to 1049 (`moved-fits`).
unfoldable pub moved_back : ℕ → ℕ → Float
moved_back N h = odd 54 false N (h + 484) 1074

abbrev pub rounded : ℕ → ℕ → ℕ → Float
rounded q r h = moved_back (nearest_whole q r) h

-- ---- the three together

-- what the three steps promise of the root y of x: the first alone, or all three
pub data RootSteps (x y : Float) : Type 0 where
  first_alone : special x ≡ Some y → RootSteps x y
  all_three : special x ≡ None → (q r h : ℕ) → Rooted x q r h → y ≡ rounded q r h → RootSteps x y

-- ---- `root`, and how it finds q, r and h: no step promises this. That they are `Rooted` is proofs/RootNearest `root-rooted`.

-- how many times binary64's smallest positive value, 2 ^ -1074, x is. Its root is that number's, times 2 ^ -537.
abbrev pub count : Float → ℕ
count x = num x * 2 ^ 1074 / den x

-- how many binary digits the whole root of n has
unfoldable pub half : ℕ → ℕ
half n = (size n + 1) / 2

-- n moved by pairs of digits, until its whole root has 53. Nothing is lost of a number of binary64.
unfoldable pub radicand : ℕ → ℕ
unfolding half
radicand n = n * 4 ^ 53 / 4 ^ half n

-- the whole root of an n below 4 ^ k: twice that of n / 4, or one more
abbrev pub last_digit : ℕ → ℕ → ℕ
last_digit n q = cond (leb (square (q + 1)) n) (q + 1) q

unfoldable pub whole_root : ℕ → ℕ → ℕ
whole_root zero n = 0
whole_root (suc k) n = last_digit n (2 * whole_root k (n / 4))

-- the root of n times the smallest positive value
unfoldable pub root_of : ℕ → Float
unfolding whole_root half radicand moved_back
root_of n = rounded (whole_root 53 (radicand n)) (radicand n - square (whole_root 53 (radicand n))) (half n)

unfoldable pub root : Float → Float
unfolding root_of
root x = unwrap_or (special x) (root_of (count x))
