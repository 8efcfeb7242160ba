-- An input cut after m bytes: a line that ends before the cut stays as it is, and one that is longer stays too long.
use Rattle.prelude.proofs.Prelude.{◌≡◌, refl, sym, ap, ◌∙◌, Bool, true, false, cond, List, [], ◌∷◌, ℕ, zero, suc, ◌-◌, ◌≤◌, ◌<◌, arith, eqb, length, take, drop, ap₂, sub-zero, length-take}
use native.Mathlib.Nat.{suc-sub-suc, zero-sub}
use lib.Seq.{take-take, take-nil}
use Rattle.text_numbers.specs.Bytes.{Bytes, line_feed}
use Rattle.reduce_text.specs.Lines.{lines, span}
use Rattle.reduce_text.proofs.LineLaws.{span-le}
use Rattle.reduce_text.proofs.ReadLaws.{first-and-rest}

pub drop-take : (k m : ℕ) (d : Bytes) → drop k (take m d) ≡ take (m - k) (drop k d)
drop-take zero m d = rw sub-zero
drop-take (suc k) zero d = rw zero-sub
drop-take (suc k) (suc m) [] = sym (take-nil (suc m - suc k))
drop-take (suc k) (suc m) (x ∷ d) = rw suc-sub-suc (drop-take k m d)

-- the first line ends before the cut
span_same : (m : ℕ) (d : Bytes) → span d < m → span (take m d) ≡ span d
unfolding span
span_same zero d h = absurd (omega arith)
span_same (suc m) [] h = refl
span_same (suc m) (b ∷ d) h = go (eqb b line_feed) h (λ l. span_same m d l)
  where
    go : (t : Bool) → cond t 0 (suc (span d)) < suc m → (span d < m → span (take m d) ≡ span d) → cond t 0 (suc (span (take m d))) ≡ cond t 0 (suc (span d))
    go true l f = refl
    go false l f = ap suc (f (omega arith))

-- it does not
span-long : (j m : ℕ) (d : Bytes) → j ≤ span d → j ≤ m → j ≤ span (take m d)
unfolding span
span-long zero m d h l = omega arith
span-long (suc j) zero d h l = absurd (omega arith)
span-long (suc j) (suc m) [] h l = absurd (omega arith)
span-long (suc j) (suc m) (b ∷ d) h l = go (eqb b line_feed) h (λ k. span-long j m d k (omega arith))
  where
    go : (t : Bool) → suc j ≤ cond t 0 (suc (span d)) → (j ≤ span d → j ≤ span (take m d)) → suc j ≤ cond t 0 (suc (span (take m d)))
    go true k f = absurd (omega arith)
    go false k f = let z : j ≤ span (take m d) = f (omega arith) in omega arith

-- the first line, and the lines behind it in what is left
abbrev pub first_line : Bytes → Bytes
first_line d = take (span d) d

abbrev pub behind : Bytes → Bytes
behind d = drop (suc (span d)) d

pub cut-same : (m : ℕ) (d : Bytes) → 0 < length d → span d < m → lines (take m d) ≡ first_line d ∷ lines (take (m - suc (span d)) (behind d))
cut-same m d n h =
    let e : span (take m d) ≡ span d = span_same m d h in
    first-and-rest (take m d) (omega (arith, length-take m d))
    ∙ ap (λ (k : ℕ). take k (take m d) ∷ lines (drop (suc k) (take m d))) e
    ∙ ap₂ (λ (l : Bytes) (r : Bytes). l ∷ lines r) (take-take (span d) m d (omega arith)) (drop-take (suc (span d)) m d)

pub record Long (d : Bytes) (m : ℕ) : Type 0 where
  pub line : Bytes
  pub rest : List Bytes
  pub cut-is : lines (take m d) ≡ line ∷ rest
  pub long : 34 ≤ length line

pub cut-long : (m : ℕ) (d : Bytes) → 34 ≤ span d → 34 ≤ m → Long d m
cut-long m d h l =
    let k : 34 ≤ span (take m d) = span-long 34 m d h l in
    let s : span (take m d) ≤ length (take m d) = span-le (take m d) in
    record {
      line = first_line (take m d);
      rest = lines (behind (take m d));
      cut-is = first-and-rest (take m d) (omega arith);
      long = omega (arith, length-take (span (take m d)) (take m d));
    }
