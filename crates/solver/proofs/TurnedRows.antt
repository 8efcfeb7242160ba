-- A row scaled, with the same row turned behind it, and a factor times a number that is turned beside it.
use Rattle.prelude.proofs.Prelude.{◌≡◌, refl, sym, ap, ◌∙◌, List, ℕ, ◌+◌, ◌*◌, ◌≤◌, ◌<◌, arith, length, Float, binary64, sub}
use Rattle.binary64.proofs.Signs.{mul-neg}
use Rattle.complex.specs.{Complex, ◌⊕◌, ◌⊗◌, cmul, entry, put}
use Rattle.complex.proofs.Entries.{parts_same, length-put, entry-put-same, entry-put-other}
use Rattle.solver.specs.Inner.Work.{turned, BesideTurned}
use Rattle.solver.proofs.Passed.{up_to}

-- ---- made: the first j entries are scaled and stand in `to` and, turned, behind the first w; the others of the w are as they were

pub record ScaledTo (w : ℕ) (by : Complex) (ys₀ ys to : List Float) (j : ℕ) : Type 0 where
  pub most : j ≤ w
  pub long : length ys ≡ 4 * w
  pub room : length to ≡ 2 * w
  pub ahead : (k : ℕ) → j ≤ k → k < w → entry ys k ≡ entry ys₀ k
  pub behind : (k : ℕ) → k < j → entry ys k ≡ cmul (entry ys₀ k) by
  pub halves : (k : ℕ) → k < j → entry ys (w + k) ≡ turned (entry ys k)
  pub stored : (k : ℕ) → k < j → entry to k ≡ entry ys k

pub scaled-none : (w : ℕ) (by : Complex) (ys to : List Float) → length ys ≡ 4 * w → length to ≡ 2 * w → ScaledTo w by ys ys to 0
scaled-none w by ys to l r = record {
  most = omega arith;
  long = l;
  room = r;
  ahead = λ k h g. refl;
  behind = λ k h. absurd (omega arith);
  halves = λ k h. absurd (omega arith);
  stored = λ k h. absurd (omega arith);
}

module _ (w : ℕ) (by : Complex) (ys₀ ys to : List Float) (j : ℕ) (h : j < w) (s : ScaledTo w by ys₀ ys to j) (p : Complex) where
  abbrev once : List Float
  once = put ys j p

  abbrev twice : List Float
  twice = put once (w + j) (turned p)

  here : entry twice j ≡ p
  here = entry-put-other once (w + j) (turned p) j (λ (n : j ≡ w + j). omega arith) ∙ entry-put-same ys j p (omega (arith, s.long))

  beside : entry twice (w + j) ≡ turned p
  beside = let l = length-put ys j p in entry-put-same once (w + j) (turned p) (omega (arith, s.long))

  front : (k : ℕ) → k < w → (k ≡ j → ⊥) → entry twice k ≡ entry ys k
  front k g n = entry-put-other once (w + j) (turned p) k (λ (m : k ≡ w + j). omega arith) ∙ entry-put-other ys j p k n

  back : (k : ℕ) → k < j → entry twice (w + k) ≡ entry ys (w + k)
  back k g = entry-put-other once (w + j) (turned p) (w + k) (λ (m : w + k ≡ w + j). omega arith) ∙ entry-put-other ys j p (w + k) (λ (m : w + k ≡ j). omega arith)

  scaled-more : p ≡ cmul (entry ys j) by → ScaledTo w by ys₀ twice (put to j p) (j + 1)
  scaled-more e = record {
    most = omega arith;
    long = length-put once (w + j) (turned p) ∙ length-put ys j p ∙ s.long;
    room = length-put to j p ∙ s.room;
    ahead = λ k g l. front k l (λ (n : k ≡ j). omega arith) ∙ s.ahead k (omega arith) l;
    behind = up_to j (λ (k : ℕ). entry twice k ≡ cmul (entry ys₀ k) by)
        (here ∙ e ∙ ap (λ (x : Complex). cmul x by) (s.ahead j (omega arith) h))
        (λ k g. front k (omega arith) (λ (n : k ≡ j). omega arith) ∙ s.behind k g);
    halves = up_to j (λ (k : ℕ). entry twice (w + k) ≡ turned (entry twice k))
        (beside ∙ ap turned (sym here))
        (λ k g. back k g ∙ s.halves k g ∙ ap turned (sym (front k (omega arith) (λ (n : k ≡ j). omega arith))));
    stored = up_to j (λ (k : ℕ). entry (put to j p) k ≡ entry twice k)
        (entry-put-same to j p (omega (arith, s.room)) ∙ sym here)
        (λ k g. entry-put-other to j p k (λ (n : k ≡ j). omega arith) ∙ s.stored k g ∙ sym (front k (omega arith) (λ (n : k ≡ j). omega arith)));
  }

  pub scaled-next : (zs ts : List Float) → zs ≡ twice → ts ≡ put to j p → p ≡ cmul (entry ys j) by → ScaledTo w by ys₀ zs ts (j + 1)
  scaled-next zs ts a b e = rw (a, b) (scaled-more e)

pub scaled-all : (w : ℕ) (by : Complex) (ys₀ ys to : List Float) (j : ℕ) → w ≤ j → ScaledTo w by ys₀ ys to j
    → BesideTurned w ys × ((q : ℕ) → q < w → entry ys q ≡ cmul (entry ys₀ q) by) × ((q : ℕ) → q < w → entry to q ≡ entry ys q)
scaled-all w by ys₀ ys to j g s = (
  record { long = s.long; halves = λ q h. s.halves q (omega arith) },
  λ q h. s.behind q (omega arith),
  λ q h. s.stored q (omega arith),
)

-- ---- used

-- a real part's difference as a sum
turned-re : (f p : Complex) → f.re ⊗ p.re ⊕ f.im ⊗ (turned p).re ≡ (cmul f p).re
unfolding turned cmul sub
turned-re f p = ap (λ (x : Float). f.re ⊗ p.re ⊕ x) (mul-neg binary64 f.im p.im)

turned-im : (f p : Complex) → f.re ⊗ p.im ⊕ f.im ⊗ (turned p).im ≡ (cmul f p).im
unfolding turned cmul
turned-im f p = refl

pub turned_product : (f p t : Complex) → t ≡ turned p → record { re = f.re ⊗ p.re ⊕ f.im ⊗ t.re; im = f.re ⊗ p.im ⊕ f.im ⊗ t.im } ≡ cmul f p
turned_product f p t e =
    parts_same
    (ap (λ (x : Complex). f.re ⊗ p.re ⊕ f.im ⊗ x.re) e ∙ turned-re f p)
    (ap (λ (x : Complex). f.re ⊗ p.im ⊕ f.im ⊗ x.im) e ∙ turned-im f p)
