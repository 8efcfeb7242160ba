-- Numbers of ordinary size: where the parts of all entries are below 2 ^ 200 in size and y_kk's squared magnitude is not below 2 ^ -400, every number of a new
-- entry is finite.
use Rattle.prelude.proofs.Prelude.{◌≡◌, refl, subst, false, List, ◌++◌, ℕ, ◌+◌, ◌*◌, ◌^◌, ◌≤◌, ◌<◌, arith, T, lit≤, length, get_or, take, Float, nan, lt, finite, get_or-take, length-take-le}
use Rattle.binary64.specs.Values.{all_finite}
use Rattle.binary64.proofs.Magnitudes.{Beyond}
use Rattle.complex.specs.{Complex, Matrix, entry, entry_at, division_limit, csub, cmul, cdiv, sqmag, of_parts, of_product, of_quotient}
use Rattle.complex.specs.Inner.Ordinary.{ordinary_square, all_ordinary}
use Rattle.complex.proofs.Finite.{all_join}
use Rattle.complex.proofs.Matrices.{entry-within}
use Rattle.complex.proofs.Sizes.{In, Both, in-finite, larger-in, sub_in, cmul-in, cdiv-in, square-in, ordinary-at, ordinary-beyond}
use Rattle.complex.proofs.Sticky.{Finite, parts_all, terms-given, product-finite, quotient-finite}
use Rattle.kron_reduction.specs.Kron.{new_entry}
use Rattle.kron_reduction.specs.Inner.Removal.{of_entry}

-- ---- the entries

entry-ordinary : (n : ℕ) (ys : List Float) (p q : ℕ) → p < n → q < n → 2 * (n * n) ≤ length ys → T (all_ordinary (take (2 * (n * n)) ys)) → Both 200 (entry_at n ys p q)
unfolding entry_at entry
entry-ordinary n ys p q u v fits h =
    let l = entry-within n n p q u v in
    let long : length (take (2 * (n * n)) ys) ≡ 2 * (n * n) = length-take-le (2 * (n * n)) ys fits in
    let at : (i : ℕ) → i < 2 * (n * n) → In 200 (get_or ys i nan) =
    λ (i : ℕ) (m : i < 2 * (n * n)). subst (In 200) (get_or-take (2 * (n * n)) ys i nan m) (ordinary-at (take (2 * (n * n)) ys) i (omega (arith, long, m)) h) in
    (at (2 * (p * n + q)) (omega arith), at (2 * (p * n + q) + 1) (omega arith))

-- ---- the new entry

-- products within 2 ^ 401, numerators within 2 ^ 602, the quotient within 2 ^ 1002
new_in : (ij ik kj kk : Complex) → Both 200 ij → Both 200 ik → Both 200 kj → Both 200 kk → lt (sqmag kk) division_limit ≡ false → Beyond (2 ^ 400) (sqmag kk)
    → Both 1003 (new_entry ij ik kj kk)
unfolding new_entry csub
new_in ij ik kj kk (p, q) h g w big far =
    let more : 200 ≤ 1002 = lit≤ tt in
    let (u, v) = cdiv-in 401 200 400 1002 (cmul ik kj) kk refl (lit≤ tt) (cmul-in 200 200 401 ik kj refl (lit≤ tt) h g) w big far in (
      sub_in 1002 1003 ij.re (cdiv (cmul ik kj) kk).re refl (lit≤ tt) (larger-in 200 1002 ij.re more p) u,
      sub_in 1002 1003 ij.im (cdiv (cmul ik kj) kk).im refl (lit≤ tt) (larger-in 200 1002 ij.im more q) v,
    )

-- the new entry and the divisor's squared magnitude tell of every number on the way
pub entry-tells : (ij ik kj kk : Complex) → Finite (new_entry ij ik kj kk) → T (finite (sqmag kk)) → T (all_finite (of_entry ij ik kj kk))
entry-tells ij ik kj kk h d =
    let quotient = quotient-finite (cmul ik kj) kk (terms-given ij (cdiv (cmul ik kj) kk) (unfold new_entry in h)).1 d in
    all_join (of_product ik kj ++ of_quotient (cmul ik kj) kk) (of_parts (new_entry ij ik kj kk))
    (all_join (of_product ik kj) (of_quotient (cmul ik kj) kk) (product-finite ik kj quotient.1) quotient.0) (parts_all (new_entry ij ik kj kk) h)

-- a removal from rows of ordinary size
module _ (n : ℕ) (ys : List Float) (k : ℕ) (l : k < n) (fits : 2 * (n * n) ≤ length ys) (all : T (all_ordinary (take (2 * (n * n)) ys)))
    (big : lt (sqmag (entry_at n ys k k)) division_limit ≡ false) (far : lt (sqmag (entry_at n ys k k)) ordinary_square ≡ false) where
  abbrev Y : Matrix
  Y = entry_at n ys

  at : (p q : ℕ) → p < n → q < n → Both 200 (Y p q)
  at p q u v = entry-ordinary n ys p q u v fits all

  pub ordinary-square : T (finite (sqmag (Y k k)))
  ordinary-square = in-finite 401 (sqmag (Y k k)) (square-in 200 401 (Y k k) refl (lit≤ tt) (at k k l l))

  pub ordinary-entry : (i j : ℕ) → i < n → j < n → T (all_finite (of_entry (Y i j) (Y i k) (Y k j) (Y k k)))
  ordinary-entry i j u v =
      let divisor = ordinary-beyond (sqmag (Y k k)) ordinary-square far in
      let (r, s) = new_in (Y i j) (Y i k) (Y k j) (Y k k) (at i j u v) (at i k u l) (at k j l v) (at k k l l) big divisor in
      entry-tells (Y i j) (Y i k) (Y k j) (Y k k)
      (in-finite 1003 (new_entry (Y i j) (Y i k) (Y k j) (Y k k)).re r, in-finite 1003 (new_entry (Y i j) (Y i k) (Y k j) (Y k k)).im s) ordinary-square
