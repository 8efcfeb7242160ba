-- Kron's formula respects equality up to the sign of a zero, and changes nothing where one of the factors of its product is zero.
use Rattle.prelude.proofs.Prelude.{◌⊎◌, inl, ℕ}
use Rattle.complex.specs.{cmul, cdiv, Matrix}
use Rattle.complex.proofs.SameValue.{Finite, Number, ◌≋◌, Null, congruent, all-zero, cmul-cong, cmul-null, sqmag-cong, Divisor, cdiv-cong, cdiv-null, cdiv-fits, csub-null, csub-cong, csub-number}
use Rattle.kron_reduction.specs.Kron.{new_entry, kron}

-- the new entry at i and j when k is removed can be worked out
pub record Ready (k : ℕ) (Y : Matrix) (i j : ℕ) : Type 0 where
  pub entry : Number (Y i j)
  pub column : Number (Y i k)
  pub row : Number (Y k j)
  pub product : Finite (cmul (Y i k) (Y k j))
  pub divisor : Divisor (Y k k)

-- where the product is zero the entry stays
pub kron-stays : (k : ℕ) (Y : Matrix) (i j : ℕ) → Ready k Y i j → Null (Y i k) ⊎ Null (Y k j) → kron k Y i j ≋ Y i j
unfolding kron new_entry
kron-stays k Y i j r z =
    let p = cmul (Y i k) (Y k j) in
    let d = r.divisor in
    csub-null (Y i j) (cdiv p (Y k k)) r.entry
    (cdiv-null p (Y k k) d (all-zero p (Y k k) r.product d.number.0 (inl (cmul-null (all-zero (Y i k) (Y k j) r.column.0 r.row.0 z)))))

-- in two matrices that have the same values there, the new entries are the same
pub kron-cong : (k : ℕ) (Y Y' : Matrix) (i j : ℕ) → Ready k Y i j → Ready k Y' i j → Y i j ≋ Y' i j → Y i k ≋ Y' i k → Y k j ≋ Y' k j → Y k k ≋ Y' k k → kron k Y i j ≋ kron k Y' i j
unfolding kron new_entry
kron-cong k Y Y' i j r r' ij ik kj kk =
    let d = r.divisor in let d' = r'.divisor in
    let p = cmul (Y i k) (Y k j) in
    let p' = cmul (Y' i k) (Y' k j) in
    csub-cong r.entry r'.entry (cdiv-fits p (Y k k) d) (cdiv-fits p' (Y' k k) d') ij
    (cdiv-cong d d'
    (congruent r.product r'.product d.number.0 d'.number.0 (cmul-cong (congruent r.column.0 r'.column.0 r.row.0 r'.row.0 ik kj)) kk)
    (sqmag-cong (congruent d.number.0 d'.number.0 d.number.0 d'.number.0 kk kk)))

-- a new entry is a number of binary64
pub kron-number : (k : ℕ) (Y : Matrix) (i j : ℕ) → Finite (kron k Y i j) → Number (kron k Y i j)
unfolding kron new_entry
kron-number k Y i j h = csub-number (Y i j) (cdiv (cmul (Y i k) (Y k j)) (Y k k)) h
