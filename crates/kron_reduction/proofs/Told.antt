-- What the careful pass tells: of an entry by what its operations answer, of a row and of all rows by what its loop has passed.
use Rattle.std.proofs.Common.{Option, Some, None, is_some}
use Rattle.prelude.proofs.Prelude.{cond, List, Float, ◌≡◌, refl, sym, ap, subst, Bool, true, false, ℕ, ◌+◌, ◌≤◌, ◌<◌, arith, T}
use borrow.Author.Count.{below_more}
use Rattle.binary64.specs.Values.{all_finite}
use Rattle.complex.specs.{Complex, Matrix, cmul, cdiv, of_product, of_quotient}
use Rattle.complex.specs.Leaves.{pair, product, quotient, difference, passing}
use Rattle.complex.proofs.LeafSteps.{passes_on}
use Rattle.kron_reduction.specs.Kron.{new_entry, kron}
use Rattle.kron_reduction.specs.Inner.Removal.{of_entry, Tells, Fine}

-- ---- an operation's answer that is passed on

pub passed-none : (o : Option Complex) (next : Complex → Option Complex) → None ≡ o → None ≡ passing o next
unfolding passing
passed-none o next e = ap (λ (o : Option Complex). passing o next) e

pub passed-some : (o : Option Complex) (next : Complex → Option Complex) (c : Complex) → Some c ≡ o → next c ≡ passing o next
unfolding passing
passed-some o next c e = ap (λ (o : Option Complex). passing o next) e

-- ---- an entry

-- what its operations answer is passed on
pub entry-passed : (ij ik kj kk : Complex) → passing (product ik kj) (λ (p : Complex). passing (quotient p kk) (λ (q : Complex). difference ij q)) ≡ pair (of_entry ij ik kj kk) (new_entry ij ik kj kk)
unfolding product quotient difference new_entry
entry-passed ij ik kj kk =
    let p = cmul ik kj in
    passes_on (of_product ik kj) p _ _ _ (passes_on (of_quotient p kk) (cdiv p kk) _ _ _ refl)

-- whether it is answered
pub pair-told : (xs : List Float) (c : Complex) → is_some (pair xs c) ≡ all_finite xs
unfolding pair
pair-told xs c = go (all_finite xs)
  where
    go : (b : Bool) → is_some (cond b (Some c) None) ≡ b
    go true = refl
    go false = refl

-- the same of the entries that the code reads
pub same_numbers : (a b c d a' b' c' d' : Complex) → a ≡ a' → b ≡ b' → c ≡ c' → d ≡ d' → all_finite (of_entry a b c d) ≡ all_finite (of_entry a' b' c' d')
same_numbers a b c d a' b' c' d' e f g h = rw (e, f, g, h)

pub told-place : (k : ℕ) (Y : Matrix) (i j : ℕ) (b : Bool) → b ≡ all_finite (of_entry (Y i j) (Y i k) (Y k j) (Y k k)) → (i ≡ k → ⊥) → (j ≡ k → ⊥) → Tells b (Fine k Y i j)
unfolding kron
told-place k Y i j b e p q = (λ (t : T b) (_ : i ≡ k → ⊥) (_ : j ≡ k → ⊥). subst T e t, λ (h : Fine k Y i j). subst T (sym e) (h p q))

-- ---- a loop that looks whether something is so of all below n

-- so far it is
pub sure-more : {P : ℕ → Type 0} (i : ℕ) (b : Bool) → ((j : ℕ) → j < i → P j) → Tells b (P i) → b ≡ true → (j : ℕ) → j < i + 1 → P j
sure-more {P} i b h t e = below_more P i h (t.0 (subst T (sym e) tt))

pub sure-end : {P : ℕ → Type 0} (n i : ℕ) → ((j : ℕ) → j < i → P j) → n ≤ i → Tells true ((j : ℕ) → j < n → P j)
sure-end n i h l = (λ _. λ (j : ℕ) (u : j < n). h j (omega arith), λ _. tt)

-- it is not of one
pub sure-not : {P : ℕ → Type 0} (n i : ℕ) (b : Bool) → i < n → Tells b (P i) → b ≡ false → Tells false ((j : ℕ) → j < n → P j)
sure-not n i b l t e = (λ (f : T false). absurd f, λ h. subst T e (t.1 (h i l)))
