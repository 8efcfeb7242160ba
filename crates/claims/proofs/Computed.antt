-- What finite numbers say of each removal: its product, its divisor and its new entries are finite. Removals that are accepted compute no others.
use Rattle.prelude.proofs.Prelude.{◌≡◌, sym, ◌∙◌, subst, Bool, true, false, inl, inr, List, [], ◌∷◌, ℕ, arith, T, lit<, finite}
use Rattle.complex.specs.{division_limit, cmul, sqmag, too_small, of_sqmag, Matrix}
use Rattle.binary64.specs.Values.{all_finite}
use Rattle.complex.proofs.Finite.{none, all_join, all_left, all_right, all-at}
use Rattle.complex.proofs.SameValue.{Finite}
use Rattle.complex.proofs.Squares.{sqmag-below}
use Rattle.refusals.specs.Refusals.{small_entry}
use Rattle.lists.specs.Buses.{mem, ◌is_one_of◌}
use Rattle.kron_reduction.specs.Kron.{kron, State, remove, removal_refusal, of_new_entry, of_row, of_rows, of_removal, of_removals}
use Rattle.kron_reduction.proofs.States.{refusal_of, refusal_is, Accepted, accepted-finite}
use Rattle.lists.proofs.Buses.{in-cases}

-- ---- a removal

-- the numbers that the claims rest on
pub record FiniteEntry (k : ℕ) (Y : Matrix) (i j : ℕ) : Type 0 where
  pub product : Finite (cmul (Y i k) (Y k j))
  pub entry : Finite (kron k Y i j)

of_entry : (k : ℕ) (Y : Matrix) (i j : ℕ) → T (all_finite (of_new_entry k Y i j)) → FiniteEntry k Y i j
of_entry k Y i j h = record {
  product = (all-at (of_new_entry k Y i j) 2 (lit< tt) h, all-at (of_new_entry k Y i j) 5 (lit< tt) h);
  entry = (all-at (of_new_entry k Y i j) 17 (lit< tt) h, all-at (of_new_entry k Y i j) 18 (lit< tt) h);
}

of_row-finite : (k : ℕ) (Y : Matrix) (i : ℕ) (js : List ℕ) → T (all_finite (of_row k Y i js)) → (j : ℕ) → j is_one_of js → FiniteEntry k Y i j
unfolding of_row
of_row-finite k Y i [] h j m = absurd m
of_row-finite k Y i (x ∷ js) h j m = elim (in-cases j x js m) [
  | inl p ↦ subst (λ (z : ℕ). FiniteEntry k Y i z) (sym p) (of_entry k Y i x (search all_left))
  | inr t ↦ of_row-finite k Y i js (search all_right) j t
]

of-rows : (k : ℕ) (Y : Matrix) (is js : List ℕ) → T (all_finite (of_rows k Y is js)) → (i j : ℕ) → i is_one_of is → j is_one_of js → FiniteEntry k Y i j
unfolding of_rows
of-rows k Y [] js h i j m l = absurd m
of-rows k Y (x ∷ is) js h i j m l = elim (in-cases i x is m) [
  | inl p ↦ subst (λ (z : ℕ). FiniteEntry k Y z j) (sym p) (of_row-finite k Y x js (search all_left) j l)
  | inr t ↦ of-rows k Y is js (search all_right) i j t l
]

pub record FiniteRemoval (s : State) (k : ℕ) : Type 0 where
  pub divisor : T (finite (sqmag (s.entries k k)))
  pub pairs : (i j : ℕ) → i is_one_of (remove s k).active → j is_one_of (remove s k).active → FiniteEntry k s.entries i j

abbrev pub FiniteRemovals : State → List ℕ → Type 0
FiniteRemovals s [] = Unit {0}
FiniteRemovals s (k ∷ ks) = FiniteRemoval s k × FiniteRemovals (remove s k) ks

pub of-removals : (s : State) (ks : List ℕ) → T (all_finite (of_removals s ks)) → FiniteRemovals s ks
unfolding of_removals
of-removals s [] h = tt
of-removals s (k ∷ ks) h =
    let left = (remove s k).active in
    let own : T (all_finite (of_sqmag (s.entries k k))) = search (all_left, all_right) in (
      record { divisor = all-at (of_sqmag (s.entries k k)) 2 (lit< tt) own; pairs = of-rows k s.entries left left (search (all_left, all_right)) },
      of-removals (remove s k) ks (search all_right),
    )

-- ---- a refused removal

-- what a removal refused with 12 computes, its own entry's squared magnitude, is finite: that lists of removals leave it out changes nothing
pub refused-finite : (s : State) (k : ℕ) → removal_refusal s k ≡ small_entry → T (all_finite (of_sqmag (s.entries k k)))
refused-finite s k e = sqmag-below (s.entries k k) division_limit (go (mem k s.active) (too_small (s.entries k k)) (all_finite (of_removal s k)) (sym (refusal_is s k) ∙ e))
  where
    go : (b c d : Bool) → refusal_of b c d ≡ small_entry → T c
    go true true d e = tt
    go true false true e = let z : ◌≡◌ {A = ℕ} 0 12 = e in absurd (omega arith)
    go true false false e = let z : ◌≡◌ {A = ℕ} 20 12 = e in absurd (omega arith)
    go false c d e = let z : ◌≡◌ {A = ℕ} 11 12 = e in absurd (omega arith)

-- ---- removals that are accepted

pub computed-finite : (s : State) (ks : List ℕ) → Accepted s ks → T (all_finite (of_removals s ks))
unfolding of_removals
computed-finite s [] ok = none
computed-finite s (k ∷ ks) ok = all_join (of_removal s k) (of_removals (remove s k) ks) (accepted-finite s k ok.0) (computed-finite (remove s k) ks ok.1)
