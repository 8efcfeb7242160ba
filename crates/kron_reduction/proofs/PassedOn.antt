-- A removal and an impedance by operations that answer a finite number or none.
use Rattle.std.proofs.Common.{Some, None}
use Rattle.prelude.proofs.Prelude.{◌≡◌, refl, sym, ◌∙◌, Bool, true, false, not, ℕ, T, eqb, is_true}
use Rattle.binary64.specs.Values.{all_finite}
use Rattle.complex.specs.{Complex, Matrix, plus0, cadd, cmul, cdiv, too_small}
use Rattle.complex.specs.Computed.{of_sum, of_product, of_quotient}
use Rattle.complex.specs.Leaves.{pair, sum, difference, product, quotient}
use Rattle.complex.proofs.LeafSteps.{passes_on}
use Rattle.complex.proofs.Leaves.{pair-finite, pair-none}
use Rattle.lists.specs.Buses.{mem, ◌is_one_of◌}
use Rattle.kron_reduction.specs.Kron.{new_entry, kron, State, remove, of_new_entry, of_removal, accepts, entry_answer, PassedOn}
use Rattle.kron_reduction.specs.Reading.{two, thevenin_of, of_thevenin, ImpedancePassedOn}
use Rattle.kron_reduction.proofs.Numbers.{removal-finite, removal-at}
use Rattle.kron_reduction.proofs.States.{refusal_of, refusal_is, accepted-finite}

entry-passed : (k : ℕ) (Y : Matrix) (i j : ℕ) → entry_answer k Y i j ≡ pair (of_new_entry k Y i j) (kron k Y i j)
unfolding entry_answer product quotient difference new_entry kron
entry-passed k Y i j =
    let p = cmul (Y i k) (Y k j) in
    passes_on (of_product (Y i k) (Y k j)) p _ _ _ (passes_on (of_quotient p (Y k k)) (cdiv p (Y k k)) _ _ _ refl)

module _ (s : State) (k : ℕ) where
  answered : T (accepts s k) → (i j : ℕ) → i is_one_of (remove s k).active → j is_one_of (remove s k).active
      → entry_answer k s.entries i j ≡ Some ((remove s k).entries i j)
  answered h i j l m =
      entry-passed k s.entries i j
      ∙ sym (pair-finite _ (kron k s.entries i j) (is_true (all_finite (of_new_entry k s.entries i j)) (removal-at s k (accepted-finite s k h) i j l m)))

  -- an entry that is not answered "not finite"
  entry-finite : (i j : ℕ) → (entry_answer k s.entries i j ≡ None → ⊥) → T (all_finite (of_new_entry k s.entries i j))
  entry-finite i j other = go (all_finite (of_new_entry k s.entries i j)) refl
    where
      go : (b : Bool) → all_finite (of_new_entry k s.entries i j) ≡ b → T b
      go true e = tt
      go false e = absurd (other (entry-passed k s.entries i j ∙ sym (pair-none _ (kron k s.entries i j) e)))

  accepted-where : k is_one_of s.active → T (not (too_small (s.entries k k))) → T (all_finite (of_removal s k)) → T (accepts s k)
  accepted-where a b c = rw (refusal_is s k) (go (mem k s.active) (too_small (s.entries k k)) (all_finite (of_removal s k)) a b c)
    where
      go : (active small fine : Bool) → T active → T (not small) → T fine → T (eqb (refusal_of active small fine) 0)
      go true false true a b c = tt
      go false small fine a b c = absurd a
      go true true fine a b c = absurd b
      go true false false a b c = absurd c

pub passed_on : PassedOn
passed_on = record {
  entry = entry-passed;
  answered = answered;
  carries-out = λ s k active big square each.
      accepted-where s k active big (removal-finite s k square (λ i j l m. entry-finite s k i j (each i j l m)));
}

pub impedance-passed-on : ImpedancePassedOn
unfolding sum product difference thevenin_of of_thevenin
impedance-passed-on Z p q =
    let twice : Complex = record { re = two; im = plus0 } in
    passes_on (of_sum (Z p p) (Z q q)) (cadd (Z p p) (Z q q)) _ _ _ (passes_on (of_product twice (Z p q)) (cmul twice (Z p q)) _ _ _ refl)
