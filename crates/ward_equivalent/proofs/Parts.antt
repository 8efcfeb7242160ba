-- Work in the order of its steps: parts one after the other, numbers before and behind them.
--     ended-then, ended-first   a part that is done and the next; a part that is not done ends the whole
--     ended-numbers, ended-lost, ended-behind, ended-lost-behind   numbers that are finite or not
use Rattle.prelude.proofs.Prelude.{◌≡◌, refl, sym, ap, ◌∙◌, subst, Bool, false, cond, List, [], ◌∷◌, ◌++◌, append_assoc, ℕ, ◌-◌, arith, T, Float, is_true}
use Rattle.binary64.specs.Values.{all_finite}
use Rattle.refusals.specs.Work.{Step, computes, computing, reductions, meets}
use Rattle.refusals.proofs.Work.{meets-after, meets-first, meets-numbers, numbers-met, count-both, count-numbers, none-counted}
use Rattle.std.proofs.Common.{Result, Ok, Err, is_ok}
use Rattle.refusals.specs.declared.Refusal.{Refusal}
use Rattle.refusals.specs.declared.Refusal.TheVariants.{ComputedNotFinite}
use Rattle.solver.specs.Inner.Work.{Ended}
use Rattle.solver.proofs.Told.{same_left, not_done, some_number}

pub ended-none : (m : ℕ) → Ended m (Ok m) []
unfolding meets reductions
ended-none m = record { number = refl; count = λ left e. let s = same_left e in omega arith }

module _ (m : ℕ) (es fs : List Step) where
  pub ended-then : (left : ℕ) (r : Result ℕ Refusal) → Ended m (Ok left) es → Ended left r fs → Ended m r (es ++ fs)
  ended-then left r first next =
      let c = first.count left refl in
      let rest : m - reductions es ≡ left = omega arith in
      record {
        number = next.number ∙ sym (meets-after m es fs (sym first.number) ∙ ap (λ (k : ℕ). meets k fs) rest);
        count = λ k e. let x = next.count k e in let y = count-both es fs in omega arith;
      }

  pub ended-first : (r : Result ℕ Refusal) → is_ok r ≡ false → Ended m r es → Ended m r (es ++ fs)
  ended-first r d first =
      record { number = first.number ∙ sym (meets-first m es fs (λ (z : meets m es ≡ 0). some_number r d (first.number ∙ z))); count = λ k e. absurd (not_done d e) }

pub ended_same : (m : ℕ) (r : Result ℕ Refusal) (es fs : List Step) → es ≡ fs → Ended m r es → Ended m r fs
ended_same m r es fs e h = subst (λ (l : List Step). Ended m r l) e h

module _ (m : ℕ) (xs : List Float) (es : List Step) where
  pub ended-numbers : (r : Result ℕ Refusal) → T (all_finite xs) → Ended m r es → Ended m r (computing xs ++ es)
  ended-numbers r h e = record {
    number = e.number ∙ sym (meets-numbers m xs es ∙ ap (λ (b : Bool). cond b (meets m es) 20) (is_true (all_finite xs) h));
    count = λ k q. let x = e.count k q in let y = count-numbers xs es in omega arith;
  }

  pub ended-lost : all_finite xs ≡ false → Ended m (Err ComputedNotFinite) (computing xs ++ es)
  ended-lost h = record { number = sym (meets-numbers m xs es ∙ ap (λ (b : Bool). cond b (meets m es) 20) h); count = λ k q. absurd (not_done refl q) }

-- numbers alone
pub ended-alone : (m : ℕ) (xs : List Float) → T (all_finite xs) → Ended m (Ok m) (computing xs)
ended-alone m xs h = record {
  number = sym (numbers-met m xs ∙ ap (λ (b : Bool). cond b 0 20) (is_true (all_finite xs) h));
  count = λ k q. let s = same_left q in let y = none-counted xs in omega arith;
}

pub ended-lost-alone : (m : ℕ) (xs : List Float) → all_finite xs ≡ false → Ended m (Err ComputedNotFinite) (computing xs)
ended-lost-alone m xs h = record { number = sym (numbers-met m xs ∙ ap (λ (b : Bool). cond b 0 20) h); count = λ k q. absurd (not_done refl q) }

pub computing-both : (xs ys : List Float) → computing (xs ++ ys) ≡ computing xs ++ computing ys
unfolding computing
computing-both [] ys = refl
computing-both (x ∷ xs) ys = ap (λ (l : List Step). computes x ∷ l) (computing-both xs ys)

-- ---- a study's steps, part by part: the columns, the entries, the currents with what follows, the ratio

module _ (cols : List Step) (entries currents : List Float) (solve : List Step) (injections ratio : List Float) where
  abbrev later : List Step
  later = computing currents ++ (solve ++ computing injections)

  pub by_parts : cols ++ (computing entries ++ (later ++ computing ratio)) ≡ cols ++ (computing (entries ++ currents) ++ (solve ++ computing (injections ++ ratio)))
  by_parts =
      ap (λ (l : List Step). cols ++ l)
      (ap (λ (l : List Step). computing entries ++ l)
      (append_assoc (computing currents) (solve ++ computing injections) (computing ratio)
      ∙ ap (λ (l : List Step). computing currents ++ l) (append_assoc solve (computing injections) (computing ratio) ∙ ap (λ (l : List Step). solve ++ l) (sym (computing-both injections ratio))))
      ∙ sym (append_assoc (computing entries) (computing currents) (solve ++ computing (injections ++ ratio)))
      ∙ ap (λ (l : List Step). l ++ (solve ++ computing (injections ++ ratio))) (sym (computing-both entries currents)))

  module _ (m : ℕ) where
    pub parts_first : (r : Result ℕ Refusal) → is_ok r ≡ false → Ended m r cols → Ended m r (cols ++ (computing (entries ++ currents) ++ (solve ++ computing (injections ++ ratio))))
    parts_first r d h = ended-first m cols _ r d h

    pub parts-lost : (left : ℕ) → Ended m (Ok left) cols → all_finite entries ≡ false → Ended m (Err ComputedNotFinite) (cols ++ (computing (entries ++ currents) ++ (solve ++ computing (injections ++ ratio))))
    parts-lost left h lost = ended_same m (Err ComputedNotFinite) _ _ by_parts (ended-then m cols _ left (Err ComputedNotFinite) h (ended-lost left entries (later ++ computing ratio) lost))

    ratio-behind : (left : ℕ) (d : Result ℕ Refusal) → T (all_finite ratio) → Ended left d later → Ended left d (later ++ computing ratio)
    ratio-behind left (Ok k) whole e = ended-then left later (computing ratio) k (Ok k) e (ended-alone k ratio whole)
    ratio-behind left (Err r) whole e = ended-first left later (computing ratio) (Err r) refl e

    pub parts_then : (left : ℕ) (r : Result ℕ Refusal) → Ended m (Ok left) cols → T (all_finite entries) → T (all_finite ratio) → Ended left r later
        → Ended m r (cols ++ (computing (entries ++ currents) ++ (solve ++ computing (injections ++ ratio))))
    parts_then left r h fine whole next =
        ended_same m r _ _ by_parts (ended-then m cols _ left r h (ended-numbers left entries (later ++ computing ratio) r fine (ratio-behind left r whole next)))
