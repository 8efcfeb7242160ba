-- The decision: what the work of a study met, and that the solutions it left give the study's equivalent.
use Rattle.prelude.proofs.Prelude.{◌≡◌, refl, sym, ap, ◌∙◌, subst, List, ℕ, zero, suc, ◌+◌, ◌-◌, ◌*◌, ◌≤◌, ◌<◌, arith, length, get_or, take, drop, Float, length-take-le, length-drop, take_all, drop-drop, get_or-drop}
use Rattle.complex.specs.{entry_at, zeros}
use Rattle.complex.proofs.Entries.{entry-take}
use Rattle.complex.proofs.Matrices.{entry-within}
use Rattle.refusals.specs.declared.Allowance.TheVariants.{Rows}
use Rattle.refusals.specs.Work.{meets, reductions}
use Rattle.std.proofs.Common.{Result, Ok, Err}
use Rattle.refusals.specs.declared.Refusal.{Refusal}
use Rattle.refusals.specs.Refusals.{refusal, answered, number, number_of}
use Rattle.refusals.proofs.Answering.{answered-number}
use Rattle.solver.specs.Solving.{solve}
use Rattle.solver.specs.Inner.Work.{Ended}
use Rattle.solver.proofs.Told.{some_number}
use Rattle.ward_equivalent.specs.declared.sequence.Decided.{Decided}
use Rattle.ward_equivalent.specs.declared.sequence.Decided.TheVariants.{Together, Apart}
use Rattle.refusals.specs.declared.Refusal.TheVariants.{ComputedNotFinite}
use Rattle.ward_equivalent.specs.Ward.{Study, Outputs}
use Rattle.ward_equivalent.specs.Steps.{steps_of}
use Rattle.ward_equivalent.specs.Studied.{studied}
use Rattle.ward_equivalent.specs.Calls.{study_of, after_ward}
use Rattle.ward_equivalent.specs.Inner.Listed.{cut, outputs_from, uncorrected_answer}
use Rattle.ward_equivalent.specs.Inner.Work.{product}
use Rattle.ward_equivalent.specs.Inner.Sequence.{kept_study, external_part, external_column, ColumnsApart, CurrentsApart, AllTogether, Decides}
use Rattle.ward_equivalent.proofs.Solved.{product-column, product-currents}
use Rattle.ward_equivalent.proofs.Studied.{studied-done, studied-refused, filled-ward}
use Rattle.ward_equivalent.proofs.Kept.{column-product, currents-product}

pub cut-kept : (n : ℕ) (ys : List Float) (bs : List ℕ) (e f : ℕ) (base : Float) (ps qs : List Float) → e ≤ f → kept_study n ys (take e bs) (drop e bs) (f - e) base ps qs ≡ cut n ys bs e f base ps qs
cut-kept n ys bs e f base ps qs h =
    let q : e + (f - e) ≡ f = omega arith in
    ap (λ (l : List ℕ). study_of n ys (take (f - e) (drop e bs)) (take e bs) l base ps qs) (drop-drop (f - e) e bs ∙ ap (λ (k : ℕ). drop k bs) q)

module _ (n : ℕ) (ys : List Float) (bs : List ℕ) (e f : ℕ) (base : Float) (ps qs : List Float) (order : e ≤ f) (m : ℕ) (after : List Float) where
  abbrev S : Study
  S = cut n ys bs e f base ps qs

  abbrev Decision : Result Decided Refusal → Type 0
  Decision r = Decides n ys (take e bs) (drop e bs) bs S m r after

  pub refused-decided : (r : Refusal) → number r ≡ meets m (steps_of (cut n ys bs e f base ps qs)) → (a : Result Decided Refusal) → a ≡ Err r → (long : ℕ) → length after ≡ long → after ≡ zeros long
      → Decides n ys (take e bs) (drop e bs) bs (cut n ys bs e f base ps qs) m a after
  refused-decided r h a said long kept clear = subst Decision (sym said) (record {
    number = h;
    cleared = λ (j : Refusal) q. clear ∙ ap zeros (sym kept);
    together = λ (rows : ℕ) q. absurd (cc);
    apart = λ (rows : ℕ) q. absurd (cc);
  })

  pub together-decided : (rows : ℕ) → meets m (steps_of (cut n ys bs e f base ps qs)) ≡ 0 → rows ≡ reductions (steps_of (cut n ys bs e f base ps qs)) → AllTogether n ys bs (length (take e bs)) base ps qs after
      → Decides n ys (take e bs) (drop e bs) bs (cut n ys bs e f base ps qs) m (Ok (Together rows)) after
  together-decided rows h count held = record {
    number = sym h;
    cleared = λ (j : Refusal) q. absurd (cc);
    together = λ (k : ℕ) q. (let same : rows ≡ k = cc in sym same ∙ count, held);
    apart = λ (k : ℕ) q. absurd (cc);
  }

  -- by the work in the order of its steps
  module _ (es ks : List ℕ) (E : es ≡ take e bs) (K : ks ≡ drop e bs) (end : Result ℕ Refusal) (ended : Ended m end (steps_of (kept_study n ys es ks (f - e) base ps qs))) where
    as-cut : kept_study n ys es ks (f - e) base ps qs ≡ S
    as-cut = ap (λ (l : List ℕ). kept_study n ys l ks (f - e) base ps qs) E ∙ ap (λ (l : List ℕ). kept_study n ys (take e bs) l (f - e) base ps qs) K ∙ cut-kept n ys bs e f base ps qs order

    met : number_of end ≡ meets m (steps_of S)
    met = ended.number ∙ ap (λ (T : Study). meets m (steps_of T)) as-cut

    pub apart-refused : (d : Refusal) → end ≡ Err d → (r : Result Decided Refusal) → r ≡ Err d → (long : ℕ) → length after ≡ long → after ≡ zeros long
        → Decides n ys (take e bs) (drop e bs) bs (cut n ys bs e f base ps qs) m r after
    apart-refused d q = refused-decided d (sym (ap number_of q) ∙ met)

    pub apart-done : (left : ℕ) → end ≡ Ok left → ColumnsApart n ys es ks (length ks) after → CurrentsApart n ys es base ps qs after
        → Decides n ys (take e bs) (drop e bs) bs (cut n ys bs e f base ps qs) m (Ok (Apart (m - left))) after
    apart-done left d columns currents =
        let c = ended.count left d in
        let count : reductions (steps_of (kept_study n ys es ks (f - e) base ps qs)) ≡ reductions (steps_of S) = ap (λ (T : Study). reductions (steps_of T)) as-cut in
        record {
          number = sym (ap number_of d) ∙ met;
          cleared = λ (j : Refusal) q. absurd (cc);
          together = λ (k : ℕ) q. absurd (cc);
          apart = λ (k : ℕ) q. (
            let same : m - left ≡ k = cc in sym same ∙ omega arith,
            subst (λ (l : List ℕ). ColumnsApart n ys (take e bs) l (length l) after) K (subst (λ (l : List ℕ). ColumnsApart n ys l ks (length ks) after) E columns),
            subst (λ (l : List ℕ). CurrentsApart n ys l base ps qs after) E currents,
          );
        }

-- ---- a study whose corrections are not finite

pub uncorrected-none : (met : ℕ) → met ≡ 0 → uncorrected_answer met ≡ ComputedNotFinite
unfolding uncorrected_answer
uncorrected-none met h = ap uncorrected_answer h

pub uncorrected-refused : (r : Refusal) (met : ℕ) → number r ≡ met → r ≡ uncorrected_answer met
unfolding uncorrected_answer answered
uncorrected-refused r zero e = absurd (some_number (Err r) refl e)
uncorrected-refused r (suc k) e = let h : Err (refusal (suc k)) ≡ Err r = ap (answered (tt {0})) (sym e) ∙ answered-number (tt {0}) r in cc

pub none-steps : (n : ℕ) (ys : List Float) (bs : List ℕ) (f : ℕ) (base : Float) (ps qs : List Float) (m : ℕ) → meets m (steps_of (cut n ys bs 0 f base ps qs)) ≡ 0
unfolding steps_of meets
none-steps n ys bs f base ps qs m = refl

-- ---- the equivalent from what the decision left

module _ (n : ℕ) (ys : List Float) (bs : List ℕ) (e f : ℕ) (base : Float) (ps qs : List Float) (some : 0 < e) (order : e ≤ f) (last : f ≤ length bs) (m : ℕ) (after : List Float) (o : Outputs)
    (kept : length after ≡ length o.work) (long : length o.work ≡ 2 * (e * (length bs + 1))) (answer : Result Decided Refusal)
    (decided : Decides n ys (take e bs) (drop e bs) bs (cut n ys bs e f base ps qs) m answer after) where
  count : length (take e bs) ≡ e
  count = length-take-le e bs (omega arith)

  pub decided-refused : (r : Refusal) → answer ≡ Err r → studied (cut n ys bs e f base ps qs) (Rows m) o 0 ≡ after_ward (Err r) o.y-ward o.p-ward o.q-ward (zeros (length o.work))
  decided-refused r q = studied-refused (cut n ys bs e f base ps qs) m o r (sym (ap number_of q) ∙ decided.number)

  accepts : number_of answer ≡ 0 → meets m (steps_of (cut n ys bs e f base ps qs)) ≡ 0
  accepts z = sym decided.number ∙ z

  pub decided-together : (z : ℕ) → z ≡ length after → (rows : ℕ) → answer ≡ Ok (Together rows)
      → outputs_from n ys bs e f base rows (length after) (drop 0 after) (length bs + 1) e (take z after) (length bs + 1) (length bs) ≡ studied (cut n ys bs e f base ps qs) (Rows m) o 0
  decided-together z lz rows q =
      let (same, held) = decided.together rows q in
      let held' = subst (λ (k : ℕ). AllTogether n ys bs k base ps qs after) count held in
      let all : take z after ≡ after = take_all z after (omega arith) in
      filled-ward n ys bs e f base ps qs some order last after (length bs + 1) e (take z after) (length bs + 1) (length bs)
      (λ (i q : ℕ) h. ap (λ (k : ℕ). product n ys (take e bs) (length bs + 1) after i (k + q)) (sym count) ∙ product-column n ys bs e f base ps qs (omega arith) held'.before held'.filled after held'.reached i q h)
      (λ (i : ℕ). ap (λ (l : List Float). product n ys (take e bs) (length bs + 1) l i (length bs)) all ∙ product-currents n ys bs e f base ps qs (omega arith) held'.before held'.filled after held'.reached i)
      (length after) o.work kept rows same
      ∙ sym (studied-done (cut n ys bs e f base ps qs) m o (accepts (ap number_of q)))

  column-at : (k q : ℕ) → k < length (take e bs) → q < length bs - e
      → entry_at (length (drop e bs)) (drop (2 * (length (take e bs) * (length (take e bs) + 1))) after) k q ≡ solve (length (take e bs)) (external_part n ys (take e bs)) (external_column n ys (take e bs) (get_or (drop e bs) q 0)) k
      → entry_at (length bs - e) (drop (2 * (e * (e + 1))) after) k (0 + q) ≡ solve (length (take e bs)) (external_part n ys (take e bs)) (external_column n ys (take e bs) (get_or bs (e + q) 0)) k
  column-at k q l h held =
      let at : 0 + q ≡ q = omega arith in
      ap (entry_at (length bs - e) (drop (2 * (e * (e + 1))) after) k) at
      ∙ ap (λ (w : ℕ). entry_at w (drop (2 * (e * (e + 1))) after) k q) (sym (length-drop e bs))
      ∙ ap (λ (m : ℕ). entry_at (length (drop e bs)) (drop (2 * (m * (m + 1))) after) k q) (sym count)
      ∙ held
      ∙ ap (λ (j : ℕ). solve (length (take e bs)) (external_part n ys (take e bs)) (external_column n ys (take e bs) j) k) (get_or-drop e bs q 0)

  front-currents : CurrentsApart n ys (take e bs) base ps qs after → CurrentsApart n ys (take e bs) base ps qs (take (2 * (e * (e + 1))) after)
  unfolding entry_at
  front-currents h k l =
      let m = length (take e bs) in
      let inside : k * (m + 1) + m < m * (m + 1) = entry-within m (m + 1) k m l (omega arith) in
      let within : k * (m + 1) + m < e * (e + 1) = subst (λ (t : ℕ). k * (m + 1) + m < t * (t + 1)) count inside in
      entry-take (e * (e + 1)) after (k * (m + 1) + m) within ∙ h k l

  pub decided-apart : (rows : ℕ) → answer ≡ Ok (Apart rows)
      → outputs_from n ys bs e f base rows (length after) (drop (2 * (e * (e + 1))) after) (length bs - e) 0 (take (2 * (e * (e + 1))) after) (e + 1) e ≡ studied (cut n ys bs e f base ps qs) (Rows m) o 0
  decided-apart rows q =
      let (same, columns, currents) = decided.apart rows q in
      let r : length (drop e bs) ≡ length bs - e = length-drop e bs in
      filled-ward n ys bs e f base ps qs some order last (drop (2 * (e * (e + 1))) after) (length bs - e) 0 (take (2 * (e * (e + 1))) after) (e + 1) e
      (λ (i q : ℕ) h.
      column-product n ys (take e bs) (take (f - e) (drop e bs)) (drop f bs) base ps qs (length bs - e) 0 (get_or bs (e + q) 0) (drop (2 * (e * (e + 1))) after) q
      (λ (k : ℕ) (l : k < length (take e bs)). column-at k q l h (columns k q l (rw length-drop h))) i)
      (λ (i : ℕ).
      ap (λ (m : ℕ). product n ys (take e bs) (m + 1) (take (2 * (e * (e + 1))) after) i m) (sym count)
      ∙ currents-product n ys (take e bs) (take (f - e) (drop e bs)) (drop f bs) base ps qs (take (2 * (e * (e + 1))) after) (front-currents currents) i)
      (length after) o.work kept rows same
      ∙ sym (studied-done (cut n ys bs e f base ps qs) m o (accepts (ap number_of q)))
