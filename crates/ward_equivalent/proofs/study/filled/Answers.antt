-- `ward_equivalent::study::filled` meets its contract.
use Rattle.prelude.proofs.Prelude.{◌≡◌, sym, ap, ◌∙◌, List, ℕ, ◌-◌, ◌*◌, arith, length, get_or, take, drop, Float, map, length-drop, sub-zero, length-take-le}
use Rattle.complex.specs.{grid}
use Rattle.std.proofs.Common.{Ok}
use Rattle.ward_equivalent.specs.Arithmetic.{injected_p, injected_q}
use Rattle.ward_equivalent.specs.Inner.Work.{product, less_product}
use Rattle.ward_equivalent.specs.Inner.Listed.{outputs_from}
use Rattle.lists.proofs.Chains.{rest-is}
use Rattle.ward_equivalent.proofs.Solved.{listing-take, listing-drop}
use Rattle.ward_equivalent.proofs.Studied.{same_after, matrix-of}
use Rattle.ward_equivalent.proofs.Kept.{part-rest, front-part}
use Rattle.ward_equivalent.proofs.study.filled.Goals.{Start}
use Rattle.ward_equivalent.proofs.study.filled.Goals as goal

-- the external buses; where the solutions stand
module _ (s : Start) where
  external : length (take (s.args.study.e - 0) s.args.study.buses.now) ≡ s.args.study.e
  external = length-take-le (s.args.study.e - 0) s.args.study.buses.now (omega (arith, s.args.study.first, s.args.study.last)) ∙ sub-zero s.args.study.e

  columns : take (length s.args.work.now - s.args.held.start) (drop s.args.held.start s.args.work.now) ≡ drop s.args.held.start s.args.work.now
  columns = part-rest s.args.work.now s.args.held.start

  front : take (s.args.held.end - 0) s.args.work.now ≡ take s.args.held.end s.args.work.now
  front = ap (λ (m : ℕ). take m s.args.work.now) (sub-zero s.args.held.end)

pub reduced-requires : goal.reduced-requires
reduced-requires c =
    let kept : length (take (length c.args.study.buses.now - c.args.study.e) (drop c.args.study.e c.args.study.buses.now)) ≡ length c.args.study.buses.now - c.args.study.e = ap length (rest-is c.args.study.buses.now c.args.study.e) ∙ length-drop c.args.study.e c.args.study.buses.now in (
      listing-take c.args.study.matrix.n c.args.study.matrix.y.now c.args.study.buses.now (c.args.study.e - 0) c.args.study.listing,
      listing-take c.args.study.matrix.n c.args.study.matrix.y.now (drop c.args.study.e c.args.study.buses.now) (length c.args.study.buses.now - c.args.study.e) (listing-drop c.args.study.matrix.n c.args.study.matrix.y.now c.args.study.buses.now c.args.study.e c.args.study.listing),
      record { full = ap length (columns (goal.at.reduced-requires c).Start) ∙ length-drop c.args.held.start c.args.work.now ∙ omega (arith, c.requires.1.start) ∙ ap (λ (m : ℕ). 2 * (m * c.args.held.v)) (sym (external (goal.at.reduced-requires c).Start)) },
      omega (arith, kept, c.requires.1.columns),
      c.requires.0.y-ward ∙ ap (λ (m : ℕ). 2 * (m * m)) (sym kept),
    )

pub injections-requires : goal.injections-requires
injections-requires c =
    let kept : length (take (length c.args.study.buses.now - c.args.study.f) (drop c.args.study.f c.args.study.buses.now)) ≡ length c.args.study.buses.now - c.args.study.f = ap length (rest-is c.args.study.buses.now c.args.study.f) ∙ length-drop c.args.study.f c.args.study.buses.now in (
      listing-take c.args.study.matrix.n c.args.study.matrix.y.now c.args.study.buses.now (c.args.study.e - 0) c.args.study.listing,
      listing-take c.args.study.matrix.n c.args.study.matrix.y.now (drop c.args.study.f c.args.study.buses.now) (length c.args.study.buses.now - c.args.study.f) (listing-drop c.args.study.matrix.n c.args.study.matrix.y.now c.args.study.buses.now c.args.study.f c.args.study.listing),
      record { full = front-part c.args.held.end c.args.work.now c.requires.1.fit ∙ c.requires.1.end ∙ ap (λ (m : ℕ). 2 * (m * c.args.held.w)) (sym (external (goal.at.injections-requires c).Start)) },
      c.requires.1.column,
      c.requires.0.p-ward ∙ sym kept,
      c.requires.0.q-ward ∙ sym kept,
    )

pub ratio-reduction_ratio-requires : goal.ratio-reduction_ratio-requires
ratio-reduction_ratio-requires c = (omega (arith, c.args.study.distinct), omega (arith, c.args.study.few))

pub returns : goal.returns
unfolding outputs_from
returns c =
    let x = c.reduced in let xs = drop c.args.held.start c.args.work.now in
    let us = take c.args.held.end c.args.work.now in
    let E : take (c.args.study.e - 0) c.args.study.buses.now ≡ take c.args.study.e c.args.study.buses.now = ap (λ (m : ℕ). take m c.args.study.buses.now) (sub-zero c.args.study.e) in
    let F = rest-is c.args.study.buses.now c.args.study.f in
    let fs = take (length c.args.study.buses.now - c.args.study.f) (drop c.args.study.f c.args.study.buses.now) in
    same_after
    (ap (λ (x : Float). Ok (record { n_buses_reduced = c.args.study.matrix.n; n_buses_equivalent = length c.args.study.buses.now - c.args.study.e; reduction_ratio = x; rows_reduced = c.args.reduced })) c.ratio-reduction_ratio.ensures)
    (matrix-of c.args.study.matrix.n c.args.study.matrix.y.now c.args.study.buses.now c.args.study.e c.args.held.v _ c.args.held.first (take (c.args.study.e - 0) c.args.study.buses.now) (take (length c.args.study.buses.now - c.args.study.e) (drop c.args.study.e c.args.study.buses.now)) E (rest-is c.args.study.buses.now c.args.study.e) x.new.to (x.auto.to ∙ c.requires.0.y-ward) x.ensures
    ∙ ap (λ (l : List Float). grid (length c.args.study.buses.now - c.args.study.e) (length c.args.study.buses.now - c.args.study.e) (λ (p : ℕ). less_product c.args.study.matrix.n c.args.study.matrix.y.now (take c.args.study.e c.args.study.buses.now) (drop c.args.study.e c.args.study.buses.now) c.args.held.v l c.args.held.first (get_or (drop c.args.study.e c.args.study.buses.now) p 0))) (columns (goal.at.returns c).Start))
    (c.injections.ensures.0
    ∙ ap (λ (es : List ℕ). map (λ (i : ℕ). injected_p c.args.study.injections.base (product c.args.study.matrix.n c.args.study.matrix.y.now es c.args.held.w (take (c.args.held.end - 0) c.args.work.now) i c.args.held.c)) fs) E
    ∙ ap (λ (l : List Float). map (λ (i : ℕ). injected_p c.args.study.injections.base (product c.args.study.matrix.n c.args.study.matrix.y.now (take c.args.study.e c.args.study.buses.now) c.args.held.w l i c.args.held.c)) fs) (front (goal.at.returns c).Start)
    ∙ ap (map (λ (i : ℕ). injected_p c.args.study.injections.base (product c.args.study.matrix.n c.args.study.matrix.y.now (take c.args.study.e c.args.study.buses.now) c.args.held.w us i c.args.held.c))) F)
    (c.injections.ensures.1
    ∙ ap (λ (es : List ℕ). map (λ (i : ℕ). injected_q c.args.study.injections.base (product c.args.study.matrix.n c.args.study.matrix.y.now es c.args.held.w (take (c.args.held.end - 0) c.args.work.now) i c.args.held.c)) fs) E
    ∙ ap (λ (l : List Float). map (λ (i : ℕ). injected_q c.args.study.injections.base (product c.args.study.matrix.n c.args.study.matrix.y.now (take c.args.study.e c.args.study.buses.now) c.args.held.w l i c.args.held.c)) fs) (front (goal.at.returns c).Start)
    ∙ ap (map (λ (i : ℕ). injected_q c.args.study.injections.base (product c.args.study.matrix.n c.args.study.matrix.y.now (take c.args.study.e c.args.study.buses.now) c.args.held.w us i c.args.held.c))) F)
    c.clear.ensures
