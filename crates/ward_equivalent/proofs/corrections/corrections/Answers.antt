-- `ward_equivalent::corrections::corrections` meets its contract. The invariant: the boundary buses before place t have theirs, all finite.
use Rattle.prelude.proofs.Prelude.{ap, not}
use Rattle.prelude.proofs.Prelude.{sym, ◌∙◌, ℕ, arith, get_or, nan, length-set}
use Rattle.solver.proofs.Passed.{stored-none, stored_more}
use Rattle.ward_equivalent.specs.Extended.{ExtendedStudy, voltage_correction, q_compensation}
use Rattle.ward_equivalent.specs.Inner.Listed.{correction_input, CorrectionFinite}
use Rattle.ward_equivalent.proofs.Places.{listed_below, stored-map}
use Rattle.ward_equivalent.proofs.Tests.{tells-lost, tells-held, every_more}
use Rattle.ward_equivalent.proofs.Ties.{mean-is, correction-fine, correction-lost}
use Rattle.ward_equivalent.proofs.corrections.corrections.Goals as goal

pub loop-t-init : goal.loop-t-init
loop-t-init c =
    let X : ExtendedStudy = correction_input c.args.ties.matrix.n c.args.ties.matrix.y.now c.args.ties.outer.now c.args.ties.voltages.now c.args.ties.base in (
      omega arith,
      c.requires.1,
      c.requires.2,
      stored-none c.args.correction.now (λ (k : ℕ). voltage_correction X (get_or c.args.boundary.now k 0)),
      stored-none c.args.compensation.now (λ (k : ℕ). q_compensation X (get_or c.args.boundary.now k 0)),
      λ (k : ℕ) l. absurd (omega arith),
    )

pub over_ties-s-requires : goal.over_ties-s-requires
over_ties-s-requires c =
    listed_below c.args.ties.matrix.n c.args.ties.matrix.y.now c.args.boundary.now c.requires.0 c.loop-t.t c.loop-t-test.true

pub returns-then-not-finite_tie : goal.returns-then-not-finite_tie
returns-then-not-finite_tie c =
    let X : ExtendedStudy = correction_input c.args.ties.matrix.n c.args.ties.matrix.y.now c.args.ties.outer.now c.args.ties.voltages.now c.args.ties.base in
    let i = get_or c.args.boundary.now c.loop-t.t 0 in (
      tells-lost _ λ all. correction-lost X i _ _ _ _ c.over_ties-s.ensures.0 c.over_ties-s.ensures.1 c.over_ties-s.ensures.2 (c.mean-m.ensures ∙ mean-is X i c.over_ties-s.result.weights c.over_ties-s.result.weighted c.over_ties-s.ensures.0 c.over_ties-s.ensures.1) (sym c.finite_tie.ensures ∙ c.if-not-finite_tie.true) (all c.loop-t.t c.loop-t-test.true),
      λ h. absurd h,
      λ h. absurd h,
    )

pub loop-t-preserved : goal.loop-t-preserved
loop-t-preserved c =
    let X : ExtendedStudy = correction_input c.args.ties.matrix.n c.args.ties.matrix.y.now c.args.ties.outer.now c.args.ties.voltages.now c.args.ties.base in
    let i = get_or c.args.boundary.now c.loop-t.t 0 in
    let mean = c.mean-m.ensures ∙ mean-is X i c.over_ties-s.result.weights c.over_ties-s.result.weighted c.over_ties-s.ensures.0 c.over_ties-s.ensures.1 in (
      omega arith,
      length-set c.loop-t.correction c.loop-t.t c.mean-m.result ∙ c.loop-t.invariant.1,
      length-set c.loop-t.compensation c.loop-t.t c.over_ties-s.result.reactive ∙ c.loop-t.invariant.2,
      stored_more c.loop-t.correction (λ (k : ℕ). voltage_correction X (get_or c.args.boundary.now k 0)) (λ (k : ℕ). get_or c.args.correction.now k nan) c.loop-t.t c.mean-m.result (omega arith) mean c.loop-t.invariant.3,
      stored_more c.loop-t.compensation (λ (k : ℕ). q_compensation X (get_or c.args.boundary.now k 0)) (λ (k : ℕ). get_or c.args.compensation.now k nan) c.loop-t.t c.over_ties-s.result.reactive (omega arith) c.over_ties-s.ensures.2 c.loop-t.invariant.4,
      every_more (λ (k : ℕ). CorrectionFinite X (get_or c.args.boundary.now k 0)) c.loop-t.t c.loop-t.invariant.5 (correction-fine X i _ _ _ _ c.over_ties-s.ensures.0 c.over_ties-s.ensures.1 c.over_ties-s.ensures.2 mean c.finite_tie.result c.finite_tie.ensures (ap not c.if-not-finite_tie.false)),
    )

pub returns : goal.returns
returns c =
    let X : ExtendedStudy = correction_input c.args.ties.matrix.n c.args.ties.matrix.y.now c.args.ties.outer.now c.args.ties.voltages.now c.args.ties.base in (
      tells-held _ λ (t : ℕ) h. c.loop-t.invariant.5 t (omega arith),
      λ _. stored-map (voltage_correction X) c.args.boundary.now c.loop-t.correction (λ (k : ℕ). get_or c.args.correction.now k nan) c.loop-t.t c.loop-t.invariant.1 (omega arith) c.loop-t.invariant.3,
      λ _. stored-map (q_compensation X) c.args.boundary.now c.loop-t.compensation (λ (k : ℕ). get_or c.args.compensation.now k nan) c.loop-t.t c.loop-t.invariant.2 (omega arith) c.loop-t.invariant.4,
    )
