-- `ward_equivalent::corrections::corrected_in` meets its contract.
use Rattle.prelude.proofs.Prelude.{not}
use Rattle.prelude.proofs.Prelude.{◌≡◌, refl, sym, ap, ◌∙◌, ◌-◌, arith, T, length, take, drop, sub-zero, length-drop, length-take-le}
use Rattle.std.proofs.Common.{Result, Err}
use Rattle.std.proofs.lemmas.Result.{err_from_is_err_and}
use Rattle.refusals.specs.declared.Refusal.{Refusal}
use Rattle.binary64.specs.Values.{all_finite}
use Rattle.lists.proofs.Chains.{rest-is}
use Rattle.ward_equivalent.specs.Extended.{ExtendedStudy, ExtendedOutputs}
use Rattle.ward_equivalent.specs.Steps.{of_each, of_correction}
use Rattle.ward_equivalent.specs.declared.answers.WardSummary.{WardSummary}
use Rattle.ward_equivalent.specs.Calls.{after_extended, outputs_of, extended_outputs_of}
use Rattle.ward_equivalent.specs.Inner.Listed.{cut, extended_of}
use Rattle.ward_equivalent.proofs.Solved.{listing-take, listing-drop}
use Rattle.ward_equivalent.proofs.Tests.{told-true}
use Rattle.ward_equivalent.proofs.Extended.{same-extended, extended-lost, extended-done, extended-not, corrections-seen, compensations-seen, corrections-fine, corrections-not}
use Rattle.ward_equivalent.proofs.corrections.corrected_in.Goals.{After-corrections-fine, Start}
use Rattle.ward_equivalent.proofs.corrections.corrected_in.Goals as goal

-- what is given, and the slices at entry
module _ (s : Start) where
  abbrev given : ExtendedStudy
  given = extended_of (cut s.args.study.matrix.n s.args.study.matrix.y.now s.args.study.buses.now s.args.study.e s.args.study.f s.args.study.injections.base s.args.study.injections.p.now s.args.study.injections.q.now) s.args.voltages.now

  abbrev outputs : ExtendedOutputs
  outputs = extended_outputs_of (outputs_of s.args.to.now s.args.active.now s.args.reactive.now s.args.work.now) s.args.correction.now s.args.compensation.now

pub invariant_of-ties : goal.invariant_of-ties
invariant_of-ties c =
    let external : length (take (c.args.study.e - 0) c.args.study.buses.now) ≡ c.args.study.e = length-take-le (c.args.study.e - 0) c.args.study.buses.now (omega (arith, c.args.study.first, c.args.study.last)) ∙ sub-zero c.args.study.e in
    record { external = listing-take c.args.study.matrix.n c.args.study.matrix.y.now c.args.study.buses.now (c.args.study.e - 0) c.args.study.listing; each = c.requires.1 ∙ sym external }

pub corrections-fine-requires : goal.corrections-fine-requires
corrections-fine-requires c =
    let kept : length (take (length c.args.study.buses.now - c.args.study.f) (drop c.args.study.f c.args.study.buses.now)) ≡ length c.args.study.buses.now - c.args.study.f = ap length (rest-is c.args.study.buses.now c.args.study.f) ∙ length-drop c.args.study.f c.args.study.buses.now in (
      listing-take c.args.study.matrix.n c.args.study.matrix.y.now (drop c.args.study.f c.args.study.buses.now) (length c.args.study.buses.now - c.args.study.f) (listing-drop c.args.study.matrix.n c.args.study.matrix.y.now c.args.study.buses.now c.args.study.f c.args.study.listing),
      c.requires.4 ∙ sym kept,
      c.requires.5 ∙ sym kept,
    )

-- the corrections are computed
module _ (c : After-corrections-fine) where
  abbrev start : Start
  start = (goal.at.After-corrections-fine c).Start

  fine : T c.corrections-fine.result → T (all_finite (of_each (of_correction (given start)) (given start).study.boundary))
  fine h = corrections-fine start.args.study.matrix.n start.args.study.matrix.y.now start.args.study.buses.now start.args.study.e start.args.study.f start.args.study.injections.base start.args.study.injections.p.now start.args.study.injections.q.now start.args.voltages.now (c.corrections-fine.ensures.0.holds h)

pub uncorrected-requires : goal.uncorrected-requires
uncorrected-requires c = c.requires.0.work

pub returns-then-not-fine : goal.returns-then-not-fine
returns-then-not-fine c =
    let s = start (goal.at.returns-then-not-fine c).After-corrections-fine in same-extended (ap Err c.uncorrected.ensures.0) (λ i. outputs_of s.args.to.now s.args.active.now s.args.reactive.now (c.uncorrected.ensures.1 i)) refl refl
    ∙ extended-lost (given s) s.args.allowed (outputs s) (corrections-not s.args.study.matrix.n s.args.study.matrix.y.now s.args.study.buses.now s.args.study.e s.args.study.f s.args.study.injections.base s.args.study.injections.p.now s.args.study.injections.q.now s.args.voltages.now (c.corrections-fine.ensures.0.fails (c.if-not-fine.true)))

pub study-requires : goal.study-requires
study-requires c = c.requires.0

pub returns-in_err-summary : goal.returns-in_err-summary
returns-in_err-summary c =
    let s = start (goal.at.returns-in_err-summary c).After-corrections-fine in
    let p = err_from_is_err_and c.from_residual.result c.from_residual.ensures.1 in
    rw (p.1, p.2) (ap (λ (a : Result WardSummary Refusal). after_extended a (outputs_of c.study.new.to c.study.new.active c.study.new.reactive c.study.new.work) s.args.correction.now s.args.compensation.now) (sym c.in_err-summary.was)
    ∙ extended-not (given s) s.args.allowed (outputs s) (fine (goal.at.returns-in_err-summary c).After-corrections-fine (told-true c.corrections-fine.result (ap not c.if-not-fine.false))) c.study.ensures _ c.in_err-summary.was)

pub copy_from_slice-requires : goal.copy_from_slice-requires
copy_from_slice-requires c = sym (c.corrections-fine.auto.correction ∙ c.requires.4 ∙ sym c.requires.2)

pub copy_from_slice-requires-2 : goal.copy_from_slice-requires-2
copy_from_slice-requires-2 c = sym (c.corrections-fine.auto.compensation ∙ c.requires.5 ∙ sym c.requires.3)

pub returns : goal.returns
returns c =
    let s = start (goal.at.returns c).After-corrections-fine in let held = told-true c.corrections-fine.result (ap not c.if-not-fine.false) in
    extended-done (given s) s.args.allowed (outputs s) (fine (goal.at.returns c).After-corrections-fine held) c.study.ensures _ c.in_ok-summary.was
    (c.copy_from_slice.ensures.after ∙ c.corrections-fine.ensures.1 held ∙ corrections-seen s.args.study.matrix.n s.args.study.matrix.y.now s.args.study.buses.now s.args.study.e s.args.study.f s.args.study.injections.base s.args.study.injections.p.now s.args.study.injections.q.now s.args.voltages.now)
    (c.copy_from_slice-2.ensures.after ∙ c.corrections-fine.ensures.2 held ∙ compensations-seen s.args.study.matrix.n s.args.study.matrix.y.now s.args.study.buses.now s.args.study.e s.args.study.f s.args.study.injections.base s.args.study.injections.p.now s.args.study.injections.q.now s.args.voltages.now)
