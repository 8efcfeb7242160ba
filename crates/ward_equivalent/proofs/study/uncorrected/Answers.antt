-- `ward_equivalent::study::uncorrected` meets its contract.
use Rattle.prelude.proofs.Prelude.{◌≡◌, refl, sym, ap, ◌∙◌, ℕ, arith}
use Rattle.std.proofs.Common.{Option, Result, Ok, Err, unwrap_or}
use Rattle.std.specs.Result.{result_err}
use Rattle.refusals.specs.declared.Refusal.{Refusal}
use Rattle.refusals.specs.declared.Refusal.TheVariants.{ComputedNotFinite}
use Rattle.refusals.specs.Refusals.{number_of}
use Rattle.ward_equivalent.specs.declared.sequence.Decided.{Decided}
use Rattle.complex.specs.{zeros}
use Rattle.refusals.specs.Work.{meets}
use Rattle.ward_equivalent.specs.Steps.{steps_of}
use Rattle.ward_equivalent.specs.Inner.Listed.{cut, uncorrected_answer}
use Rattle.ward_equivalent.proofs.Decided.{uncorrected-none, uncorrected-refused, none-steps}
use Rattle.ward_equivalent.proofs.study.uncorrected.Goals.{After-decide-decided}
use Rattle.ward_equivalent.proofs.study.uncorrected.Goals as goal

pub returns-then-study-eq0 : goal.returns-then-study-eq0
returns-then-study-eq0 c =
    (sym (uncorrected-none _ (ap (λ (e : ℕ). meets c.args.allowed (steps_of (cut c.args.study.matrix.n c.args.study.matrix.y.now c.args.study.buses.now e c.args.study.f c.args.study.injections.base c.args.study.injections.p.now c.args.study.injections.q.now))) c.if-study-eq0.true ∙ none-steps c.args.study.matrix.n c.args.study.matrix.y.now c.args.study.buses.now c.args.study.f c.args.study.injections.base c.args.study.injections.p.now c.args.study.injections.q.now c.args.allowed)), c.clear.ensures)

pub decide-decided-requires : goal.decide-decided-requires
decide-decided-requires c = (omega (arith, c.if-study-eq0.false), c.requires)

-- the refusal of the study's own work, else 20
module _ (c : After-decide-decided) where
  told : (r : Result Decided Refusal) → c.decide-decided.result ≡ r → unwrap_or (result_err r) ComputedNotFinite ≡ uncorrected_answer (meets c.args.allowed (steps_of (cut c.args.study.matrix.n c.args.study.matrix.y.now c.args.study.buses.now c.args.study.e c.args.study.f c.args.study.injections.base c.args.study.injections.p.now c.args.study.injections.q.now)))
  told (Ok v) e = sym (uncorrected-none _ (sym c.decide-decided.ensures.number ∙ ap number_of e))
  told (Err r) e = uncorrected-refused r _ (ap number_of (sym e) ∙ c.decide-decided.ensures.number)

pub returns : goal.returns
returns c = (
  c.unwrap_or.ensures ∙ ap (λ (x : Option Refusal). unwrap_or x ComputedNotFinite) c.err.ensures.value ∙ told (goal.at.returns c).After-decide-decided _ refl,
  c.clear-2.ensures ∙ ap zeros c.decide-decided.auto.work,
)
