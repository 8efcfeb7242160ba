-- What the entries of several slices answer and leave, by the library's definitions: f is returned, each slice at the end is the
-- library's, and single answers are written where the call is accepted.
use Rattle.std.specs.Prelude.{ℕ, ◌≡◌, List, Float, Result}
use Rattle.refusals.specs.declared.Refusal.{Refusal}
use Rattle.refusals.specs.Refusals.{answered, number_of}
use Rattle.solver.specs.Calls.{AfterElimination}
use Rattle.ward_equivalent.specs.declared.answers.WardSummary.{WardSummary}
use Rattle.ward_equivalent.specs.Ward.{Outputs}
use Rattle.ward_equivalent.specs.Extended.{ExtendedOutputs}
use Rattle.ward_equivalent.specs.Studied.{AfterWard, AfterExtended}
use Rattle.rei_equivalent.specs.declared.ReiEquivalent.{ReiEquivalent}
use Rattle.rei_equivalent.specs.Rei as rei
use Rattle.entries.specs.Answers.{rows_after, summary_after, equivalent_after}

pub record SolveAnswered (a : AfterElimination (Result ℕ Refusal)) (f : ℕ) (x work : List Float) (held after : ℕ) : Type 0 where
  pub told : f ≡ number_of a.answer
  pub solution : x ≡ a.output
  pub left : work ≡ a.work
  pub counted : after ≡ rows_after a.answer held

pub record WardAnswered (a : AfterWard) (f : ℕ) (o : Outputs) (held after : WardSummary) : Type 0 where
  pub told : f ≡ number_of a.answer
  pub left : o ≡ a.outputs
  pub summed : after ≡ summary_after a.answer held

pub record ExtendedAnswered (a : AfterExtended) (f : ℕ) (o : ExtendedOutputs) (held after : WardSummary) : Type 0 where
  pub told : f ≡ number_of a.answer
  pub left : o ≡ a.outputs
  pub summed : after ≡ summary_after a.answer held

-- what `rei::compute` answers
abbrev pub rei_answer_of : rei.ReiInput → Result ReiEquivalent Refusal
rei_answer_of g = answered (rei.equivalent_of g) (rei.rei_refusal g)

pub record ReiAnswered (g : rei.ReiInput) (f : ℕ) (spoke_buses : List ℕ) (spokes : List Float)
    (tie_buses : List ℕ) (ties : List Float) (held after : ReiEquivalent) : Type 0 where
  pub told : f ≡ number_of (rei_answer_of g)
  pub left : rei.AfterRei g (rei_answer_of g) spoke_buses spokes tie_buses ties
  pub summed : after ≡ equivalent_after (rei_answer_of g) held
