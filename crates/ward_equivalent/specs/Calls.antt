-- A study's slices and what it leaves, gathered into its records.
use Rattle.std.specs.Prelude.{ℕ, List, Float, Result}
use Rattle.refusals.specs.declared.Refusal.{Refusal}
use Rattle.ward_equivalent.specs.declared.answers.WardSummary.{WardSummary}
use Rattle.ward_equivalent.specs.Ward.{Study, Outputs}
use Rattle.ward_equivalent.specs.Extended.{ExtendedOutputs}
use Rattle.ward_equivalent.specs.Studied.{AfterWard, AfterExtended}

abbrev pub study_of : ℕ → List Float → List ℕ → List ℕ → List ℕ → Float → List Float → List Float → Study
study_of n ys is es bs base ps qs =
    record { size = n; given = ys; internal = is; external = es; boundary = bs; base = base; p-ext = ps; q-ext = qs }

abbrev pub outputs_of : List Float → List Float → List Float → List Float → Outputs
outputs_of yw pw qw ws = record { y-ward = yw; p-ward = pw; q-ward = qw; work = ws }

-- an answer, and the slices at exit
abbrev pub after_ward : Result WardSummary Refusal → List Float → List Float → List Float → List Float → AfterWard
after_ward r yw pw qw ws = record { answer = r; outputs = outputs_of yw pw qw ws }

abbrev pub extended_outputs_of : Outputs → List Float → List Float → ExtendedOutputs
extended_outputs_of o cs ks = record { outputs = o; correction = cs; compensation = ks }

abbrev pub after_extended : Result WardSummary Refusal → Outputs → List Float → List Float → AfterExtended
after_extended r o cs ks = record { answer = r; outputs = extended_outputs_of o cs ks }
