-- What the pointers for single answers hold at the end: the answer where the call was carried out, else what was there.
use Rattle.std.specs.Prelude.{ℕ, cond, eqb, Float, Result, Ok, Err}
use Rattle.complex.specs.declared.Complex.{Complex}
use Rattle.refusals.specs.declared.Refusal.{Refusal}
use Rattle.ward_equivalent.specs.declared.answers.WardSummary.{WardSummary}
use Rattle.rei_equivalent.specs.declared.ReiEquivalent.{ReiEquivalent}

-- ---- what several pointers hold together

-- a Ward study's sizes, in buses, its ratio, and how many rows it reduced
abbrev pub summary_of : ℕ → ℕ → Float → ℕ → WardSummary
summary_of r e x rows = record { n_buses_reduced = r; n_buses_equivalent = e; reduction_ratio = x; rows_reduced = rows }

-- an REI equivalent: bus, voltage in per unit, P in MW, Q in MVAr, and the number of ties
abbrev pub rei_of : ℕ → Float → Float → Float → ℕ → ReiEquivalent
rei_of b v p q n = record { rei_bus_id = b; rei_voltage_pu = v; rei_p_mw = p; rei_q_mvar = q; n_ties = n }

-- ---- at the end

-- by the refusal f
unfoldable pub answer_after : {A : Type 0} → ℕ → A → A → A
answer_after f new held = cond (eqb f 0) new held

-- by the library's answer
unfoldable pub given_after : {A : Type 0} → Result A Refusal → A → A
given_after (Ok x) held = x
given_after (Err r) held = held

abbrev pub value_after : Result Complex Refusal → Complex → Complex
value_after = given_after

abbrev pub count_after : Result ℕ Refusal → ℕ → ℕ
count_after = given_after

abbrev pub rows_after : Result ℕ Refusal → ℕ → ℕ
rows_after = given_after

abbrev pub summary_after : Result WardSummary Refusal → WardSummary → WardSummary
summary_after = given_after

abbrev pub equivalent_after : Result ReiEquivalent Refusal → ReiEquivalent → ReiEquivalent
equivalent_after = given_after
