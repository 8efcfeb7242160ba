-- What the contracts say of the structs that the functions pass on, in the words of Work, Listed and Sequence.
use Rattle.std.specs.Prelude.{ℕ, ◌+◌, ◌*◌, List, length, take, drop, Option, Result, Float}
use Rattle.complex.specs.declared.Complex.{Complex}
use Rattle.complex.specs.Matrices.{Matrix, entry_at}
use Rattle.refusals.specs.declared.Refusal.{Refusal}
use Rattle.refusals.specs.Work.{Step}
use Rattle.solver.specs.Solving.{solve}
use Rattle.ward_equivalent.specs.declared.rows.BusMatrix.{BusMatrix}
use Rattle.ward_equivalent.specs.declared.rows.ExternalInjections.{ExternalInjections}
use Rattle.ward_equivalent.specs.declared.rows.Solved.{Solved}
use Rattle.ward_equivalent.specs.declared.listing.ListedStudy.{ListedStudy}
use Rattle.ward_equivalent.specs.declared.listing.Parts.{Parts}
use Rattle.ward_equivalent.specs.declared.listing.Ties.{Ties}
use Rattle.ward_equivalent.specs.declared.sequence.Decided.{Decided}
use Rattle.ward_equivalent.specs.declared.study.Held.{Held}
use Rattle.ward_equivalent.specs.Ward.{Study}
use Rattle.ward_equivalent.specs.Extended.{ExtendedStudy}
use Rattle.ward_equivalent.specs.Steps as steps
use Rattle.ward_equivalent.specs.Studied.{AfterWard}
use Rattle.ward_equivalent.specs.Inner.Work as work
use Rattle.ward_equivalent.specs.Inner.Listed as listed
use Rattle.ward_equivalent.specs.Inner.Sequence as sequence

-- ---- the matrix m

abbrev pub entries : BusMatrix → Matrix
entries m = entry_at m.n m.y.now

abbrev pub Lists : BusMatrix → List ℕ → Type 0
Lists m bs = work.Listing m.n m.y.now bs

abbrev pub work_row : BusMatrix → List ℕ → ℕ → Complex → ℕ → Complex
work_row m bs = work.work_row m.n m.y.now bs

abbrev pub work_matrix : BusMatrix → List ℕ → ExternalInjections → Matrix
work_matrix m bs j = work.work_matrix m.n m.y.now bs j.base j.p.now j.q.now

abbrev pub picked_row : BusMatrix → List ℕ → ℕ → ℕ → Complex
picked_row m ks = work.picked_row m.n m.y.now ks

-- what the formulas of the correction read
abbrev pub correction_input : Ties → ExtendedStudy
correction_input t = listed.correction_input t.matrix.n t.matrix.y.now t.outer.now t.voltages.now t.base

-- ---- solved columns x for the external buses es

abbrev pub RowsFor : List ℕ → Solved → Type 0
RowsFor es x = work.ExternalRows es x.w x.work.now

-- the `count` first terms of row `bus` of Y_re times the q-th of them, and all
abbrev pub times_to : BusMatrix → List ℕ → Solved → ℕ → ℕ → ℕ → Complex
times_to m es x bus q count = work.product_to m.n m.y.now es x.w x.work.now bus (x.column + q) count

abbrev pub times : BusMatrix → List ℕ → Solved → ℕ → ℕ → Complex
times m es x bus q = work.product m.n m.y.now es x.w x.work.now bus (x.column + q)

-- the first of them alone
abbrev pub times_first : BusMatrix → List ℕ → Solved → ℕ → Complex
times_first m es x bus = work.product m.n m.y.now es x.w x.work.now bus x.column

-- the equivalent's row of a bus, in the columns of the buses ks
abbrev pub reduced_row : BusMatrix → List ℕ → List ℕ → Solved → ℕ → ℕ → Complex
reduced_row m es ks x bus = work.less_product m.n m.y.now es ks x.w x.work.now x.column bus

-- ---- a study in parts

-- the length of the front of the work slice, and of all of it
abbrev pub front : Parts → ℕ
front p = 2 * (length p.outer.now * (length p.outer.now + 1))

abbrev pub whole : Parts → ℕ
whole p = 2 * (length p.outer.now * (length p.outer.now + 1)) + 2 * (length p.outer.now * length p.kept.now)

abbrev pub parted : Parts → Study
parted p =
    sequence.kept_study p.matrix.n p.matrix.y.now p.outer.now p.kept.now p.internal
    p.injections.base p.injections.p.now p.injections.q.now

abbrev pub currents_input : Parts → Study
currents_input p = sequence.solves_input p.matrix.n p.matrix.y.now p.outer.now p.injections.base p.injections.p.now p.injections.q.now

abbrev pub column_steps : Parts → ℕ → List Step
column_steps p = steps.steps_of_column (sequence.columns_input p.matrix.n p.matrix.y.now p.outer.now)

abbrev pub column_solution : Parts → ℕ → ℕ → Complex
column_solution p bus =
    solve (length p.outer.now) (sequence.external_part p.matrix.n p.matrix.y.now p.outer.now)
    (sequence.external_column p.matrix.n p.matrix.y.now p.outer.now bus)

abbrev pub injection_steps : Parts → List ℕ → List Step
injection_steps p bs =
    sequence.steps_of_injections p.matrix.n p.matrix.y.now p.outer.now bs p.injections.base p.injections.p.now p.injections.q.now

-- where the solutions stand
abbrev pub ColumnsIn : Parts → List Float → Type 0
ColumnsIn p ws = sequence.ColumnsApart p.matrix.n p.matrix.y.now p.outer.now p.kept.now (length p.kept.now) ws

abbrev pub CurrentsIn : Parts → List Float → Type 0
CurrentsIn p ws =
    sequence.CurrentsApart p.matrix.n p.matrix.y.now p.outer.now p.injections.base p.injections.p.now p.injections.q.now ws

-- ---- a study on one list

abbrev pub cut : ListedStudy → Study
cut s = listed.cut s.matrix.n s.matrix.y.now s.buses.now s.e s.f s.injections.base s.injections.p.now s.injections.q.now

abbrev pub work_length : ListedStudy → ℕ
work_length s = 2 * (s.e * (length s.buses.now + 1))

abbrev pub Tries : ListedStudy → ℕ → Option ℕ → List Float → List Float → Type 0
Tries s allowed answered before after =
    sequence.Tries s.matrix.n s.matrix.y.now s.buses.now s.e s.injections.base s.injections.p.now s.injections.q.now
    allowed answered before after

abbrev pub Decides : ListedStudy → ℕ → Result Decided Refusal → List Float → Type 0
Decides s allowed answered after =
    sequence.Decides s.matrix.n s.matrix.y.now (take s.e s.buses.now) (drop s.e s.buses.now) s.buses.now (cut s)
    allowed answered after

-- the equivalent that the work slice ws holds
abbrev pub outputs_from : ListedStudy → ℕ → Held → List Float → AfterWard
outputs_from s reduced h ws =
    listed.outputs_from s.matrix.n s.matrix.y.now s.buses.now s.e s.f s.injections.base reduced (length ws)
    (drop h.start ws) h.v h.first (take h.end ws) h.w h.c
