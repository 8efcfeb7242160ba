-- `kron_reduction::thevenin_impedance` meets its contract: the input is refused, a bus is not found, or the matrix is inverted.
use Rattle.std.proofs.Common.{Some}
use Rattle.prelude.proofs.Prelude.{◌≡◌, sym, ◌∙◌, ℕ, ◌≤◌, rules, T, length}
use Rattle.std.proofs.lemmas.Result.{err_from_is_err_and}
use Rattle.refusals.specs.Refusals.{limit}
use Rattle.refusals.proofs.Answering.{accepted as accepted-by}
use Rattle.lists.specs.Buses.{found_in}
use Rattle.kron_reduction.specs.Reducer.{active_of, sound, row_of}
use Rattle.kron_reduction.specs.Inner.Removal.{Holds}
use Rattle.kron_reduction.specs.Reading.{reading_refusal}
use Rattle.kron_reduction.proofs.Taking.{took_lt}
use Rattle.kron_reduction.proofs.Across.{impedance-refused, impedance-first, impedance-second, impedance-found, impedance-holds, impedance-room, impedance-sound, impedance-finite}
use Rattle.kron_reduction.proofs.thevenin_impedance.Goals.{In_ok-reading_refusal, In-Some, In-Some-find_number, Start}
use Rattle.kron_reduction.proofs.thevenin_impedance.Goals as goal

pub returns-in_err-reading_refusal : goal.returns-in_err-reading_refusal
returns-in_err-reading_refusal c =
    let p = err_from_is_err_and c.from_residual.result c.from_residual.ensures.1 in
    rw (p.1, p.2) (impedance-refused _ _ _ _ _ _ c.in_err-reading_refusal.ensures)

full : (c : Start) → length c.args.r.active_buses ≡ limit
full c = search rules

-- an accepted input
module _ (c : In_ok-reading_refusal) where
  abbrev begun : Start
  begun = (goal.at.In_ok-reading_refusal c).Start

  accepted : reading_refusal 4 begun.args.r begun.args.y.now (length begun.args.work.now) ≡ 0
  accepted = (accepted-by (tt {0}) (tt {0}) _ _ c.in_ok-reading_refusal.ensures).0

  holds : Holds begun.args.r begun.args.y.now
  holds = impedance-holds begun.args.r begun.args.y.now begun.args.bus_i begun.args.bus_j begun.args.work.now accepted (full begun)

  sure : (begun.args.r.made ≤ limit) × T (sound begun.args.r)
  sure = impedance-sound begun.args.r begun.args.y.now begun.args.bus_i begun.args.bus_j begun.args.work.now accepted

pub find_number-requires : goal.find_number-requires
find_number-requires c = sure (goal.at.find_number-requires c).In_ok-reading_refusal

pub returns-in_default : goal.returns-in_default
returns-in_default c =
    impedance-first _ _ _ _ _ (accepted (goal.at.returns-in_default c).In_ok-reading_refusal) (sym c.find_number.ensures ∙ c.in_default.is)

-- where the first bus is found
module _ (c : In-Some) where
  abbrev test : In_ok-reading_refusal
  test = (goal.at.In-Some c).In_ok-reading_refusal

  abbrev start : Start
  start = begun test

  abbrev first : ℕ
  first = c.in-Some.i

  found : found_in (row_of start.args.r start.args.bus_i) (active_of start.args.r) ≡ Some first
  found = sym c.find_number.ensures ∙ c.in-Some.is

pub find_number-requires-2 : goal.find_number-requires-2
find_number-requires-2 c = sure (test (goal.at.find_number-requires-2 c).In-Some)

pub returns-in_default-find_number : goal.returns-in_default-find_number
returns-in_default-find_number c =
    impedance-second _ _ _ _ _ (accepted (test (goal.at.returns-in_default-find_number c).In-Some)) _ (found (goal.at.returns-in_default-find_number c).In-Some) (sym c.find_number-2.ensures ∙ c.in_default-find_number.is)

-- where the second is
module _ (c : In-Some-find_number) where
  abbrev one : In-Some
  one = (goal.at.In-Some-find_number c).In-Some

  abbrev second : ℕ
  second = c.in-Some-find_number.j

  found-too : found_in (row_of (start one).args.r (start one).args.bus_j) (active_of (start one).args.r) ≡ Some second
  found-too = sym c.find_number-2.ensures ∙ c.in-Some-find_number.is

pub invariant_of-front : goal.invariant_of-front
invariant_of-front c =
    let h = holds (test (one (goal.at.invariant_of-front c).In-Some-find_number)) in
    record { fits = (h.room, h.fits) }

pub impedance_between-requires : goal.impedance_between-requires
impedance_between-requires c =
    let two = (goal.at.impedance_between-requires c).In-Some-find_number in
    let k = one two in
    let h = holds (test k) in (
      took_lt _ _ h _ _ (found k),
      took_lt _ _ h _ _ (found-too two),
      impedance-room _ _ (start k).args.bus_i (start k).args.bus_j (start k).args.work.now (accepted (test k)) (full (start k)),
      impedance-finite _ _ (start k).args.bus_i (start k).args.bus_j (start k).args.work.now (accepted (test k)),
    )

pub returns : goal.returns
returns c =
    let k = one (goal.at.returns c).In-Some-find_number in
    impedance-found _ _ _ _ _ (accepted (test k)) _ (found k) _ (found-too (goal.at.returns c).In-Some-find_number) _ _ c.impedance_between.ensures
