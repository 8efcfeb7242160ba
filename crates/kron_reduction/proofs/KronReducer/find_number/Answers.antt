-- `kron_reduction::KronReducer::find_number` meets its contract: a bus whose number no row has is not active.
use Rattle.std.proofs.Common.{}
use Rattle.prelude.proofs.Prelude.{◌≡◌, sym, ap, ◌∙◌, ℕ, arith, rules, length, take, ap₂, sub-zero}
use Rattle.refusals.specs.Refusals.{limit}
use Rattle.lists.specs.Buses.{found_in}
use Rattle.lists.proofs.Chains.{found_at}
use Rattle.kron_reduction.specs.Reducer.{numbers_of}
use Rattle.kron_reduction.proofs.Reducer.{sound-has}
use Rattle.kron_reduction.proofs.Active.{unlisted}
use Rattle.kron_reduction.proofs.KronReducer.find_number.Goals.{After-find, Start}
use Rattle.kron_reduction.proofs.KronReducer.find_number.Goals as goal

full : (c : Start) → length c.args.self.now.active_buses ≡ limit
full c = search rules

all-numbers : (c : Start) → length c.args.self.now.numbers ≡ limit
all-numbers c = search rules

-- the numbers that are looked through
module _ (c : After-find) where
  abbrev start : Start
  start = (goal.at.After-find c).Start

  looked : found_in start.args.bus (numbers_of start.args.self.now) ≡ c.find.result
  looked = ap (λ (w : ℕ). found_in start.args.bus (take w start.args.self.now.numbers)) (sym (sub-zero start.args.self.now.made)) ∙ sym c.find.ensures

pub returns-in_err-row : goal.returns-in_err-row
returns-in_err-row c =
    let s = start (goal.at.returns-in_err-row c).After-find in
    c.from_residual.ensures ∙ unlisted s.args.self.now s.args.bus s.requires.0 (all-numbers s) s.requires.1 (looked (goal.at.returns-in_err-row c).After-find ∙ c.in_err-row.was)

pub slice_bounds-find_bus-end : goal.slice_bounds-find_bus-end
slice_bounds-find_bus-end c =
    let s = start (goal.at.slice_bounds-find_bus-end c).After-find in
    omega (arith, (sound-has s.args.self.now s.requires.1).room, full s)

pub returns : goal.returns
returns c =
    let s = start (goal.at.returns c).After-find in
    let at = found_at s.args.bus (numbers_of s.args.self.now) c.in_ok-row.row (looked (goal.at.returns c).After-find ∙ c.in_ok-row.was) in
    c.find_bus.ensures ∙ ap₂ (λ (k w : ℕ). found_in k (take w s.args.self.now.active_buses)) (sym at.1) (sub-zero s.args.self.now.n_buses)

pub slice_bounds-find-end : goal.slice_bounds-find-end
slice_bounds-find-end c = omega (arith, c.requires.0, all-numbers (goal.at.slice_bounds-find-end c).Start)
