-- `kron_reduction::KronReducer::remove_one` meets its contract: the bus is not found, the removal of its row is refused, or the rows and the places are closed up.
use Rattle.std.proofs.Common.{Some}
use Rattle.prelude.proofs.Prelude.{◌≡◌, sym, ap, ◌∙◌, ℕ, ◌<◌, arith, take, sub-zero}
use Rattle.std.proofs.lemmas.Result.{err_from_is_err_and}
use Rattle.lists.specs.Buses.{found_in}
use Rattle.kron_reduction.proofs.Taking.{holds-room, took_lt, took-absent, took-refused, took}
use Rattle.kron_reduction.proofs.KronReducer.remove_one.Goals.{After-find_bus, In-Some, Start}
use Rattle.kron_reduction.proofs.KronReducer.remove_one.Goals as goal

pub slice_bounds-find_bus-end : goal.slice_bounds-find_bus-end
slice_bounds-find_bus-end c = omega (arith, holds-room _ _ c.requires.0, c.requires.0.room)

-- what was looked through
looked : (c : After-find_bus) → found_in c.args.bus (take c.args.self.now.n_buses c.args.self.now.active_buses) ≡ c.find_bus.result
looked c =
    ap (λ (w : ℕ). found_in c.args.bus (take w c.args.self.now.active_buses)) (sym (sub-zero c.args.self.now.n_buses)) ∙ sym c.find_bus.ensures

-- where the bus is found
module _ (c : In-Some) where
  abbrev start : Start
  start = (goal.at.In-Some c).Start

  abbrev at : ℕ
  at = c.in-Some.k

  found : found_in start.args.bus (take start.args.self.now.n_buses start.args.self.now.active_buses) ≡ Some at
  found = looked (goal.at.In-Some c).After-find_bus ∙ c.in-Some.is

  at_lt : at < start.args.self.now.n_buses
  at_lt = took_lt _ _ start.requires.0 _ _ found

pub row_refusal-requires : goal.row_refusal-requires
row_refusal-requires c =
    let f = (goal.at.row_refusal-requires c).In-Some in (at_lt f, (start f).requires.2)

pub returns-in_err-row_refusal : goal.returns-in_err-row_refusal
returns-in_err-row_refusal c =
    let f = (goal.at.returns-in_err-row_refusal c).In-Some in
    let p = err_from_is_err_and c.from_residual.result c.from_residual.ensures.1 in
    rw (p.1, p.2) (took-refused _ _ (start f).requires.0 _ _ (found f) _ c.in_err-row_refusal.ensures)

pub remove_row-requires : goal.remove_row-requires
remove_row-requires c =
    ((start (goal.at.remove_row-requires c).In-Some).requires.0.room, at_lt (goal.at.remove_row-requires c).In-Some, (start (goal.at.remove_row-requires c).In-Some).requires.0.fits, (start (goal.at.remove_row-requires c).In-Some).requires.1)

pub close_places-requires : goal.close_places-requires
close_places-requires c =
    (at_lt (goal.at.close_places-requires c).In-Some, omega (arith, holds-room _ _ (start (goal.at.close_places-requires c).In-Some).requires.0, (start (goal.at.close_places-requires c).In-Some).requires.0.room))

pub returns : goal.returns
returns c =
    took _ _ (start (goal.at.returns c).In-Some).requires.0 _ _ (found (goal.at.returns c).In-Some) c.in_ok-row_refusal.ensures _ _ c.close_places.auto.active c.close_places.ensures c.remove_row.ensures.0 c.remove_row.ensures.1

pub returns-in_default : goal.returns-in_default
returns-in_default c = took-absent _ _ c.requires.0 _ (looked (goal.at.returns-in_default c).After-find_bus ∙ c.in_default.is)

pub overflow_sub-self : goal.overflow_sub-self
overflow_sub-self c = let l = at_lt (goal.at.overflow_sub-self c).In-Some in omega arith
