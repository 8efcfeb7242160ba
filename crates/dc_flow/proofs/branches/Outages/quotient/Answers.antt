-- `dc_flow::branches::Outages::quotient` meets its contract: the test is the definition's.
use Rattle.prelude.proofs.Prelude.{◌≡◌, ap, ◌∙◌, List, Float, nan, length, get_or, arith}
use Rattle.complex.specs.{plus0, small_magnitude}
use Rattle.dc_flow.specs.Dc.{outage_factor}
use Rattle.dc_flow.specs.Inner.Rows.{denominator_of}
use Rattle.dc_flow.proofs.OutageLaws.{length-real_row, get_or-real_row}
use Rattle.dc_flow.proofs.branches.Outages.quotient.Goals.{Start}
use Rattle.dc_flow.proofs.branches.Outages.quotient.Goals as goal

left : (c : Start) → get_or c.args.self.denominators.now c.args.k nan ≡ denominator_of c.args.self.ptdf c.args.k
left c = ap (λ (ds : List Float). get_or ds c.args.k nan) c.args.self.left ∙ get_or-real_row (denominator_of c.args.self.ptdf) (length c.args.self.ptdf.branches.from.now) c.args.k c.requires.1

pub bounds-self-k : goal.bounds-self-k
bounds-self-k c = omega (arith, c.requires, ap length c.args.self.left ∙ length-real_row _ _)

pub returns-then-abs : goal.returns-then-abs
unfolding outage_factor plus0 small_magnitude
returns-then-abs c = rw (← left (goal.at.returns-then-abs c).Start, ← c.abs.ensures, c.if-abs.true)

pub returns-else-abs : goal.returns-else-abs
unfolding outage_factor plus0 small_magnitude
returns-else-abs c = rw (← left (goal.at.returns-else-abs c).Start, ← c.abs.ensures, c.if-abs.false, c.transfer.ensures)
