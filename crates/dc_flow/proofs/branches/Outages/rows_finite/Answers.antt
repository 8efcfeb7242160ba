-- `dc_flow::branches::Outages::rows_finite` meets its contract: the rows passed are finite.
use Rattle.prelude.proofs.Prelude.{sym, ◌∙◌, subst, length, T}
use Rattle.complex.proofs.Finite.{none}
use Rattle.dc_flow.specs.Dc.{real_grid}
use Rattle.dc_flow.proofs.OutageFinite.{grid-passed, grid-failed, grid-more}
use Rattle.dc_flow.proofs.branches.Outages.rows_finite.Goals as goal

pub loop-l-init : goal.loop-l-init
unfolding real_grid
loop-l-init c = none

pub returns-then-not-row_finite : goal.returns-then-not-row_finite
returns-then-not-row_finite c =
    grid-failed _ (length c.args.self.ptdf.branches.from.now) c.loop-l.l c.loop-l-test.true (sym c.row_finite.ensures ∙ c.if-not-row_finite.true)

pub loop-l-preserved : goal.loop-l-preserved
loop-l-preserved c =
    grid-more _ (length c.args.self.ptdf.branches.from.now) c.loop-l.l c.loop-l.invariant (subst T (sym (sym c.row_finite.ensures ∙ c.if-not-row_finite.false)) tt)

pub returns : goal.returns
returns c = grid-passed _ (length c.args.self.ptdf.branches.from.now) c.loop-l.l c.loop-l-test.false c.loop-l.auto.l-end c.loop-l.invariant
