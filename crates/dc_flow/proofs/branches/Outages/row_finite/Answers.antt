-- `dc_flow::branches::Outages::row_finite` meets its contract: the factors passed are finite.
use Rattle.prelude.proofs.Prelude.{◌≡◌, sym, ap, ◌∙◌, subst, arith, T, length, finite}
use Rattle.dc_flow.specs.Inner.Rows.{outage_of}
use Rattle.dc_flow.proofs.OutageFinite.{row-passed, row-failed, one-more-finite}
use Rattle.dc_flow.proofs.branches.Outages.row_finite.Goals.{After-finite}
use Rattle.dc_flow.proofs.branches.Outages.row_finite.Goals as goal

-- what was tested
told : (c : After-finite) → c.finite.result ≡ finite (outage_of c.args.self.ptdf c.args.l c.loop-k.k)
told c = c.finite.ensures ∙ ap finite c.factor.ensures

pub loop-k-init : goal.loop-k-init
loop-k-init c = λ j l. absurd (omega arith)

pub returns-then-not-finite : goal.returns-then-not-finite
returns-then-not-finite c =
    row-failed _ (length c.args.self.ptdf.branches.from.now) c.loop-k.k c.loop-k-test.true (sym (told (goal.at.returns-then-not-finite c).After-finite) ∙ c.if-not-finite.true)

pub loop-k-preserved : goal.loop-k-preserved
loop-k-preserved c =
    one-more-finite _ c.loop-k.k c.loop-k.invariant (subst T (sym (sym (told (goal.at.loop-k-preserved c).After-finite) ∙ c.if-not-finite.false)) tt)

pub returns : goal.returns
returns c = row-passed _ (length c.args.self.ptdf.branches.from.now) c.loop-k.k c.loop-k-test.false c.loop-k.invariant
