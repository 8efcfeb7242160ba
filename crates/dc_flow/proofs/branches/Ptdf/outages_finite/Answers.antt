-- `dc_flow::branches::Ptdf::outages_finite` meets its contract: of two branches or more the denominators and the factors tell all.
use Rattle.prelude.proofs.Prelude.{◌∙◌}
use Rattle.dc_flow.proofs.OutageFinite.{tested, lone-finite, denominators-failed, denominators-passed}
use Rattle.dc_flow.proofs.branches.Ptdf.outages_finite.Goals as goal

pub returns-then-m-lt2 : goal.returns-then-m-lt2
returns-then-m-lt2 c = let p = c.args.self in tested _ (lone-finite p.branches.n p.factors.now p.branches.from.now p.branches.to.now c.if-m-lt2.true)

pub returns-then-not-all_finite : goal.returns-then-not-all_finite
returns-then-not-all_finite c =
    let p = c.args.self in
    denominators-failed p.branches.n p.factors.now p.branches.from.now p.branches.to.now c.if-m-lt2.false _ c.all_finite.result c.denominators.ensures c.all_finite.ensures c.if-not-all_finite.true

pub returns : goal.returns
returns c =
    let p = c.args.self in
    c.rows_finite.ensures
    ∙ denominators-passed p.branches.n p.factors.now p.branches.from.now p.branches.to.now c.if-m-lt2.false _ c.all_finite.result c.denominators.ensures c.all_finite.ensures c.if-not-all_finite.false
