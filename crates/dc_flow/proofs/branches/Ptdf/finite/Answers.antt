-- `dc_flow::branches::Ptdf::finite` meets its contract: numbers of ordinary size are finite, and all that is computed of them.
use Rattle.prelude.proofs.Prelude.{◌≡◌, true, sym, subst, ◌∙◌, T, is_true}
use Rattle.std.proofs.Common.{Ok}
use Rattle.binary64.specs.Values.{all_finite}
use Rattle.refusals.specs.declared.Refusal.TheVariants.{GivenNotFinite}
use Rattle.refusals.specs.Refusals.{outcome, then_given}
use Rattle.refusals.proofs.Answering.{ended}
use Rattle.refusals.proofs.Numbers.{given-not, given-all, computed-before, computed-not, computed-all}
use Rattle.complex.proofs.Sizes.{ordinary-finite}
use Rattle.dc_flow.specs.declared.branches.Ptdf.{Ptdf}
use Rattle.dc_flow.proofs.OutageFinite.{ordinary-lodf}
use Rattle.dc_flow.proofs.branches.Ptdf.finite.Goals as goal

given : (p : Ptdf) → all_finite p.factors.now ≡ true → Ok (tt {0}) ≡ outcome (then_given 0 p.factors.now)
given p h = given-all tt (tt {0}) 0 p.factors.now tt (ended tt) h

pub returns-then-all_ordinary : goal.returns-then-all_ordinary
returns-then-all_ordinary c =
    let p = c.args.self in
    let small = subst T (sym (sym c.all_ordinary.ensures ∙ c.if-all_ordinary.true)) tt in
    computed-all tt (tt {0}) _ _ tt (given p (is_true _ (ordinary-finite p.factors.now small)))
    (is_true _ (ordinary-lodf p.branches.n p.factors.now p.branches.from.now p.branches.to.now small p.matrix p.branches.counts.2 p.branches.ends))

pub returns-then-not-all_finite : goal.returns-then-not-all_finite
returns-then-not-all_finite c =
    computed-before tt (tt {0}) _ _ GivenNotFinite (given-not tt (tt {0}) 0 _ tt (ended tt) (sym c.all_finite.ensures ∙ c.if-not-all_finite.true))

pub returns-then-not-outages_finite : goal.returns-then-not-outages_finite
returns-then-not-outages_finite c =
    computed-not tt (tt {0}) _ _ tt (given c.args.self (sym c.all_finite.ensures ∙ c.if-not-all_finite.false)) (sym c.outages_finite.ensures ∙ c.if-not-outages_finite.true)

pub returns : goal.returns
returns c =
    computed-all tt (tt {0}) _ _ tt (given c.args.self (sym c.all_finite.ensures ∙ c.if-not-all_finite.false)) (sym c.outages_finite.ensures ∙ c.if-not-outages_finite.false)
