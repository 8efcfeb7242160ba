-- `entries::scalars::pairs_finite` meets its contract.
use Rattle.prelude.proofs.Prelude.{◌≡◌, refl, sym, ◌∙◌, Bool, true, false, ◌&&◌, finite}
use Rattle.binary64.specs.Values.{all_finite}
use Rattle.entries.proofs.scalars.pairs_finite.Goals as goal

four : (p q r s : Bool) → (p && (q && (r && (s && true)))) ≡ ((p && q) && (r && s))
four true true true true = refl
four true true true false = refl
four true true false s = refl
four true false r s = refl
four false q r s = refl

pub returns-then-both_finite : goal.returns-then-both_finite
unfolding all_finite
returns-then-both_finite c =
    rw (four (finite c.args.a.re) (finite c.args.a.im) (finite c.args.b.re) (finite c.args.b.im), sym c.both_finite.ensures ∙ c.if-both_finite.true)
    c.both_finite-then-both_finite.ensures

pub returns-else-both_finite : goal.returns-else-both_finite
unfolding all_finite
returns-else-both_finite c =
    rw (four (finite c.args.a.re) (finite c.args.a.im) (finite c.args.b.re) (finite c.args.b.im), sym c.both_finite.ensures ∙ c.if-both_finite.false) c.if-both_finite.false
