-- `complex::cdiv` meets its contract: the divisor's squared magnitude and the quotient tell of all numbers on the way.
use Rattle.prelude.proofs.Prelude.{sym, ap, ◌∙◌, finite}
use Rattle.complex.specs.Arithmetic.{cdiv}
use Rattle.complex.specs.Computed.{of_quotient}
use Rattle.complex.specs.Leaves.{quotient}
use Rattle.complex.proofs.Leaves.{tested, pair-none, divided, undivided}
use Rattle.complex.proofs.cdiv.Goals as goal

pub returns : goal.returns
unfolding quotient
returns c =
    let a = c.args.a in let b = c.args.b in
    let d = ap finite (sym c.sqmag.ensures) ∙ sym c.finite.ensures ∙ c.if-not-finite.false in
    tested _ _ (cdiv a b) (of_quotient a b) c.cdiv.ensures c.if_finite.ensures (divided a b d)

pub returns-then-not-finite : goal.returns-then-not-finite
unfolding quotient
returns-then-not-finite c =
    let a = c.args.a in let b = c.args.b in
    let d = ap finite (sym c.sqmag.ensures) ∙ sym c.finite.ensures ∙ c.if-not-finite.true in
    pair-none (of_quotient a b) (cdiv a b) (undivided a b d)
