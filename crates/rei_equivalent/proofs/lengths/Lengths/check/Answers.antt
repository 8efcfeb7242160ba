-- `rei_equivalent::lengths::Lengths::check` meets its contract: each test is the definition's.
use Rattle.prelude.proofs.Prelude.{eq-eqb, ne_eqb}
use Rattle.refusals.specs.Refusals.{answered}
use Rattle.lists.proofs.Within.{within}
use Rattle.rei_equivalent.specs.Rei.{rei_length_refusal}
use Rattle.rei_equivalent.proofs.lengths.Lengths.check.Goals.{then-self-n-via-then-self-n, then-self-n-via-else-self-n+then-self-n-2}
use Rattle.rei_equivalent.proofs.lengths.Lengths.check.Goals as goal

pub returns-then-over : goal.returns-then-over
unfolding rei_length_refusal answered
returns-then-over c = rw (← c.over.ensures, c.if-over.true)

pub exact-requires : goal.exact-requires
exact-requires c = search within

pub returns-then-not-exact : goal.returns-then-not-exact
unfolding rei_length_refusal answered
returns-then-not-exact c = rw (← c.over.ensures, c.if-over.false, ← c.exact.ensures, c.if-not-exact.true)

pub returns-then-self-n : goal.returns-then-self-n
unfolding rei_length_refusal answered
returns-then-self-n c =
    elim c.then-self-n.branch [
      | then-self-n-via-then-self-n w ↦ rw (← c.over.ensures, c.if-over.false, ← c.exact.ensures, c.if-not-exact.false, ne_eqb _ _ w.if-self-n.true)
      | then-self-n-via-else-self-n+then-self-n-2 w ↦ rw (← c.over.ensures, c.if-over.false, ← c.exact.ensures, c.if-not-exact.false, eq-eqb _ _ w.if-self-n.false, ne_eqb _ _ w.if-self-n-2.true)
    ]

pub returns-then-n-eq0 : goal.returns-then-n-eq0
unfolding rei_length_refusal answered
returns-then-n-eq0 c =
    rw (← c.over.ensures, c.if-over.false, ← c.exact.ensures, c.if-not-exact.false, eq-eqb _ _ c.if-self-n.false, eq-eqb _ _ c.if-self-n-2.false, eq-eqb _ _ c.if-n-eq0.true)

pub returns : goal.returns
unfolding rei_length_refusal answered
returns c =
    rw (← c.over.ensures, c.if-over.false, ← c.exact.ensures, c.if-not-exact.false, eq-eqb _ _ c.if-self-n.false, eq-eqb _ _ c.if-self-n-2.false, ne_eqb _ _ c.if-n-eq0.false)
