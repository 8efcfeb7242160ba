-- `binary64::finite::finite` meets its contract: below the one infinity and above the other.
use Rattle.prelude.proofs.Prelude.{◌≡◌, refl, sym, ◌∙◌, true, false, Float, nan, inf, fin, lt, div, neg, of_bits, finite}
use Rattle.binary64.proofs.finite.finite.Goals as goal

below : (x : Float) → lt x (inf false) ≡ true → lt (inf true) x ≡ finite x
unfolding lt
below nan h = refl
below (inf true) h = refl
below (inf false) h = sym h
below (fin s m e) h = refl

not-below : (x : Float) → lt x (inf false) ≡ false → false ≡ finite x
unfolding lt
not-below nan h = refl
not-below (inf true) h = refl
not-below (inf false) h = refl
not-below (fin s m e) h = sym h

pub returns-then-x : goal.returns-then-x
unfolding div neg of_bits
returns-then-x c = below c.args.x c.if-x.true

pub returns-else-x : goal.returns-else-x
unfolding div of_bits
returns-else-x c = c.if-x.false ∙ not-below c.args.x c.if-x.false
