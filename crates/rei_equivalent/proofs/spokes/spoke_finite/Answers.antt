-- `rei_equivalent::spokes::spoke_finite` meets its contract: the squared magnitude tells all.
use Rattle.prelude.proofs.Prelude.{ap, ◌∙◌, finite}
use Rattle.rei_equivalent.proofs.ReiNumbers.{spoke-tells}
use Rattle.rei_equivalent.proofs.spokes.spoke_finite.Goals as goal

pub returns : goal.returns
returns c =
    c.finite.ensures ∙ ap finite c.sqmag.ensures ∙ spoke-tells c.args.n c.args.y c.requires.0 c.requires.1
