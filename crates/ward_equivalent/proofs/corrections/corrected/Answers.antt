-- `ward_equivalent::corrections::corrected` meets its contract.
use Rattle.prelude.proofs.Prelude.{◌-◌, arith, length}
use Rattle.ward_equivalent.proofs.Kept.{front-part}
use Rattle.ward_equivalent.proofs.corrections.corrected.Goals as goal

pub corrected_in-requires : goal.corrected_in-requires
corrected_in-requires c =
    let b = length c.args.study.buses.now - c.args.study.f in
    (c.requires.0, c.requires.1, c.requires.2, c.requires.3, front-part b _ (omega (arith, c.args.study.few, c.args.study.distinct)), front-part b _ (omega (arith, c.args.study.few, c.args.study.distinct)))
