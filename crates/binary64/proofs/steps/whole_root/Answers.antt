-- `binary64::steps::whole_root` meets its contract.
use Rattle.binary64.specs.Root.{count}
use Rattle.binary64.proofs.RootSpecial.{ordinary}
use Rattle.binary64.proofs.RootDigits.{counted, rooted-of}
use Rattle.binary64.proofs.steps.whole_root.Goals as goal

pub parts-p-requires : goal.parts-p-requires
parts-p-requires c = ordinary c.args.x c.requires

pub returns : goal.returns
returns c =
    let x = c.args.x in
    let units = (counted x (ordinary x c.requires) (rw c.well_formed.0.1 tt)).0 in
    rooted-of x (count x) c.scaled-a.result.m c.scaled-a.result.half c.long_root-w.result.q c.long_root-w.result.r units (rw c.parts-p.ensures.value c.scaled-a.ensures) c.long_root-w.ensures
