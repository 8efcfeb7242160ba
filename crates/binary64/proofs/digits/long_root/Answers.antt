-- `binary64::digits::long_root` meets its contract.
use Rattle.prelude.proofs.Prelude.{arith, ◌^◌}
use Rattle.binary64.proofs.WholeRoots.{root_below, root-above}
use Rattle.binary64.proofs.digits.long_root.Goals as goal

pub longer-requires : goal.longer-requires
longer-requires c =
    let m = c.args.m in let w = c.short_root-s.ensures in
    (root-above m c.short_root-s.result.q c.short_root-s.result.r (2 ^ 26) w (omega arith), root_below m c.short_root-s.result.q c.short_root-s.result.r (2 ^ 27) w (omega arith), w.small)
