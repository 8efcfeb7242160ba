-- `number_bytes::write` meets its contract. The invariant: the first i numbers are written.
use Rattle.number_bytes.proofs.BytesLaws.{writing_start, written_of, all_written}
use Rattle.number_bytes.proofs.write.Goals as goal

pub loop-i-init : goal.loop-i-init
loop-i-init g c = writing_start _ _ _

pub loop-i-preserved : goal.loop-i-preserved
loop-i-preserved g c = written_of _ _ _ _ _ _ c.index-xs-i.result c.loop-i.invariant c.requires _ c.loop-i-test.true c.index-xs-i.is (cc)

pub returns : goal.returns
returns g c = all_written _ _ _ _ _ _ c.loop-i.invariant c.requires c.loop-i-test.false
