-- `entries::records::write_front` meets its contract.
use Rattle.prelude.proofs.Prelude.{◌≡◌, rules}
use Rattle.entries.proofs.RecordsLaws.{front-written}
use Rattle.entries.proofs.records.write_front.Goals as goal

pub returns : goal.returns
returns c =
    let part : c.copy_from_slice.new.self ≡ c.args.r.active_buses = search rules in
    front-written _ _ _ _ c.args.r c.requires c.put.ensures c.put-2.ensures part
