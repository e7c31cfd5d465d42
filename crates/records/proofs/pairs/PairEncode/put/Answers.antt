use Rattle.records.proofs.Joining.{wrote_both}
use Rattle.records.proofs.pairs.PairEncode.put.Goals as goal

pub returns : goal.returns
returns g c = wrote_both c.requires c.put-at.ensures c.put.ensures
