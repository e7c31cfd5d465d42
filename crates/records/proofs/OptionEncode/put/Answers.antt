use Rattle.records.proofs.Joining.{wrote_none}
use Rattle.records.proofs.OptionEncode.put.Goals as goal

pub returns-in-None : goal.returns-in-None
returns-in-None g c = rw c.in-None.is (wrote_none _)
