use Rattle.records.proofs.Lists.{ordinary_flat}
use Rattle.records.proofs.batches.ordinary_records.Goals as goal

pub returns : goal.returns
returns c = cc (ordinary_flat c.args.b)
