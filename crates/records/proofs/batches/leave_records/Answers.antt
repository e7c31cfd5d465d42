use Rattle.records.proofs.Lists.{leave_flat}
use Rattle.records.proofs.batches.leave_records.Goals as goal

pub returns : goal.returns
returns c = cc (leave_flat c.args.b)
