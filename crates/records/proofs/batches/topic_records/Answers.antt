use Rattle.records.proofs.Lists.{topic_flat}
use Rattle.records.proofs.batches.topic_records.Goals as goal

pub returns : goal.returns
returns c = cc (topic_flat c.args.b)
