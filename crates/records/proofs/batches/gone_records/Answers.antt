use Rattle.records.proofs.Lists.{gone_flat}
use Rattle.records.proofs.batches.gone_records.Goals as goal

pub returns : goal.returns
returns c = rw (c.then-2.ensures.0, c.then-2.ensures.1, c.then.ensures.0, c.then.ensures.1, c.then_some-target.ensures) (gone_flat c.args.b _ c.no_target.ensures)
