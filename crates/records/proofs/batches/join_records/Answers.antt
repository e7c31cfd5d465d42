use Rattle.records.proofs.Lists.{join_flat}
use Rattle.records.proofs.batches.join_records.Goals as goal

pub returns : goal.returns
returns c =
    rw (c.then-2.ensures.0, c.then-2.ensures.1, c.then.ensures.0, c.then.ensures.1, c.then-rest.ensures.0, c.then-rest.ensures.1, c.then_some-target.ensures)
    (join_flat c.args.b _ _ c.no_target.ensures c.joined.ensures)
