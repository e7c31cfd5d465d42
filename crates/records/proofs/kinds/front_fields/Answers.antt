use Rattle.records.proofs.Parts.{front_fields}
use Rattle.records.proofs.kinds.front_fields.Goals as goal

pub returns : goal.returns
returns c = cc (front_fields c.args.place.0 c.args.count)
