use Rattle.rules.specs.Event as E
use Rattle.events.specs.Outcomes.{topics_of}
use Rattle.pankvisolo.proofs.Answering.{serves}
use Rattle.pankvisolo.proofs.pankvisolo_sweep.Goals as goal

pub returns : goal.returns
returns c = λ l. serves topics_of c.sweep.result c.into.ensures (E.sweep c.args.tick) _ _ c.args.records.now _ l l (c.sweep.ensures l)
