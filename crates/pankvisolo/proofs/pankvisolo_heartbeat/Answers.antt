use Rattle.events.specs.Outcomes.{topics_of}
use Rattle.pankvisolo.proofs.Answering.{serves}
use Rattle.pankvisolo.proofs.pankvisolo_heartbeat.Goals as goal

pub returns : goal.returns
returns c = serves topics_of c.heartbeat.result c.into.ensures _ _ _ _ _ _ _ c.heartbeat.ensures
