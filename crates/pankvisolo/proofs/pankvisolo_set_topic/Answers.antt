use Rattle.rules.specs.Event as E
use Rattle.events.specs.Outcomes.{members_and_tables}
use Rattle.pankvisolo.proofs.Answering.{serves}
use Rattle.pankvisolo.proofs.pankvisolo_set_topic.Goals as goal

pub returns : goal.returns
returns c = λ l. let a = c.args in serves members_and_tables c.topic.result c.into.ensures (E.topic a.number a.id.bytes a.count) _ _ a.records.now _ l l (c.topic.ensures l)
