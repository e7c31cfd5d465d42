use Rattle.rules.specs.Event as E
use Rattle.rules.specs.Step.{step}
use Rattle.events.specs.Outcomes.{members_and_tables}
use Rattle.coordinator.proofs.ByKind.{handed_on}
use Rattle.coordinator.proofs.topic.Goals as goal

pub returns : goal.returns
returns c = λ l. handed_on members_and_tables _ _ _ _ (λ g. step g (E.topic c.args.number c.args.id c.args.count) c.args.records.now l) c.into.ensures (c.topic.ensures l)
