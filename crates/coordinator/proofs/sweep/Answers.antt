use Rattle.rules.specs.Event as E
use Rattle.rules.specs.Step.{step}
use Rattle.events.specs.Outcomes.{topics_of}
use Rattle.coordinator.proofs.ByKind.{handed_on}
use Rattle.coordinator.proofs.sweep.Goals as goal

pub returns : goal.returns
returns c = λ l. handed_on topics_of _ _ _ _ (λ g. step g (E.sweep c.args.tick) c.args.records.now l) c.into.ensures (c.sweep.ensures l)
