-- The epoch goes on as its bits, which read back as the epoch.
use Rattle.std.proofs.Common.{ℤ, ap, ◌∙◌}
use Rattle.std.proofs.Math.Facts.{to_z-of_z}
use Rattle.rules.specs.Event as E
use Rattle.rules.specs.Step.{step}
use Rattle.group.specs.View.{view}
use Rattle.events.specs.Outcomes.{all_but_target}
use Rattle.coordinator.proofs.ByKind.{handed_on}
use Rattle.coordinator.proofs.install.Goals as goal

pub returns : goal.returns
returns c = λ l.
    let a = c.args in
    let o = c.install.ensures l in
    handed_on all_but_target _ _ _ _ (λ g. step g (E.install E.with_rule a.epoch a.entries.now) a.records.now l) c.into.ensures
    (o.0, o.1, o.2 ∙ ap (λ (z : ℤ). step (view a.group.now) (E.install E.with_rule z a.entries.now) a.records.now l) (to_z-of_z c.ranges.epoch))
