-- The epoch goes on as its bits, which read back as the epoch.
use Rattle.std.proofs.Common.{ℤ, ap}
use Rattle.std.proofs.Math.Facts.{to_z-of_z}
use Rattle.rules.specs.Event as E
use Rattle.events.specs.Outcomes.{all_but_target}
use Rattle.pankvisolo.proofs.Answering.{same_event, serves}
use Rattle.pankvisolo.proofs.pankvisolo_install.Goals as goal

pub returns : goal.returns
returns c =
    let a = c.args in
    let same_bits = ap (λ (z : ℤ). E.install E.with_rule z a.entries.now) (to_z-of_z c.ranges.epoch) in
    λ l. same_event same_bits (serves all_but_target c.install.result c.into.ensures _ _ _ a.records.now _ l l (c.install.ensures l))
