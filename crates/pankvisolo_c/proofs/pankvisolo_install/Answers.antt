-- The epoch goes on as its bits, which read back as the epoch.
use Rattle.std.proofs.Common.{ℤ, ap}
use Rattle.std.proofs.Math.Facts.{to_z-of_z}
use Rattle.rules.specs.Event as E
use Rattle.pankvisolo.proofs.Answering.{same_event}
use Rattle.pankvisolo_c.proofs.pankvisolo_install.Goals as goal

pub returns : goal.returns
returns c =
    let same_bits = ap (λ (z : ℤ). E.install E.with_rule z c.args.entries.now) (to_z-of_z c.ranges.epoch) in
    λ l. same_event same_bits (c.pankvisolo_install.ensures l)
