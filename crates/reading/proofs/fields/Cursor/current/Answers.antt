-- An epoch of 0 is of a member that is gone.
use Rattle.std.proofs.Common.{arith, ◌∙◌}
use Rattle.rules.specs.Reader.{◌>>=◌, and_then, pure}
use Rattle.reading.proofs.fields.Cursor.current.Goals as goal

pub returns-then-epoch-eq0 : goal.returns-then-epoch-eq0
unfolding ◌>>=◌ and_then pure
returns-then-epoch-eq0 c =
    let place = c.in_ok-place.ensures in
    let epoch = c.in_ok-epoch.ensures in
    (rw (place.0, epoch.0, c.if-epoch-eq0.true), epoch.1 ∙ place.1, omega (arith, place, epoch), epoch.3)
