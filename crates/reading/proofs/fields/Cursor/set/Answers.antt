-- One slot more.
use Rattle.std.proofs.Common.{arith, ◌∙◌}
use Rattle.reading.proofs.Rising.{rising_more}
use Rattle.reading.proofs.fields.Cursor.set.Goals as goal

pub loop-preserved : goal.loop-preserved
loop-preserved c =
    let i = c.loop.invariant in
    let d = c.in_ok-d.ensures in
    (d.1 ∙ i.0, omega (arith, i.1, d.2), d.3, rising_more i.3 _ _ _ (omega arith) d.0 _ c.in_ok-slot.ensures)
