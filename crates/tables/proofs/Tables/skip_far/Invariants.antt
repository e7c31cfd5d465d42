-- None of the slots passed is near p, eight at a time.
use Rattle.std.proofs.Common.{◌-◌, ◌≤◌}
use Rattle.rules.specs.Constants.{slot_count}
use Rattle.tables.specs.Places.{NoneNear}
use Rattle.tables.proofs.Tables.skip_far.Given as goal

abbrev pub invariant-loop-i : goal.invariant-loop-i
invariant-loop-i l = (l.from ≤ l.i) × (l.i ≤ slot_count) × NoneNear l.p.0 l.self l.from l.i

abbrev pub decreases-loop-i : goal.decreases-loop-i
decreases-loop-i l = slot_count - l.i
