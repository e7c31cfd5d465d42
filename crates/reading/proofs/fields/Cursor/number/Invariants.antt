-- The groups so far come to `low`, and the rest of the bytes makes the number of it (`Groups`).
use Rattle.std.proofs.Common.{◌≡◌}
use Rattle.reading.proofs.Groups.{Groups}
use Rattle.reading.proofs.fields.Cursor.number.Given as goal

abbrev pub invariant-loop-i : goal.invariant-loop-i
invariant-loop-i l = (l.self ≡ l.initial.self) × Groups l.initial.self.bytes.now l.initial.self.at l.low l.weight l.i
