-- The slots in the set are the front of the list, and the bytes from the cursor on say the rest (`Rising`).
use Rattle.std.proofs.Common.{◌≡◌, ◌-◌, ◌<◌, ◌≤◌, length}
use Rattle.reading.specs.Places.{ahead}
use Rattle.reading.proofs.Rising.{Rising}
use Rattle.reading.proofs.fields.Cursor.set.Given as goal

abbrev pub invariant-loop : goal.invariant-loop
invariant-loop l =
    (l.self.bytes ≡ l.fn.self.bytes) × (l.fn.self.at < l.self.at) × (l.self.at ≤ length l.self.bytes.now)
    × Rising (ahead l.fn.self) l.set.words l.low l.from (ahead l.self) (l.n - l.counter)
