-- The words passed: the last slot, and the bytes beyond one for each slot (`Passed`).
use Rattle.std.proofs.Common.{◌*◌, ◌≤◌}
use Rattle.slots.specs.Set.{has}
use Rattle.records.proofs.Extra.{Passed}
use Rattle.records.proofs.sets.extra_len.Given as goal

abbrev pub invariant-loop-i : goal.invariant-loop-i
invariant-loop-i l = (l.extra ≤ 4 * l.i) × Passed (has l.fn.set.words) (l.i * 64) l.extra l.last
