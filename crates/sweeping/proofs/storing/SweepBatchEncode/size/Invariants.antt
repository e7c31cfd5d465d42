-- The length so far and that of the entries from the index on make up the whole.
use Rattle.std.proofs.Common.{◌+◌, ◌*◌, ◌≤◌, ◌≡◌, length, drop}
use Rattle.rules.specs.Constants.{slot_count}
use Rattle.sweeping.proofs.Leaving.{bytes_in}
use Rattle.sweeping.proofs.storing.SweepBatchEncode.size.Given as goal

abbrev pub invariant-loop-leaver : goal.invariant-loop-leaver
invariant-loop-leaver l = record {
  most : l.n ≤ (2 * slot_count + 25) * l.leaver-index;
  left : l.n + length (bytes_in (drop l.leaver-index l.fn.self.going)) ≡ length (bytes_in l.fn.self.going);
}
