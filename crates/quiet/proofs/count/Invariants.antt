-- A part at a time.
use Rattle.std.proofs.Common.{◌≡◌, ◌*◌, ◌≤◌, ◌<◌}
use Rattle.tables.specs.View.{Whole}
use Rattle.quiet.specs.Settling.{part_length, near_count}
use Rattle.quiet.proofs.count.Given as goal

abbrev pub invariant-loop-part : goal.invariant-loop-part
invariant-loop-part l =
    (0 < l.part → Whole l.tables) × (l.n ≤ l.part * part_length) × (l.n ≡ near_count l.tables l.p.0 (l.part * part_length))
