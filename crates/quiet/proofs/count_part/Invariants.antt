-- The count of the slots passed is kept; each slot that is looked at shows how long the tables are.
use Rattle.std.proofs.Common.{◌≡◌, ◌+◌, ◌≤◌, ◌<◌}
use Rattle.tables.specs.View.{Whole}
use Rattle.quiet.specs.Settling.{near_count}
use Rattle.quiet.proofs.count_part.Given as goal

abbrev pub invariant-loop-i : goal.invariant-loop-i
invariant-loop-i l =
    (0 < l.i → Whole l.tables) × (l.n ≤ l.i) × (near_count l.tables l.p.0 (l.from + l.i) ≡ near_count l.tables l.p.0 l.from + l.n)
