-- The marks are those of the slots that were passed.
use Rattle.std.proofs.Common.{◌≡◌, length}
use Rattle.rules.specs.Constants.{max_members}
use Rattle.tables.specs.View.{slots_in}
use Rattle.sweeping.proofs.Marking.{Marked}
use Rattle.sweeping.proofs.overdue.revoking_places.Given as goal

abbrev pub invariant-loop-s : goal.invariant-loop-s
invariant-loop-s l = record { long : length l.marks ≡ max_members; marked : Marked (slots_in l.tables) l.marks l.s }
