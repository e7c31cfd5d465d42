-- The marks below p are those of the members that are due.
use Rattle.std.proofs.Common.{◌≡◌, ℕ, ◌<◌, slice_index_or}
use Rattle.std.proofs.Math.Option.{none}
use Rattle.rules.specs.Effects.{due}
use Rattle.group.specs.Columns.{view_members}
use Rattle.sweeping.specs.Marks.{mark}
use Rattle.sweeping.proofs.overdue.due_places.Given as goal

abbrev pub invariant-loop-p : goal.invariant-loop-p
invariant-loop-p l = (p : ℕ) → p < l.p → mark l.goes-items p ≡ due l.tick (mark l.revoking p) (slice_index_or (view_members l.members.cells) p none)
