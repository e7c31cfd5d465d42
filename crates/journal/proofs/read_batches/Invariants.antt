use Rattle.std.proofs.Common.{◌≡◌, ◌-◌, length}
use Rattle.group.specs.View.{view}
use Rattle.journal.proofs.Going.{from}
use Rattle.journal.proofs.read_batches.Given as goal

-- what is left to be read gives what all gives
abbrev pub invariant-loop-first : goal.invariant-loop-first
invariant-loop-first l = from l.tick l.start (view l.initial.group) l.bytes ≡ from l.tick l.at (view l.group) l.bytes

abbrev pub decreases-loop-first : goal.decreases-loop-first
decreases-loop-first l = length l.bytes - l.at
