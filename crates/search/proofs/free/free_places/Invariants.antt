-- The word has the places passed, and no others yet (`Gather`).
use Rattle.std.proofs.Common.{◌+◌}
use Rattle.slots.specs.Set.{bit}
use Rattle.slots.proofs.Gathering.{Gather}
use Rattle.search.specs.Places.{matches}
use Rattle.search.proofs.free.free_places.Given as goal

abbrev pub invariant-loop-i : goal.invariant-loop-i
invariant-loop-i l = Gather (λ k. matches l.ids 0 0 0 0 (l.from + k)) (bit l.word) l.i
