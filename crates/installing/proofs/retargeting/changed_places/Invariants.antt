-- At each slot that was passed, a place that is not marked is in both targets or in neither; one that is marked was in one alone at some slot.
use Rattle.installing.proofs.Targets.{Marking}
use Rattle.installing.proofs.retargeting.changed_places.Given as goal

abbrev pub invariant-loop-s : goal.invariant-loop-s
invariant-loop-s l = Marking l.marks l.before l.after l.s
