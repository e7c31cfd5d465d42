-- The entries of the slots so far are p, and the slots to come are the rest of the set (`Gives`).
use Rattle.slots.specs.Walk.{rest}
use Rattle.batches.proofs.Entries.{Gives}
use Rattle.batches.proofs.laying.give.Given as goal

abbrev pub invariant-loop-slot : goal.invariant-loop-slot
invariant-loop-slot l =
    (goal.iterator-loop-slot).can_next l.slot-iterator × (goal.iterator-loop-slot).is_finite l.slot-iterator
    × Gives l.fn.slots.words l.p l.initial.entries l.entries l.yielded (rest l.slot-iterator)
