-- A slot of the set is below the end of the slots.
use Rattle.batches.proofs.Entries.{gives_slot}
use Rattle.batches.proofs.laying.give.Goals as goal

pub bounds-entries-slot : goal.bounds-entries-slot
bounds-entries-slot c = gives_slot c.loop-slot.invariant.2 c.in-Some.ensures.steps
