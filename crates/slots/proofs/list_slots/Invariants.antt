-- What the walk has still to give is still to be written.
use Rattle.std.proofs.Common.{[], ◌∷◌}
use Rattle.numbers.proofs.Writing.{Writing}
use Rattle.slots.specs.Set.{slots_of}
use Rattle.slots.specs.Walk.{rest}
use Rattle.slots.proofs.list_slots.Given as goal

abbrev pub invariant-loop-slot : goal.invariant-loop-slot
invariant-loop-slot l = Writing (slots_of l.fn.a.words) l.initial.out l.out l.at (rest l.slot-iterator ∷ [])
