-- The differences of the set go to the front of the buffer, and those of the slots still to come are to be written, the first of them from `last`.
use mathlib.Core.List.{[], ◌∷◌}
use Rattle.rules.specs.Records.{differences}
use Rattle.numbers.proofs.Writing.{Writing}
use Rattle.slots.specs.Set.{slots_of}
use Rattle.slots.specs.Walk.{rest}
use Rattle.records.proofs.Differences.{Rises}
use Rattle.records.proofs.sets.put_differences.Given as goal

abbrev pub invariant-loop-slot : goal.invariant-loop-slot
invariant-loop-slot l = Rises l.last (rest l.slot-iterator)
    × Writing (differences 0 (slots_of l.fn.set.words)) l.initial.buf l.buf l.at (differences l.last (rest l.slot-iterator) ∷ [])
