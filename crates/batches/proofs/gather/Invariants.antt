-- The records so far and those that are left are the records of the batch (`Going`).
use Rattle.batches.proofs.Going.{Going}
use Rattle.batches.proofs.gather.Given as goal

abbrev pub invariant-loop-record : goal.invariant-loop-record
invariant-loop-record l =
    (goal.iterator-loop-record).can_next l.record-iterator × (goal.iterator-loop-record).is_finite l.record-iterator
    × Going l.batch l.record-iterator l.found l.gone l.initial.entries l.entries
