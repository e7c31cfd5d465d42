-- The records of the places that are left are to come; those of a marked place go to the part of the buffer where the last ended.
use Rattle.std.proofs.Common.{[], ◌∷◌}
use Rattle.rules.specs.Records.{all_bytes}
use Rattle.numbers.proofs.Writing.{Writing}
use Rattle.installing.specs.Targets.{record_at, marked_records}
use Rattle.events.proofs.Places.{places_from, bytes_at}
use Rattle.installing.proofs.retargeting.Install.put_targets.Given as goal

abbrev pub invariant-loop-i : goal.invariant-loop-i
invariant-loop-i l =
    Writing (all_bytes (marked_records l.self.marks l.self.links.target.now)) l.initial.buf l.buf l.at (bytes_at (record_at l.self.marks l.self.links.target.now) (places_from l.i) ∷ [])
