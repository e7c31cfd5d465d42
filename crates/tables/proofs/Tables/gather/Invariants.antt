-- The four sets are filled below some slot, and the slots from it on are still to come.
use Rattle.std.proofs.Common.{◌≡◌, ℕ, ◌≤◌}
use Rattle.rules.specs.Constants.{slot_count}
use Rattle.tables.specs.Walk.{near_from, rest}
use Rattle.tables.proofs.Filling.{Four}
use Rattle.tables.proofs.Tables.gather.Given as goal

abbrev pub invariant-loop-s : goal.invariant-loop-s
invariant-loop-s l =
    (n : ℕ) × (n ≤ slot_count) × (rest l.s-iterator ≡ near_from l.self l.p.0 n) × Four l.p.0 l.self l.assigned l.revoking l.target l.claimable n
