-- Where all were settled so far, each slot passed is. The list is a set of slots, so that its entries are in reach of the tables.
use Rattle.std.proofs.Common.{◌≡◌, ℕ, ◌<◌, true, get_or}
use Rattle.tables.specs.View.{slot_at}
use Rattle.quiet.specs.Settling.{settled}
use Rattle.quiet.proofs.all_settled.Given as goal

abbrev pub invariant-loop-s : goal.invariant-loop-s
invariant-loop-s l =
    l.all ≡ true → (k : ℕ) → k < l.s-index → settled l.p.0 (slot_at l.tables (get_or l.list k 0)) ≡ true
