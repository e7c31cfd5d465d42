-- How many of those that were passed are marked.
use Rattle.std.proofs.Common.{◌≡◌, ◌≤◌, count_by, take}
use Rattle.sweeping.proofs.count_marks.Given as goal

abbrev pub invariant-loop-goes : goal.invariant-loop-goes
invariant-loop-goes l = record { counted : l.n ≡ count_by (λ x. x) (take l.goes-index l.gone); most : l.n ≤ l.goes-index }
