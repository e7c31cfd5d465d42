-- The entries passed rise.
use Rattle.std.proofs.Common.{◌-◌}
use Rattle.search.specs.Rising.{Rises}
use Rattle.search.proofs.rising.rises_by_one.Given as goal

abbrev pub invariant-loop-here : goal.invariant-loop-here
invariant-loop-here l = Rises l.list 0 (l.here - 1)
