-- What the entries passed tell is kept (`TellsRising`).
use Rattle.std.proofs.Common.{◌+◌}
use Rattle.search.specs.Rising.{TellsRising}
use Rattle.search.proofs.rising.rises_from.Given as goal

abbrev pub invariant-loop-i : goal.invariant-loop-i
invariant-loop-i l = TellsRising l.list l.from (l.from + l.i) l.rises
