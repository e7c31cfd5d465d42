-- None of the places passed has the ID.
use Rattle.std.proofs.Common.{◌*◌}
use Rattle.search.specs.Places.{step, matches}
use Rattle.search.proofs.Placing.{NoneBelow}
use Rattle.search.proofs.find.Given as goal

abbrev pub invariant-loop-part : goal.invariant-loop-part
invariant-loop-part l = NoneBelow (matches l.ids l.w.a l.w.b l.w.c l.w.d) (l.part * step)
