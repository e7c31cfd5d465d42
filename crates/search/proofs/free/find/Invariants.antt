-- No place of the words passed is free.
use Rattle.std.proofs.Common.{◌*◌}
use Rattle.search.specs.Places.{word_places, matches}
use Rattle.search.proofs.Placing.{NoneBelow}
use Rattle.search.proofs.free.find.Given as goal

abbrev pub invariant-loop-part : goal.invariant-loop-part
invariant-loop-part l = NoneBelow (matches l.ids 0 0 0 0) (l.part * word_places)
