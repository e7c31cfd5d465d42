use Rattle.tables.specs.View.{slots_in}
use Rattle.sweeping.proofs.Leaving.{Filled}
use Rattle.sweeping.proofs.storing.gone_batches.Given as goal

abbrev pub invariant-loop-i : goal.invariant-loop-i
invariant-loop-i l = Filled (slots_in l.tables) l.gone l.going l.i
