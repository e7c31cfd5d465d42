use Rattle.sweeping.proofs.Leaving.{Removing}
use Rattle.sweeping.proofs.remove_all.Given as goal

abbrev pub invariant-loop-leaver : goal.invariant-loop-leaver
invariant-loop-leaver l = Removing l.going l.initial.group l.group l.leaver-index
