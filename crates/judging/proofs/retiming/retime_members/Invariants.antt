use Rattle.judging.proofs.Ticks.{Ticked}
use Rattle.judging.proofs.retiming.retime_members.Given as goal

-- the places before p have the tick
abbrev pub invariant-loop-p : goal.invariant-loop-p
invariant-loop-p l = Ticked l.tick l.initial.members.cells l.members.cells l.p
