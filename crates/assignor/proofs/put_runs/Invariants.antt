-- The runs of the subscribers that are left are to come (`Writing`); each goes where the last ended. Assumes nothing.
use Rattle.std.proofs.Common.{[], ◌∷◌, length, drop}
use Rattle.rules.specs.Assignor.{runs}
use Rattle.numbers.proofs.Writing.{Writing}
use Rattle.assignor.proofs.put_runs.Given as goal

abbrev pub invariant-loop-i : goal.invariant-loop-i
invariant-loop-i l = Writing (runs l.n (length l.subscribers) 0 l.subscribers) l.initial.out l.out l.at (runs l.n (length l.subscribers) l.i (drop l.i l.subscribers) ∷ [])
