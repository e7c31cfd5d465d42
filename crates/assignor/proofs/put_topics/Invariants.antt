-- The entries of the topics that are left are to come (`Writing`); each topic's go to the part where the last ended. Assumes nothing.
use Rattle.std.proofs.Common.{[], ◌∷◌}
use Rattle.numbers.proofs.Writing.{Writing}
use Rattle.assignor.specs.Shares.{all_entries}
use Rattle.assignor.proofs.Assigning.{From}
use Rattle.assignor.proofs.put_topics.Given as goal

abbrev pub invariant-loop-t : goal.invariant-loop-t
invariant-loop-t l = Writing (all_entries l.order l.subscriptions l.counts) l.initial.out l.out l.at (From l.order l.subscriptions l.counts l.t ∷ [])
