use Rattle.std.proofs.Common.{ℕ, ◌≡◌}
use Rattle.rules.specs.Constants.{session_timeout}
use Rattle.rules.specs.Group.{elapsed}
use Rattle.rules.specs.Batches.{session_before}
use Rattle.group.specs.Columns.{view_members}
use Rattle.judging.proofs.Ticks.{Silenced}
use Rattle.judging.proofs.retiming.silence.Given as goal

-- the tick is the one that the rules have
pub since : (t s : ℕ) → s ≡ elapsed t session_timeout → s ≡ session_before t
unfolding elapsed session_before
since t s e = e

-- the places before p that are gone are silent
abbrev pub invariant-loop-p : goal.invariant-loop-p
invariant-loop-p l = Silenced l.since l.gone (view_members l.initial.members.cells) (view_members l.members.cells) l.p
