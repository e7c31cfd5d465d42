use Rattle.std.proofs.Common.{refl}
use Rattle.judging.proofs.Ticks.{group_ticked}
use Rattle.judging.proofs.retiming.retime.Goals as goal

pub returns : goal.returns
returns c = (group_ticked _ _ _ c.retime_members.ensures, refl, refl)
