use Rattle.std.proofs.Common.{arith}
use Rattle.search.proofs.SlotSets.{tells_more}
use Rattle.search.proofs.rising.rises_from.Goals as goal

pub loop-i-preserved : goal.loop-i-preserved
loop-i-preserved c = let l = c.loop-i in tells_more _ _ l.i l.rises (omega arith) l.invariant
