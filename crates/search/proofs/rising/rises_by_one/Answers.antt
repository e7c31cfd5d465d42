use Rattle.std.proofs.Common.{arith}
use Rattle.search.proofs.SlotSets.{no_more, falls_at}
use Rattle.search.proofs.rising.rises_by_one.Goals as goal

pub returns-then-list-here : goal.returns-then-list-here
returns-then-list-here c = no_more _ _ _ (falls_at c.args.list.now c.loop-here.here (omega arith) (omega arith) c.if-list-here.true)
