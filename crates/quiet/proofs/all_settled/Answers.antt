use Rattle.std.proofs.Common.{arith}
use Rattle.search.proofs.SlotSets.{slot_below}
use Rattle.quiet.proofs.all_settled.Goals as goal

pub is_settled-all-requires : goal.is_settled-all-requires
is_settled-all-requires c = slot_below _ c.requires _ (omega arith)
