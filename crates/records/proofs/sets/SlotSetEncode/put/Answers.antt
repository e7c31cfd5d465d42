-- The size, as it was counted, and then the differences; of a set without slots a size of 0 alone.
use native.Mathlib.Omega.{arith}
use Rattle.records.proofs.Differences.{none_bytes, counted_bytes, counted_length}
use Rattle.records.proofs.Joining.{wrote_both}
use Rattle.records.proofs.sets.SlotSetEncode.put.Goals as goal

pub put-requires : goal.put-requires
put-requires c = rw (none_bytes c.args.self.words (c.is_empty.ensures.0 c.if-is_empty.true)) at c.requires

pub returns-then-is_empty : goal.returns-then-is_empty
returns-then-is_empty c = rw (none_bytes c.args.self.words (c.is_empty.ensures.0 c.if-is_empty.true)) c.put.ensures

pub put-at-requires : goal.put-at-requires
put-at-requires c = let long = counted_length c.count.result _ c.count.ensures in omega arith

pub slice_bounds-put_differences-count : goal.slice_bounds-put_differences-count
slice_bounds-put_differences-count c = let long = counted_length c.count.result _ c.count.ensures in omega (arith, c.put-at.ensures.count)

pub slice_bounds-put_differences-start : goal.slice_bounds-put_differences-start
slice_bounds-put_differences-start c = let long = counted_length c.count.result _ c.count.ensures in omega (arith, c.put-at.ensures.count)

pub returns : goal.returns
returns c = let whole = counted_bytes _ c.count.ensures in rw whole (wrote_both (rw whole at c.requires) c.put-at.ensures c.put_differences.ensures)
