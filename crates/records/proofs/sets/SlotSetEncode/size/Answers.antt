-- The size, a byte for each slot, and what the differences take beyond that; of a set without slots the size alone.
use Rattle.std.proofs.Common.{sym, ap, ◌∙◌, length}
use native.Mathlib.Omega.{arith}
use lib.Dec.{lit<}
use Rattle.rules.proofs.Number.{number_small}
use Rattle.slots.proofs.Selecting.{slots_le}
use Rattle.records.proofs.Differences.{counted_length, none_bytes}
use Rattle.records.proofs.sets.SlotSetEncode.size.Goals as goal

pub returns-then-is_empty : goal.returns-then-is_empty
returns-then-is_empty c = (sym (ap length (none_bytes c.args.self.words (c.is_empty.ensures.0 c.if-is_empty.true) ∙ number_small 0 (lit< tt))), omega arith)

pub returns : goal.returns
returns c =
    let long = counted_length c.count-count.result _ c.count-count.ensures in
    (omega (arith, long, c.size.ensures, c.extra_len.ensures), omega (arith, slots_le c.args.self.words))
