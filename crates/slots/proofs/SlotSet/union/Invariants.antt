-- Each word of the result is the two words or-ed, whence the slots are those of either (`wordwise`).
use Rattle.std.proofs.Common.{◌≤◌, get_or}
use lib.Bits.{bit_or}
use Rattle.slots.proofs.Each.{Each}
use Rattle.slots.specs.Set.{word_count}
use Rattle.slots.proofs.SlotSet.union.Given as goal

abbrev pub invariant-loop-i : goal.invariant-loop-i
invariant-loop-i l = (l.i ≤ word_count) × Each (λ k x. bit_or x (get_or l.other.words k 0)) l.initial.r.words l.r.words l.i
