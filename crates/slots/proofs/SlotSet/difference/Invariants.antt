-- Each word of the result is the word without the bits of the other, whence the slots are those that the other has not (`wordwise`).
use Rattle.std.proofs.Common.{◌-◌, ◌^◌, ◌≤◌, get_or}
use lib.Bits.{bit_and}
use Rattle.slots.proofs.Each.{Each}
use Rattle.slots.specs.Set.{word_count}
use Rattle.slots.proofs.SlotSet.difference.Given as goal

abbrev pub invariant-loop-i : goal.invariant-loop-i
invariant-loop-i l = (l.i ≤ word_count) × Each (λ k x. bit_and x ((2 ^ 64 - 1) - get_or l.other.words k 0)) l.initial.r.words l.r.words l.i
