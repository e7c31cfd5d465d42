-- The slots that are still to come stay the same from word to word.
use Rattle.std.proofs.Common.{◌≡◌, ◌-◌}
use Rattle.slots.specs.Set.{word_count}
use Rattle.slots.specs.Walk.{rest}
use Rattle.slots.proofs.walking.SlotsIterator.next.Given as goal

abbrev pub invariant-loop-self : goal.invariant-loop-self
invariant-loop-self l = rest l.self ≡ rest l.fn.self

abbrev pub decreases-loop-self : goal.decreases-loop-self
decreases-loop-self l = word_count - l.self.word
