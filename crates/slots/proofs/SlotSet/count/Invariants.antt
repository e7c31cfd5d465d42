-- The ones of the words passed are the slots below the next word's (`word_more`).
use Rattle.std.proofs.Common.{◌≡◌, ◌*◌, ◌≤◌, length}
use Rattle.slots.specs.Set.{has, select, word_count}
use Rattle.slots.proofs.SlotSet.count.Given as goal

abbrev pub invariant-loop-word : goal.invariant-loop-word
invariant-loop-word l = (l.word-index ≤ word_count) × (l.n ≡ length (select (has l.fn.self.words) 0 (l.word-index * 64)))
