-- The slots of the first word, and those of the words after it.
use Rattle.std.proofs.Common.{sym, ◌∙◌, arith}
use Rattle.slots.specs.Walk.{rest}
use Rattle.slots.proofs.Steps.{all_from, enter}
use Rattle.slots.proofs.SlotSet.slots.Goals as goal

pub returns : goal.returns
unfolding rest
returns c = let ws = c.args.self.words in sym (enter ws 0 (omega arith)) ∙ all_from ws
