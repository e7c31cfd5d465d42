use Rattle.std.proofs.Common.{◌≡◌, refl, ap, ◌∙◌}
use mathlib.Core.List.{append-nil}
use Rattle.rules.specs.Records.{differences}
use Rattle.numbers.proofs.Writing.{begin, room_at, put_at_lem, ended}
use Rattle.slots.specs.Set.{slots_of}
use Rattle.slots.specs.Walk.{rest}
use Rattle.records.proofs.Differences.{slots_rise, rises_first, difference_first}
use Rattle.records.proofs.sets.put_differences.Goals.{After-into_iter-slot-iterator}
use Rattle.records.proofs.sets.put_differences.Goals as goal

-- before the loop all the slots are to come
all : (c : After-into_iter-slot-iterator) → rest c.into_iter-slot-iterator.result ≡ slots_of c.args.set.words
all c = ap rest c.into_iter-slot-iterator.ensures.into_iter_gives ∙ c.slots-slot-items.ensures

pub loop-slot-init : goal.loop-slot-init
loop-slot-init c = rw (all c) (slots_rise c.args.set.words, begin _ _ _ (append-nil _) c.requires)

pub put_at-at-requires : goal.put_at-at-requires
put_at-at-requires c = room_at (difference_first _ c.in-Some.ensures.steps c.loop-slot.invariant.1)

pub loop-slot-preserved : goal.loop-slot-preserved
loop-slot-preserved c =
    let e = c.in-Some.ensures.steps in
    ((rises_first _ e c.loop-slot.invariant.0).1, put_at_lem (difference_first _ e c.loop-slot.invariant.1) c.put_at-at.ensures)

pub returns : goal.returns
unfolding differences
returns c = ended (rw c.in-None.ensures.steps.0 at c.loop-slot.invariant.1) refl
