use Rattle.std.proofs.Common.{ap, ◌∙◌, arith, append-nil}
use Rattle.slots.specs.Walk.{rest}
use Rattle.numbers.proofs.Writing.{begin, to_go₁, same_len, put_one, ended}
use Rattle.slots.proofs.list_slots.Goals as goal

pub loop-slot-init : goal.loop-slot-init
loop-slot-init c =
    let e = ap rest c.into_iter-slot-iterator.ensures.into_iter_gives ∙ c.slots-slot-items.ensures in
    begin _ _ _ (append-nil _ ∙ e) c.requires

pub offset_bounds-out-at : goal.offset_bounds-out-at
offset_bounds-out-at c = let s = rw c.in-Some.ensures.steps at c.loop-slot.invariant in omega (arith, to_go₁ s, same_len s, s.fits)

pub bounds-out-at : goal.bounds-out-at
bounds-out-at c = let s = rw c.in-Some.ensures.steps at c.loop-slot.invariant in omega (arith, to_go₁ s, same_len s, s.fits)

pub overflow_add-at : goal.overflow_add-at
overflow_add-at c = let s = rw c.in-Some.ensures.steps at c.loop-slot.invariant in omega (arith, to_go₁ s, s.fits)

pub loop-slot-preserved : goal.loop-slot-preserved
loop-slot-preserved c = put_one (rw c.in-Some.ensures.steps at c.loop-slot.invariant)

pub returns : goal.returns
returns c = ended c.loop-slot.invariant (append-nil _ ∙ c.in-None.ensures.steps.0)
