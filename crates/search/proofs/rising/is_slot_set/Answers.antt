-- Where the list rises, its last entry decides.
use Rattle.std.proofs.Common.{◌≡◌, ◌-◌, length, get_or, arith}
use Rattle.search.proofs.SlotSets.{empty_set, last_tells}
use Rattle.search.proofs.rising.is_slot_set.Goals as goal

pub returns-then-rises : goal.returns-then-rises
returns-then-rises c =
    let l = c.args.list.now in
    let some = c.in-Some.ensures.item.3 in
    let e : c.in-Some.last.now ≡ get_or l (length l - 1) 0 = some.1 0 in
    rw e (last_tells l some.0 (c.rises.ensures.0 c.if-rises.true))

pub returns-in-None : goal.returns-in-None
returns-in-None c = empty_set c.args.list.now (omega (arith, c.in-None.ensures.item.3))
