use Rattle.std.proofs.Common.{◌≡◌, [], length, ap, rules}
use Rattle.tables.specs.Walk.{rest}
use Rattle.tables.proofs.NearSlots.{over, gives}
use Rattle.tables.proofs.walking.SlotsNearIterator.next.Goals as goal

pub returns-in_err-slot-clause-steps : goal.returns-in_err-slot-clause-steps
unfolding rest
returns-in_err-slot-clause-steps c =
    let w = c.args.self.now in
    let e : rest w ≡ [] = over w.tables.now w.place.0 w.from (search rules) c.in_err-slot.ensures in
    rw c.from_residual.ensures ((e, e), tt)

pub returns-clause-steps : goal.returns-clause-steps
unfolding rest
returns-clause-steps c = let w = c.args.self.now in (gives w.tables.now w.place.0 w.from c.in_ok-slot.slot c.in_ok-slot.ensures, c.in_ok-slot.ensures.1)

pub returns-clause-goes : goal.returns-clause-goes
returns-clause-goes c = let shorter = ap length (returns-clause-steps c).0 in search rules
