-- The differences of the place's slots go to the front of the buffer, and those of the slots from `slot` on are to come, the first of them from `last`. `slot` is the
-- place's, unless it is past the last slot; what lies between it and the next is stepped over.
use Rattle.std.proofs.Common.{◌≡◌, true, [], ◌∷◌, ◌-◌, ◌≤◌, ◌<◌}
use Rattle.rules.specs.Constants.{slot_count}
use Rattle.rules.specs.Group.{set_m}
use Rattle.rules.specs.Records.{differences}
use Rattle.numbers.proofs.Writing.{Writing}
use Rattle.installing.specs.Targets.{unheld}
use Rattle.installing.specs.Links.{is_of, slots_from}
use Rattle.installing.proofs.retargeting.Links.put_differences.Given as goal

abbrev pub invariant-loop-slot : goal.invariant-loop-slot
invariant-loop-slot l =
    let target = l.self.target.now in
    let p = l.fn.p.0 in
    record {
      most : l.slot ≤ slot_count;
      rising : l.last ≤ l.slot;
      own : l.slot < slot_count → is_of target p l.slot ≡ true;
      writing : Writing (differences 0 (set_m p (unheld target))) l.initial.buf l.buf l.at (differences l.last (slots_from target p l.slot) ∷ []);
    }

abbrev pub decreases-loop-slot : goal.decreases-loop-slot
decreases-loop-slot l = slot_count - l.slot
