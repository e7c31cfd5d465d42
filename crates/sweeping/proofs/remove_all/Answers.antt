use Rattle.std.proofs.Common.{arith, refl}
use Rattle.sweeping.proofs.Leaving.{removed, remove_one, remove_none, remove_end}
use Rattle.sweeping.proofs.remove_all.Goals.{in-Some, in_default}
use Rattle.sweeping.proofs.remove_all.Goals as goal

pub loop-leaver-init : goal.loop-leaver-init
loop-leaver-init c = record { left = refl; head = refl; topics = refl }

pub loop-leaver-preserved : goal.loop-leaver-preserved
loop-leaver-preserved c =
    let s = c.loop-leaver.invariant in
    elim c.match-leaver.branch [
      | in-Some w ↦ rw w.group-is (remove_one s _ (omega arith) w.in-Some.is refl refl (removed _ _ _ refl refl w.vacate.ensures.members w.vacate-in-Some.ensures))
      | in_default w ↦ rw w.group-is (remove_none s (omega arith) w.in_default.is)
    ]

pub returns : goal.returns
returns c = remove_end c.loop-leaver.invariant (omega arith)
