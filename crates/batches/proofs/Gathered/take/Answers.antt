-- What the arm of a kind adds is what its record says.
use Rattle.std.proofs.Common.{refl, sym, arith}
use Rattle.rules.specs.Records.{parts_of, placed, places_of}
use Rattle.rules.specs.Batches.{laid_over}
use Rattle.batches.proofs.More.{adds_current_gone, adds_target, marks_none, marks_some, taken, there}
use Rattle.batches.proofs.Gathered.take.Goals as goal

pub returns-in-GroupEpoch : goal.returns-in-GroupEpoch
unfolding placed places_of parts_of
returns-in-GroupEpoch c = rw c.in-GroupEpoch.is (taken _ refl c.with_epoch.ensures marks_none refl)

pub returns-in-Topic : goal.returns-in-Topic
unfolding placed places_of parts_of
returns-in-Topic c = rw c.in-Topic.is (taken _ refl c.with_topic.ensures marks_none refl)

pub returns-in-TargetEpoch : goal.returns-in-TargetEpoch
unfolding placed places_of parts_of
returns-in-TargetEpoch c = rw c.in-TargetEpoch.is (taken _ refl c.with_target_epoch.ensures marks_none refl)

pub returns-in_ok-ok-in-Member : goal.returns-in_ok-ok-in-Member
unfolding placed places_of parts_of
returns-in_ok-ok-in-Member c =
    let at = there _ _ _ c.try_from.ensures c.in_ok-ok-in-Member.ensures.value in
    rw c.in-Member.is (taken _ at.placed c.with_member.ensures marks_none refl)

pub returns-in_ok-place-in-MemberGone : goal.returns-in_ok-place-in-MemberGone
unfolding placed places_of parts_of
returns-in_ok-place-in-MemberGone c =
    let at = there _ _ _ c.try_from-in-MemberGone.ensures c.in_ok-place-in-MemberGone.ensures.value in
    rw c.in-MemberGone.is (taken _ at.placed (c.with_gone.ensures _) (marks_some _ _ at.same (omega arith)) refl)

pub returns-in_ok-place-in-Target : goal.returns-in_ok-place-in-Target
unfolding placed places_of parts_of laid_over
returns-in_ok-place-in-Target c =
    let at = there _ _ _ c.try_from-in-Target.ensures c.in_ok-place-in-Target.ensures.value in
    rw c.in-Target.is (taken _ at.placed (adds_target _ _) marks_none (rw (sym at.same) c.lay.ensures))

pub returns-in_ok-ok-in-Current : goal.returns-in_ok-ok-in-Current
unfolding placed places_of parts_of
returns-in_ok-ok-in-Current c =
    let at = there _ _ _ c.try_from-in-Current.ensures c.in_ok-ok-in-Current.ensures.value in
    rw c.in-Current.is (taken _ at.placed (c.with_current.ensures _ _) marks_none refl)

pub returns-in_ok-ok-in-CurrentGone : goal.returns-in_ok-ok-in-CurrentGone
unfolding placed places_of parts_of
returns-in_ok-ok-in-CurrentGone c =
    let at = there _ _ _ c.try_from-in-CurrentGone.ensures c.in_ok-ok-in-CurrentGone.ensures.value in
    rw c.in-CurrentGone.is (taken _ at.placed (adds_current_gone _ _) marks_none refl)
