use Rattle.std.proofs.Common.{arith, false, refl, ap, ◌∙◌, length-set, take_all}
use lib.ListN.{get_or-replicate}
use Rattle.rules.specs.Basics.{any}
use Rattle.rules.specs.Constants.{max_members}
use Rattle.rules.specs.Group.{revoking}
use Rattle.tables.specs.View.{slots_in}
use Rattle.tables.proofs.Viewing.{view_slots}
use Rattle.sweeping.proofs.Marking.{mark_none, mark_one, mark_past}
use Rattle.sweeping.proofs.overdue.revoking_places.Goals.{then-waits+then-p-lt-MEMBERS, then-waits+else-p-lt-MEMBERS, else-waits}
use Rattle.sweeping.proofs.overdue.revoking_places.Goals as goal

pub loop-s-init : goal.loop-s-init
loop-s-init c = record { long = refl; marked = λ p q. get_or-replicate max_members p false false q }

pub loop-s-preserved : goal.loop-s-preserved
loop-s-preserved c =
    let t = c.args.tables.now in
    let l = c.loop-s in
    let m = l.invariant.marked in
    elim c.if-waits.branch [
      | then-waits+then-p-lt-MEMBERS w ↦ rw w.marks-is (record { long = simp length-set l.invariant.long; marked = mark_one t (omega arith) (omega arith) (omega arith) (omega arith) l.marks m w.if-waits.true l.invariant.long (omega arith) })
      | then-waits+else-p-lt-MEMBERS w ↦ rw w.marks-is (record { long = l.invariant.long; marked = mark_past t (omega arith) (omega arith) (omega arith) (omega arith) l.marks m w.if-waits.true (omega arith) })
      | else-waits w ↦ rw w.marks-is (record { long = l.invariant.long; marked = mark_none t (omega arith) (omega arith) (omega arith) (omega arith) l.marks m w.if-waits.false })
    ]

pub returns : goal.returns
returns c =
    let t = c.args.tables.now in
    λ p q. c.loop-s.invariant.marked p q ∙ ap (any (revoking p)) (take_all c.loop-s.s (slots_in t) (omega (arith, view_slots t.target t.holder t.waiting (omega arith) (omega arith) (omega arith))))
