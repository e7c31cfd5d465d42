use Rattle.std.proofs.Common.{ℕ, ap, sym, subst, ◌+◌, ◌∙◌, arith}
use Rattle.rules.specs.Batches.{silent}
use Rattle.group.specs.Columns.{view_members}
use Rattle.group.proofs.Columns.{members_long}
use Rattle.group.specs.declared.members.Members.{Members}
use Rattle.judging.proofs.Ticks.{Silenced, all_silenced, marked, none_silenced, unmarked}
use Rattle.judging.proofs.retiming.silence.Invariants.{since}
use Rattle.judging.proofs.retiming.silence.Goals as goal
use Rattle.judging.proofs.retiming.silence.Goals.{then-gone-p, else-gone-p}

pub loop-p-init : goal.loop-p-init
loop-p-init c = none_silenced _ _ _

pub loop-p-preserved : goal.loop-p-preserved
loop-p-preserved c =
    let l = c.loop-p in
    let keeps : Members → Type 0 = λ m. Silenced c.elapsed-since.result c.args.gone.now (view_members c.args.members.now.cells) (view_members m.cells) (l.p + 1) in
    elim c.if-gone-p.branch [
      | then-gone-p w ↦ subst keeps (sym w.members-is) (marked _ _ _ _ _ l.invariant _ (members_long _) (omega arith) w.hear.ensures w.if-gone-p.true)
      | else-gone-p w ↦ subst keeps (sym w.members-is) (unmarked _ _ _ _ _ l.invariant w.if-gone-p.false)
    ]

pub returns : goal.returns
returns c ps m =
    all_silenced _ _ _ _ ps _ (omega arith) c.loop-p.invariant m
    ∙ ap (λ (s : ℕ). silent s ps 0 (view_members c.args.members.now.cells)) (since _ _ c.elapsed-since.ensures)
