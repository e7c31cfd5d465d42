-- A member is due by the mark of its place; where no slot waits, no place has slots to give back.
use Rattle.std.proofs.Common.{false, sym, ◌∙◌}
use Rattle.sweeping.specs.Marks.{mark}
use Rattle.sweeping.proofs.Marking.{none_revoking, due_overdue}
use Rattle.sweeping.proofs.overdue.overdue_places.Goals as goal

pub returns-then-any_waits : goal.returns-then-any_waits
returns-then-any_waits c =
    let revoking = c.revoking_places-revoking in
    due_overdue c.args.tick (mark revoking.result) c.due_places.result c.due_places.ensures revoking.ensures

pub returns : goal.returns
returns c =
    let a = c.args in
    let t = a.tables.now in
    due_overdue a.tick (λ p. false) c.silent_places.result c.silent_places.ensures
    (λ p q. sym (none_revoking t.target t.holder t.waiting (sym c.any_waits.ensures ∙ c.if-any_waits.false) p))
