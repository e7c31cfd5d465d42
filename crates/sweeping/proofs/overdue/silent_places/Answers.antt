use Rattle.std.proofs.Common.{arith, false, ◌∙◌, get_or}
use mathlib.Core.Option.{none}
use Rattle.rules.specs.Effects.{due}
use Rattle.group.specs.Columns.{view_members}
use Rattle.slots.proofs.Each.{store_next}
use Rattle.sweeping.proofs.Marking.{silent_is}
use Rattle.sweeping.proofs.overdue.silent_places.Goals as goal

pub loop-p-preserved : goal.loop-p-preserved
loop-p-preserved c =
    let a = c.args in
    let l = c.loop-p in
    store_next (λ p. due a.tick false (get_or (view_members a.members.now.cells) p none)) false l.goes-items l.p _ (omega arith) l.invariant
    (c.is_silent.ensures ∙ silent_is a.members.now.cells a.tick l.p (omega arith))
