-- Where the place is no slot's target and holds none, there is nothing to vacate.
use Rattle.std.proofs.Common.{sym, ◌∙◌}
use Rattle.rules.proofs.Lists.{or_false}
use Rattle.tables.proofs.Telling.{vacated_none}
use Rattle.joining.proofs.vacate.Goals as goal

pub returns-else-aimed-is_holder : goal.returns-else-aimed-is_holder
returns-else-aimed-is_holder c = λ e.
    let z = or_false _ _ c.if-aimed-is_holder.false in
    sym (vacated_none _ _ (sym e ∙ z.0) (sym c.is_holder.ensures ∙ z.1))
