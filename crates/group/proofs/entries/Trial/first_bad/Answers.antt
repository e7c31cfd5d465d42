use Rattle.std.proofs.Common.{sym, refl, ◌∙◌, arith}
use Rattle.group.proofs.Installing.{first_here, first_later, first_nowhere}
use Rattle.group.proofs.entries.Trial.first_bad.Goals as goal

pub loop-slot-init : goal.loop-slot-init
loop-slot-init c = refl

pub returns-then-is_bad : goal.returns-then-is_bad
returns-then-is_bad c =
    let l = c.loop-slot in
    sym (first_here _ c.args.entries.now l.slot (omega arith) (sym c.is_bad.ensures ∙ c.if-is_bad.true)) ∙ l.invariant

pub loop-slot-preserved : goal.loop-slot-preserved
loop-slot-preserved c =
    let l = c.loop-slot in
    first_later _ c.args.entries.now l.slot (omega arith) (sym c.is_bad.ensures ∙ c.if-is_bad.false) ∙ l.invariant

pub returns : goal.returns
returns c =
    let l = c.loop-slot in
    sym (first_nowhere _ c.args.entries.now l.slot (omega arith)) ∙ l.invariant
