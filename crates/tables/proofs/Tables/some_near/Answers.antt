use Rattle.std.proofs.Common.{◌+◌, sym, ◌∙◌, arith}
use Rattle.rules.proofs.Lists.{or_false}
use Rattle.tables.specs.View.{slot_at}
use Rattle.tables.specs.Places.{near}
use Rattle.tables.proofs.Nearness.{none_more}
use Rattle.tables.proofs.Tables.some_near.Goals as goal

pub loop-i-init : goal.loop-i-init
loop-i-init c = λ z s p q. absurd (omega arith)

pub loop-i-preserved : goal.loop-i-preserved
loop-i-preserved c =
    let l = c.loop-i in
    let a = c.args in
    λ z s p q. let o = or_false l.some c.is_near-some.result z in
    none_more (λ j. near a.p.0 (slot_at a.self.now j)) a.from (a.from + l.i) (l.invariant o.0)
    (sym c.is_near-some.ensures.tells ∙ o.1) s p (omega arith)
