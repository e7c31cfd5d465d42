use Rattle.std.proofs.Common.{rules}
use Rattle.rules.specs.Effects.{vacated}
use Rattle.tables.proofs.Changed.{changed_each}
use Rattle.tables.proofs.Tables.vacate.Goals as goal

pub returns : goal.returns
returns c =
    changed_each (vacated c.args.p.0) c.args.self.now c.change_each.new.self (search rules) c.change_each.ensures.whole (λ s l. search (rules, c.change_each.ensures.each s l))
