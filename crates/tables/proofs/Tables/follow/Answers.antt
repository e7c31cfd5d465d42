use Rattle.std.proofs.Common.{true, false, rules}
use Rattle.tables.specs.Changes.{moved_by}
use Rattle.tables.proofs.Changed.{changed_each}
use Rattle.tables.proofs.Tables.follow.Goals as goal

pub returns-in-Revokes : goal.returns-in-Revokes
returns-in-Revokes c =
    let a = c.args in
    rw c.in-Revokes.is (changed_each (moved_by c.in-Revokes.frees true a.p.0) a.self.now c.change_each.new.self (search rules) c.change_each.ensures.whole
    (λ s l. search (rules, c.change_each.ensures.each s l)))

pub returns-in-Claims : goal.returns-in-Claims
returns-in-Claims c =
    let a = c.args in
    let e = c.change_each-in-Claims in
    rw c.in-Claims.is (changed_each (moved_by c.in-Claims.frees false a.p.0) a.self.now e.new.self (search rules) e.ensures.whole
    (λ s l. search (rules, e.ensures.each s l)))
