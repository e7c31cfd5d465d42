-- By the way to each return: the place waits, it claims, or its strays are revoked (`SetSteps`).
use Rattle.std.proofs.Common.{refl, rules}
use Rattle.tables.specs.Advances.{listed}
use Rattle.tables.proofs.SetSteps.{sets_wait, sets_revoke, sets_claim}
use Rattle.tables.proofs.gathering.PlaceSets.advance.Goals as goal

pub returns-in_default : goal.returns-in_default
returns-in_default c = sets_wait c.args.self (listed c.args.owned) (rw c.in_default.is at c.frees.ensures)

pub returns-then-moves : goal.returns-then-moves
returns-then-moves c =
    let a = c.args in
    let strays = c.difference-strays in
    let none = c.is_empty in
    let outside = c.difference-outside in
    let regained = c.difference-regained in
    let claimed = c.union-claimed in
    let after = c.union in
    let empty = c.empty in
    let idle = c.is_empty-then-is_empty in
    sets_claim a.self (listed a.owned) c.in-Some.frees c.in-Some.ensures
    strays.result (search rules) strays.ensures none.result none.ensures c.if-is_empty.true
    outside.result regained.result claimed.result after.result empty.result idle.result _
    outside.ensures regained.ensures claimed.ensures after.ensures empty.ensures (search rules) idle.ensures (rw c.if-moves.true refl)

pub returns-else-moves : goal.returns-else-moves
returns-else-moves c =
    let a = c.args in
    let strays = c.difference-strays in
    let none = c.is_empty in
    let outside = c.difference-outside in
    let regained = c.difference-regained in
    let claimed = c.union-claimed in
    let after = c.union in
    let empty = c.empty in
    let idle = c.is_empty-then-is_empty in
    sets_claim a.self (listed a.owned) c.in-Some.frees c.in-Some.ensures
    strays.result (search rules) strays.ensures none.result none.ensures c.if-is_empty.true
    outside.result regained.result claimed.result after.result empty.result idle.result _
    outside.ensures regained.ensures claimed.ensures after.ensures empty.ensures (search rules) idle.ensures (rw c.if-moves.false refl)

pub returns : goal.returns
returns c =
    let a = c.args in
    let strays = c.difference-strays in
    let none = c.is_empty in
    sets_revoke a.self (listed a.owned) c.in-Some.frees c.in-Some.ensures
    strays.result (search rules) strays.ensures none.result none.ensures c.if-is_empty.false
    c.difference.result c.difference.ensures
