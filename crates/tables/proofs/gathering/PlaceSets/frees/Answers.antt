-- By the tests: P is empty, is freed, or is kept.
use Rattle.std.proofs.Common.{rules}
use Rattle.tables.proofs.SetSteps.{sets_none, sets_free, sets_kept}
use Rattle.tables.proofs.gathering.PlaceSets.frees.Goals as goal

pub returns-then-is_empty : goal.returns-then-is_empty
returns-then-is_empty c = let e = c.is_empty in sets_none c.args.self (search rules) e.result e.ensures c.if-is_empty.true _

pub returns-then-lists_none : goal.returns-then-lists_none
returns-then-lists_none c =
    let e = c.is_empty in
    sets_free c.args.self (search rules) e.result e.ensures c.if-is_empty.false c.args.owned _ c.lists_none.ensures c.if-lists_none.true

pub returns : goal.returns
returns c =
    let e = c.is_empty in
    sets_kept c.args.self (search rules) e.result e.ensures c.if-is_empty.false c.args.owned _ c.lists_none.ensures c.if-lists_none.false
