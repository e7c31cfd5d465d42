use Rattle.std.proofs.Common.{◌∙◌, rules, tests}
use Rattle.std.proofs.lemmas.Iterator.{YieldsList-from_slice}
use Rattle.std.proofs.lemmas.Iterator.Search.{any_from_yields_List}
use Rattle.slots.specs.Set.{has}
use Rattle.tables.proofs.Lists.{any_is}
use Rattle.tables.proofs.advancing.meets.Goals as goal

pub returns : goal.returns
returns c =
    let a = c.args in
    any_from_yields_List (has a.set.words) _ _ _ c.any.ensures.ran (YieldsList-from_slice a.list.now cc) (λ x b q k. search (rules, tests))
    ∙ any_is (has a.set.words) a.list.now
